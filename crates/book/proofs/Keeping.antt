-- What a book keeps to through every call: its marks, and a held figure that is the figure of what stands. Assumes nothing.
use Rattle.std.proofs.Common.{◌≡◌, ℕ, zero, suc, ◌+◌, ◌<◌, ◌≤◌, true, false, List, map, length, get_or, take, set, replicate, is_some, Some, None, Option, sym, refl, ap, ◌∙◌, ap₂, ⊎_elim}
use Rattle.std.proofs.lemmas.List.{get_or-set_same, get_or-set_other, map-set, set-get_or, set_past}
use Rattle.std.proofs.lemmas.Bool.{both_ways, cases_eq, cases_lt}
use Rattle.structure.specs.Meanings.{Meaning}
use Rattle.sheet.specs.declared.refusal.Refusal.{Refusal}
use Rattle.sheet.specs.declared.row.Row.{Row}
use Rattle.structure.specs.Layers.{hold}
use Rattle.sheet.specs.Figure.{figure_of, floor}
use Rattle.sheet.specs.Rows.{blank_row, counts_as_failed, rating_in_force, unless}
use Rattle.sheet.specs.SheetFigure.{figure_at}
use Rattle.sheet.specs.Sheets.{Page, blank_page, failed_parts, set_of, changed, row_of}
use Rattle.sheet.proofs.FailedParts.{failed_set}
use Rattle.book.specs.Entries.{Written, altered, repriced}
use Rattle.book.proofs.Standings.{set_of_same}

abbrev pub Kept : Meaning → Written → Type 0
Kept m w = record {
  fits : m.order ≡ w.page.order;
  standing : w.failed ≡ failed_parts w.page;
  figure : (units : ℕ) → w.held ≡ Some units → units ≡ figure_at m w.page;
}

pub none_held : {A : Type 0} (units : ℕ) → ◌≡◌ {A = Option ℕ} None (Some units) → A
none_held units e = absurd (both_ways true (sym (ap is_some e)) refl)

-- ---- what a call makes of a sheet has its order, and is the sheet itself where the call was refused

pub altered_kept : (m : Meaning) (why : Option Refusal) (new : Page) (before : Written) → new.order ≡ before.page.order → Kept m before → Kept m (altered (unless why new before.page) before).1
altered_kept m None new before same kept = record { fits = kept.fits ∙ sym same; standing = refl; figure = λ units e. none_held units e }
altered_kept m (Some why) new before same kept = kept

pub repriced_kept : (m : Meaning) (why : Option Refusal) (new : Page) (before : Written) → new.order ≡ before.page.order → failed_parts new ≡ failed_parts before.page → figure_at m new ≡ figure_at m before.page → Kept m before → Kept m (repriced (unless why new before.page) before).1
repriced_kept m None new before same marks figure kept =
    record { fits = kept.fits ∙ sym same; standing = kept.standing ∙ sym marks; figure = λ units e. kept.figure units e ∙ sym figure }
repriced_kept m (Some why) new before same marks figure kept = kept

-- ---- a change of one row that leaves what is read of it

pub unread : {B : Type 0} (read : Row → B) (change : Row → Row) → ((row : Row) → read (change row) ≡ read row) → (rows : List Row) (part i : ℕ) → read (get_or (set rows part (change (get_or rows part blank_row))) i blank_row) ≡ read (get_or rows i blank_row)
unread read change same rows part i =
    ⊎_elim
    (λ (lt : part < length rows). ⊎_elim
    (λ (e : i ≡ part). ap (λ k. read (get_or (set rows part (change (get_or rows part blank_row))) k blank_row)) e
    ∙ ap read (get_or-set_same rows part (change (get_or rows part blank_row)) blank_row lt) ∙ same (get_or rows part blank_row) ∙ ap (λ k. read (get_or rows k blank_row)) (sym e))
    (λ ne. ap read (get_or-set_other rows part i (change (get_or rows part blank_row)) blank_row ne))
    (cases_eq i part))
    (λ (ge : length rows ≤ part). ap (λ rs. read (get_or rs i blank_row)) (set_past rows part (change (get_or rows part blank_row)) ge))
    (cases_lt part (length rows))

pub marks_unread : (change : Row → Row) → ((row : Row) → counts_as_failed (change row) ≡ counts_as_failed row) → (part : ℕ) (p : Page) → failed_parts (changed change part p) ≡ failed_parts p
marks_unread change same part p =
    failed_set p.order (changed change part p).rows
    ∙ set_of_same (λ i. counts_as_failed (row_of i (changed change part p))) (λ i. counts_as_failed (row_of i p)) p.order
    (λ i lt. unread counts_as_failed change same p.rows part i)
    ∙ sym (failed_set p.order p.rows)

ratings_unread : (change : Row → Row) → ((row : Row) → rating_in_force (change row) ≡ rating_in_force row) → (part : ℕ) (rows : List Row) → map rating_in_force (set rows part (change (get_or rows part blank_row))) ≡ map rating_in_force rows
ratings_unread change same part rows =
    map-set rating_in_force rows part (change (get_or rows part blank_row))
    ∙ ap (set (map rating_in_force rows) part) (same (get_or rows part blank_row))
    ∙ sym (map-set rating_in_force rows part (get_or rows part blank_row))
    ∙ ap (map rating_in_force) (set-get_or rows part blank_row)

pub figure_unread : (m : Meaning) (change : Row → Row) → ((row : Row) → counts_as_failed (change row) ≡ counts_as_failed row) → ((row : Row) → rating_in_force (change row) ≡ rating_in_force row) → (part : ℕ) (p : Page) → figure_at m (changed change part p) ≡ figure_at m p
figure_unread m change marks ratings part p =
    ap₂ (λ failed rs. figure_of floor (hold failed m) (take m.order rs)) (marks_unread change marks part p) (ratings_unread change ratings part p.rows)

-- ---- a book just opened

pub blank_read : (n i : ℕ) → get_or (replicate n blank_row) i blank_row ≡ blank_row
blank_read zero zero = refl
blank_read zero (suc i) = refl
blank_read (suc n) zero = refl
blank_read (suc n) (suc i) = blank_read n i

none_in : (n : ℕ) → set_of (λ _. false) n ≡ 0
none_in zero = refl
none_in (suc n) = ap (λ x. x + 0) (none_in n)

pub blank_failed : (n : ℕ) → failed_parts (blank_page n) ≡ 0
blank_failed n = failed_set n (replicate 16 blank_row) ∙ set_of_same (λ i. counts_as_failed (row_of i (blank_page n))) (λ _. false) n (λ i lt. ap counts_as_failed (blank_read 16 i)) ∙ none_in n
