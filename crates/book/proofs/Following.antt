-- A book goes on to agree with its history, whatever is called. Assumes nothing.
use Rattle.std.proofs.Common.{◌≡◌, ℕ, ◌<◌, ◌≤◌, Bool, true, false, cond, eqb, ltb, List, ◌∷◌, map, length, get_or, set, is_some, Some, None, Option, Result, sym, refl, ap, ◌∙◌, subst, ap₂, arith}
use Rattle.std.proofs.lemmas.List.{length-map, get_or-map}
use Rattle.std.proofs.lemmas.Bool.{ltb-true, both_ways}
use Rattle.structure.specs.Meanings.{Meaning, Same}
use Rattle.sheet.specs.declared.refusal.Refusal.{Refusal}
use Rattle.sheet.specs.declared.refusal.Refusal.TheVariants.{Part}
use Rattle.sheet.specs.declared.row.Row.{Row}
use Rattle.structure.specs.Layers.{hold}
use Rattle.sheet.specs.Figure.{figure_of, floor}
use Rattle.sheet.specs.Importance.{importance_of, importance_at}
use Rattle.sheet.specs.SheetFigure.{figure_at, ratings_at, station_at}
use Rattle.sheet.specs.Rows.{blank_row, counts_as_failed, rating_in_force, unless, with_rating, with_price, with_mark}
use Rattle.sheet.specs.Sheets.{Page, row_of, set_of, failed_parts, changed, rated, priced, taken_out, put_back, rate_refused, price_refused, withdraw_refused, put_back_refused}
use Rattle.sheet.proofs.FailedParts.{failed_set}
use Rattle.book.specs.Answers.{Answer, ruled}
use Rattle.book.specs.Following.{done_or}
use Rattle.book.specs.Agreement.{PageAgrees, Agreed}
use Rattle.book.specs.Entries.{Written, altered, repriced}
use Rattle.book.specs.History.{Deed, Rate, SetPrice, Withdraw, PutBack, AskFigure, withdrawn, rating, price, held, on_part, refused, verdict, noted, next}
use Rattle.book.specs.Standing.{standing, ratings, figure_after, importance_after}
use Rattle.book.specs.Told.{changes}
use Rattle.book.proofs.Acceptance.{passes}
use Rattle.book.proofs.Agreement.{refused_same, read_written}
use Rattle.book.proofs.Keeping.{unread}
use Rattle.book.proofs.Standings.{set_of_same, ratings_taken, ratings_long}
use Rattle.book.proofs.Sameness.{hold_same, figure_same, importance_same}

-- ---- one row changed on a page that agrees

module _ (n : ℕ) (past : List Deed) (p : Page) (agrees : PageAgrees n past p) (part : ℕ) (there : part < length p.rows) where
  -- what is newly read of each part, where one row was written
  written_as : {B : Type 0} (read : Row → B) (row : Row) (said : ℕ → B) → ((i : ℕ) → i < n → read (row_of i p) ≡ said i) → (i : ℕ) → i < n → read (get_or (set p.rows part row) i blank_row) ≡ cond (eqb part i) (read row) (said i)
  written_as read row said same i lt = read_written read p.rows part row i blank_row there ∙ ap (cond (eqb part i) (read row)) (same i lt)

  left_as : {B : Type 0} (read : Row → B) (change : Row → Row) → ((row : Row) → read (change row) ≡ read row) → (said : ℕ → B) → ((i : ℕ) → i < n → read (row_of i p) ≡ said i) → (i : ℕ) → i < n → read (row_of i (changed change part p)) ≡ said i
  left_as read change kept said same i lt = unread read change kept p.rows part i ∙ same i lt

  pub rate_agrees : (new : ℕ) → PageAgrees n (Rate part new ∷ past) (changed (with_rating new) part p)
  rate_agrees new = record {
    marked = left_as counts_as_failed (with_rating new) (λ row. refl) (withdrawn past) agrees.marked;
    rated = written_as rating_in_force (with_rating new (row_of part p)) (rating past) agrees.rated;
    priced = left_as (λ row. row.price) (with_rating new) (λ row. refl) (price past) agrees.priced;
  }

  pub price_agrees : (new : ℕ) → PageAgrees n (SetPrice part new ∷ past) (changed (with_price new) part p)
  price_agrees new = record {
    marked = left_as counts_as_failed (with_price new) (λ row. refl) (withdrawn past) agrees.marked;
    rated = left_as rating_in_force (with_price new) (λ row. refl) (rating past) agrees.rated;
    priced = written_as (λ row. row.price) (with_price new (row_of part p)) (price past) agrees.priced;
  }

  pub withdraw_agrees : PageAgrees n (Withdraw part ∷ past) (changed (with_mark true) part p)
  withdraw_agrees = record {
    marked = written_as counts_as_failed (with_mark true (row_of part p)) (withdrawn past) agrees.marked;
    rated = left_as rating_in_force (with_mark true) (λ row. refl) (rating past) agrees.rated;
    priced = left_as (λ row. row.price) (with_mark true) (λ row. refl) (price past) agrees.priced;
  }

  pub put_back_agrees : PageAgrees n (PutBack part ∷ past) (changed (with_mark false) part p)
  put_back_agrees = record {
    marked = written_as counts_as_failed (with_mark false (row_of part p)) (withdrawn past) agrees.marked;
    rated = left_as rating_in_force (with_mark false) (λ row. refl) (rating past) agrees.rated;
    priced = left_as (λ row. row.price) (with_mark false) (λ row. refl) (price past) agrees.priced;
  }

-- ---- verdicts

-- a call that may move the figure lets go of the one held
not_held : (past : List Deed) (deed : Deed) → changes deed ≡ true → held (deed ∷ past) ≡ false
not_held past (Rate p r) e = refl
not_held past (SetPrice p x) e = absurd (both_ways false refl e)
not_held past (Withdraw p) e = refl
not_held past (PutBack p) e = refl
not_held past AskFigure e = absurd (both_ways false refl e)

some_if : (b : Bool) (units : ℕ) → is_some (cond b (Some units) None) ≡ b
some_if true units = refl
some_if false units = refl

module _ {m table : Meaning} {past : List Deed} {w : Written} (agreed : Agreed m past table w) where
  -- what a page refuses, the history refuses
  pub verdict_same : (deed : Deed) → refused w.page.order (λ i. counts_as_failed (row_of i w.page)) deed ≡ verdict m.order past deed
  verdict_same deed =
      ap (λ n. refused n (λ i. counts_as_failed (row_of i w.page)) deed) agreed.order
      ∙ refused_same m.order past (λ i. counts_as_failed (row_of i w.page)) agreed.rows.marked deed

  -- ---- the book after a call

  pub altered_agrees : (deed : Deed) → changes deed ≡ true → (new : Page) → new.order ≡ w.page.order → (verdict m.order past deed ≡ None → PageAgrees m.order (deed ∷ past) new) → (why : Option Refusal) → why ≡ verdict m.order past deed → Agreed m (noted why deed past) table (altered (unless why new w.page) w).1
  altered_agrees deed moves new same agrees None e = record {
    opened = agreed.opened;
    order = same ∙ agreed.order;
    rows = agrees (sym e);
    held = sym (ap (λ b. cond b (Some (figure_after floor m (deed ∷ past))) None) (not_held past deed moves));
  }
  altered_agrees deed moves new same agrees (Some why) e = agreed

  pub repriced_agrees : (part cost : ℕ) (new : Page) → new.order ≡ w.page.order → (verdict m.order past (SetPrice part cost) ≡ None → PageAgrees m.order (SetPrice part cost ∷ past) new) → (why : Option Refusal) → why ≡ verdict m.order past (SetPrice part cost) → Agreed m (noted why (SetPrice part cost) past) table (repriced (unless why new w.page) w).1
  repriced_agrees part cost new same agrees None e = record { opened = agreed.opened; order = same ∙ agreed.order; rows = agrees (sym e); held = agreed.held }
  repriced_agrees part cost new same agrees (Some why) e = agreed

  -- the answer of a call on one part, and the book after it
  done_altered : {W : Type 0} (why : Option Refusal) (new : Page) → ◌≡◌ {A = Answer W} (done_or (altered (unless why new w.page) w).0) (ruled why)
  done_altered None new = refl
  done_altered (Some why) new = refl

  done_repriced : {W : Type 0} (why : Option Refusal) (new : Page) → ◌≡◌ {A = Answer W} (done_or (repriced (unless why new w.page) w).0) (ruled why)
  done_repriced None new = refl
  done_repriced (Some why) new = refl

  pub altered_follows : {W : Type 0} (deed : Deed) → changes deed ≡ true → (new : Page) → new.order ≡ w.page.order → (verdict m.order past deed ≡ None → PageAgrees m.order (deed ∷ past) new) → (why : Option Refusal) → why ≡ verdict m.order past deed → (r : Result (Unit {0}) Refusal) (after : Written) → (r, after) ≡ altered (unless why new w.page) w → (◌≡◌ {A = Answer W} (done_or r) (ruled (verdict m.order past deed))) × Agreed m (next m.order past deed) table after
  altered_follows deed moves new same agrees why e r after is = (
    ap (λ x. done_or x.0) is ∙ done_altered why new ∙ ap ruled e,
    subst (Agreed m (next m.order past deed) table) (ap (λ x. x.1) (sym is))
        (subst (λ v. Agreed m (noted v deed past) table (altered (unless why new w.page) w).1) e (altered_agrees deed moves new same agrees why e)),
  )

  pub repriced_follows : {W : Type 0} (part cost : ℕ) (new : Page) → new.order ≡ w.page.order → (verdict m.order past (SetPrice part cost) ≡ None → PageAgrees m.order (SetPrice part cost ∷ past) new) → (why : Option Refusal) → why ≡ verdict m.order past (SetPrice part cost) → (r : Result (Unit {0}) Refusal) (after : Written) → (r, after) ≡ repriced (unless why new w.page) w → (◌≡◌ {A = Answer W} (done_or r) (ruled (verdict m.order past (SetPrice part cost)))) × Agreed m (next m.order past (SetPrice part cost)) table after
  repriced_follows part cost new same agrees why e r after is = (
    ap (λ x. done_or x.0) is ∙ done_repriced why new ∙ ap ruled e,
    subst (Agreed m (next m.order past (SetPrice part cost)) table) (ap (λ x. x.1) (sym is))
        (subst (λ v. Agreed m (noted v (SetPrice part cost) past) table (repriced (unless why new w.page) w).1) e (repriced_agrees part cost new same agrees why e)),
  )

  -- ---- what the book reads is what the history says

  module _ (sized : m.order ≤ 16) (whole : length w.page.rows ≡ 16) where
    pub failed_same : failed_parts w.page ≡ set_of (withdrawn past) m.order
    failed_same =
        failed_set w.page.order w.page.rows
        ∙ ap (set_of (λ i. counts_as_failed (row_of i w.page))) agreed.order
        ∙ set_of_same _ (withdrawn past) m.order agreed.rows.marked

    pub ratings_same : ratings_at m.order w.page ≡ ratings m.order past
    ratings_same =
        ratings_taken m.order past (map rating_in_force w.page.rows) (omega (arith, sized, whole, length-map w.page.rows rating_in_force))
        (λ part lt. get_or-map rating_in_force w.page.rows part blank_row 0 (omega (arith, sized, whole)) ∙ agreed.rows.rated part lt)

    pub station_same : Same (station_at table w.page) (standing m past)
    station_same = subst (λ set. Same (station_at table w.page) (hold set m)) failed_same (hold_same (failed_parts w.page) table m agreed.opened)

    ratings_so : ratings_at table.order w.page ≡ ratings m.order past
    ratings_so = ap (λ n. ratings_at n w.page) agreed.opened.order ∙ ratings_same

    long_so : length (ratings m.order past) ≡ table.order
    long_so = ratings_long m.order past ∙ sym agreed.opened.order

    pub figure_said : figure_at table w.page ≡ figure_after floor m past
    figure_said =
        ap (figure_of floor (station_at table w.page)) ratings_so
        ∙ figure_same floor (station_at table w.page) (standing m past) (ratings m.order past) station_same long_so

    pub importance_said_lem : (part : ℕ) → part < m.order → importance_at table w.page part ≡ importance_after floor m past part
    importance_said_lem part lt =
        ap₂ (λ set rs. importance_of floor table set rs part) failed_same ratings_so
        ∙ importance_same floor table m (set_of (withdrawn past) m.order) (ratings m.order past) part agreed.opened long_so (omega (arith, lt, agreed.opened.order))

    pub held_said : is_some w.held ≡ held past
    held_said = ap is_some agreed.held ∙ some_if (held past) (figure_after floor m past)

    pub figure_agrees : Agreed m (AskFigure ∷ past) table (record { page = w.page; failed = w.failed; held = Some (figure_at table w.page) })
    figure_agrees = record {
      opened = agreed.opened;
      order = agreed.order;
      rows = record { marked = agreed.rows.marked; rated = agreed.rows.rated; priced = agreed.rows.priced };
      held = ap Some figure_said;
    }

    -- ---- the calls on one part, on a page that there is

    on_part_lem : (part : ℕ) (rest : Option Refusal) → on_part m.order part rest ≡ None → part < length w.page.rows
    on_part_lem part rest e = omega (arith, ltb-true part m.order (passes (ltb part m.order) rest Part e).0, sized, whole)

    pub rate_follows : {W : Type 0} (part new : ℕ) (r : Result (Unit {0}) Refusal) (after : Written) → (r, after) ≡ altered (rated part new w.page) w → (◌≡◌ {A = Answer W} (done_or r) (ruled (verdict m.order past (Rate part new)))) × Agreed m (next m.order past (Rate part new)) table after
    rate_follows part new = altered_follows (Rate part new) refl (changed (with_rating new) part w.page) refl
        (λ e. rate_agrees m.order past w.page agreed.rows part (on_part_lem part _ e) new) (rate_refused part new w.page) (verdict_same (Rate part new))

    pub price_follows : {W : Type 0} (part new : ℕ) (r : Result (Unit {0}) Refusal) (after : Written) → (r, after) ≡ repriced (priced part new w.page) w → (◌≡◌ {A = Answer W} (done_or r) (ruled (verdict m.order past (SetPrice part new)))) × Agreed m (next m.order past (SetPrice part new)) table after
    price_follows part new = repriced_follows part new (changed (with_price new) part w.page) refl
        (λ e. price_agrees m.order past w.page agreed.rows part (on_part_lem part _ e) new) (price_refused part new w.page) (verdict_same (SetPrice part new))

    pub withdraw_follows : {W : Type 0} (part : ℕ) (r : Result (Unit {0}) Refusal) (after : Written) → (r, after) ≡ altered (taken_out part w.page) w → (◌≡◌ {A = Answer W} (done_or r) (ruled (verdict m.order past (Withdraw part)))) × Agreed m (next m.order past (Withdraw part)) table after
    withdraw_follows part = altered_follows (Withdraw part) refl (changed (with_mark true) part w.page) refl
        (λ e. withdraw_agrees m.order past w.page agreed.rows part (on_part_lem part _ e)) (withdraw_refused part w.page) (verdict_same (Withdraw part))

    pub put_back_follows : {W : Type 0} (part : ℕ) (r : Result (Unit {0}) Refusal) (after : Written) → (r, after) ≡ altered (put_back part w.page) w → (◌≡◌ {A = Answer W} (done_or r) (ruled (verdict m.order past (PutBack part)))) × Agreed m (next m.order past (PutBack part)) table after
    put_back_follows part = altered_follows (PutBack part) refl (changed (with_mark false) part w.page) refl
        (λ e. put_back_agrees m.order past w.page agreed.rows part (on_part_lem part _ e)) (put_back_refused part w.page) (verdict_same (PutBack part))
