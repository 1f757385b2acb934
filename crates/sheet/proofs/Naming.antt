-- Only one part, or none, fits what is said of the weakest part. Assumes nothing.
use Rattle.std.proofs.Common.{◌≡◌, ℕ, zero, suc, ◌+◌, ◌<◌, ◌≤◌, Bool, true, false, cond, not, ◌&&◌, ltb, List, [], ◌∷◌, Some, None, Ok, Option, sym, refl, ap, ◌∙◌, ⊎_elim, arith}
use Rattle.std.proofs.lemmas.Bool.{cases_Bool, cases_eq, and_parts, and_from, and_left, and_right, not_from_false, not_from_true, not-true, eq-eqb, lt-ltb, ltb-true}
use Rattle.structure.specs.Meanings.{Meaning}
use Rattle.analysis.specs.Minimal.{keep, rising}
use Rattle.analysis.proofs.Least.{any_rising, any_keep, rising_any}
use Rattle.sheet.specs.Rows.{counts_as_failed}
use Rattle.sheet.specs.Sheets.{Page, row_of}
use Rattle.sheet.specs.Weakest.{figure_without, outdone, first_of, weakest_of, weakest_or_refusal, InService, Names}

-- ---- the first that passes a test

-- a test after a test is both at once
keep_twice : (test q : ℕ → Bool) (xs : List ℕ) → keep test (keep q xs) ≡ keep (λ x. q x && test x) xs
keep_twice test q [] = refl
keep_twice test q (x ∷ xs) =
    ⊎_elim
    (λ (e : q x ≡ true). rw e (ap (λ l. cond (test x) (x ∷ l) l) (keep_twice test q xs)))
    (λ (e : q x ≡ false). rw e (keep_twice test q xs))
    (cases_Bool (q x))

first_kept : (q : ℕ → Bool) (start count x : ℕ) → start ≤ x → x < start + count → q x ≡ true → ((y : ℕ) → start ≤ y → y < x → q y ≡ false) → first_of (keep q (rising start count)) ≡ Some x
first_kept q start zero x low high hit before = absurd (omega arith)
first_kept q start (suc count) x low high hit before =
    ⊎_elim
    (λ (e : start ≡ x). let here : q start ≡ true = ap q e ∙ hit in rw here (ap Some e))
    (λ other.
    let here : q start ≡ false = before start (omega arith) (omega (arith, other)) in
    rw here (first_kept q (suc start) count x (omega (arith, other)) (omega arith) hit (λ y h. before y (omega arith))))
    (cases_eq start x)

none_kept : (q : ℕ → Bool) (start count : ℕ) → ((y : ℕ) → start ≤ y → y < start + count → q y ≡ false) → first_of (keep q (rising start count)) ≡ None
none_kept q start zero none = refl
none_kept q start (suc count) none =
    let here : q start ≡ false = none start (omega arith) (omega arith) in
    rw here (none_kept q (suc start) count (λ y low high. none y (omega arith) (omega arith)))

-- ---- what is named is the weakest part

module _ (m : Meaning) (p : Page) where
  abbrev serving : ℕ → Bool
  serving part = not (counts_as_failed (row_of part p))

  serves : (part : ℕ) → InService p part → serving part ≡ true
  serves part here = not_from_false _ here.unmarked

  in_service : (part : ℕ) → part < p.order → serving part ≡ true → InService p part
  in_service part known up = record { known = known; unmarked = not-true _ up }

  -- a part in service that leaves a lower figure outdoes
  outdone_by : (part other : ℕ) → InService p other → figure_without m p other < figure_without m p part → outdone m p part ≡ true
  outdone_by part other here less =
      any_keep _ serving (rising 0 p.order)
      ∙ rising_any _ 0 p.order other (omega arith) (omega (arith, here.known)) (and_from _ _ (serves other here) (lt-ltb _ _ less))

  not_outdone : (part : ℕ) → ((other : ℕ) → InService p other → figure_without m p part ≤ figure_without m p other) → outdone m p part ≡ false
  not_outdone part lowest =
      ⊎_elim
      (λ (e : outdone m p part ≡ true).
      let lower = λ (other : ℕ). ltb (figure_without m p other) (figure_without m p part) in
      let found = any_rising (λ other. serving other && lower other) 0 p.order (sym (any_keep lower serving (rising 0 p.order)) ∙ e) in
      let both = and_parts (serving found.0) (lower found.0) found.3 in
      absurd (omega (arith, ltb-true _ _ both.1, lowest found.0 (in_service found.0 (omega (arith, found.2)) both.0))))
      (λ e. e) (cases_Bool (outdone m p part))

  named_weakest : (which : Option ℕ) → Names m p which → which ≡ weakest_of m p
  named_weakest None none =
      sym (ap first_of (keep_twice _ serving (rising 0 p.order))
      ∙ none_kept _ 0 p.order (λ y low high. ⊎_elim
      (λ (e : serving y ≡ true). absurd (none y (in_service y (omega arith) e)))
      (λ e. and_left _ _ e)
      (cases_Bool (serving y))))
  named_weakest (Some part) named =
      sym (ap first_of (keep_twice _ serving (rising 0 p.order))
      ∙ first_kept _ 0 p.order part (omega arith) (omega (arith, named.in_service.known))
      (and_from _ _ (serves part named.in_service) (not_from_false _ (not_outdone part named.lowest)))
      (λ y low before. ⊎_elim
      (λ (e : serving y ≡ true). and_right _ _ (not_from_true _ (outdone_by y part named.in_service (named.first y (in_service y (omega (arith, named.in_service.known)) e) before))))
      (λ e. and_left _ _ e)
      (cases_Bool (serving y))))

  pub weakest_told : (which : Option ℕ) → m.order ≡ p.order → Names m p which → Ok which ≡ weakest_or_refusal m p
  weakest_told which same named = rw (eq-eqb m.order p.order same) (ap Ok (named_weakest which named))
