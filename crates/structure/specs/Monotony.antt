-- Why path lists, cut lists and k-out-of-n structures are monotone, and how a walk along a list decides them. Assumes nothing.
use Rattle.std.specs.Prelude.{◌≡◌, ℕ, ◌≤◌, Bool, true, List, [], ◌∷◌, ◌==◌, bit_and}
use Rattle.std.specs.List.{list_any, list_all}
use Rattle.std.proofs.Common.{⊎_elim, arith}
use Rattle.std.proofs.lemmas.Bool.{and_parts, and_from, or_cases, or_left, or_right, not-true, not_from_false, eqb-true, eqb-false, eq-eqb, ne_eqb, leb-true, le-leb}
use Rattle.structure.specs.Drawings.{Drawing}
use Rattle.structure.specs.Kinds.{covers, meets, path_list, cut_list, k_out_of_n}
use Rattle.structure.specs.Meanings.{Monotone}
use Rattle.structure.specs.States.{Within}
use Rattle.structure.specs.Digits.{digit_and, and_within, within_and, within_trans, within_le, size_within}

module _ (f g : ℕ → Bool) (implies : (x : ℕ) → f x ≡ true → g x ≡ true) where
  pub any_implies : (xs : List ℕ) → list_any f xs ≡ true → list_any g xs ≡ true
  any_implies [] h = h
  any_implies (x ∷ xs) h =
      ⊎_elim (λ e. or_left (g x) (list_any g xs) (implies x e)) (λ e. or_right (g x) (list_any g xs) (any_implies xs e)) (or_cases (f x) (list_any f xs) h)

  pub all_implies : (xs : List ℕ) → list_all f xs ≡ true → list_all g xs ≡ true
  all_implies [] h = h
  all_implies (x ∷ xs) h =
      let parts = and_parts (f x) (list_all f xs) h in and_from (g x) (list_all g xs) (implies x parts.0) (all_implies xs parts.1)

pub covers_more : (x y p : ℕ) → Within x y → covers x p ≡ true → covers y p ≡ true
covers_more x y p w h =
    eq-eqb (bit_and y p) p (and_within y p (within_trans p x y (within_and x p (eqb-true (bit_and x p) p h)) w))

pub meets_more : (x y c : ℕ) → Within x y → meets x c ≡ true → meets y c ≡ true
meets_more x y c w h =
    let some : bit_and x c ≡ 0 → ⊥ = eqb-false (bit_and x c) 0 (not-true (bit_and x c == 0) h) in
    let more : bit_and x c ≤ bit_and y c = within_le (bit_and x c) (bit_and y c) (λ i. omega (arith, digit_and x c i, digit_and y c i, w i)) in
    not_from_false (bit_and y c == 0) (ne_eqb (bit_and y c) 0 (λ e. some (omega arith)))

pub path_list_monotone : (d : Drawing) → Monotone (path_list d)
path_list_monotone d x y h = any_implies (covers x) (covers y) (λ p. covers_more x y p h.0.1) d.sets h.1

pub cut_list_monotone : (d : Drawing) → Monotone (cut_list d)
cut_list_monotone d x y h = all_implies (meets x) (meets y) (λ c. meets_more x y c h.0.1) d.sets h.1

pub k_out_of_n_monotone : (k n : ℕ) → Monotone (k_out_of_n k n)
k_out_of_n_monotone k n x y h = le-leb k _ (omega (arith, leb-true k _ h.1, size_within n x y h.0.1))
