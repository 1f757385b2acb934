-- A monotone structure is told by its minimal sets. Assumes nothing.
use Rattle.std.proofs.Common.{◌≡◌, ℕ, zero, suc, ◌+◌, ◌-◌, ◌^◌, ◌<◌, ◌≤◌, Bool, true, false, cond, not, ◌&&◌, ◌||◌, eqb, List, [], ◌∷◌, sym, refl, ap, ◌∙◌, subst, ⊎_elim, arith, pow_pos}
use lib.Bits.{bit_and}
use Rattle.std.proofs.lemmas.Bool.{and_parts, and_from, or_cases, or_left, or_right, not_from_false, both_ways, cases_Bool, cases_eq, eqb-true, eq-eqb}
use Rattle.std.specs.List.{list_any, filter}
use Rattle.structure.specs.Kinds.{covers}
use Rattle.structure.specs.States.{Within, digit}
use Rattle.structure.specs.Digits.{within_refl, within_trans, within_le, within_and, and_within}
use Rattle.analysis.specs.Minimal.{rising}
use Rattle.analysis.proofs.Sets.{part_le, less_within}

-- ---- what passes a test somewhere in a list

pub any_rising : (test : ℕ → Bool) (first count : ℕ) → list_any test (rising first count) ≡ true → (i : ℕ) × (first ≤ i) × (i < first + count) × (test i ≡ true)
any_rising test first zero e = absurd (both_ways false refl e)
any_rising test first (suc count) e =
    ⊎_elim
    (λ here. (first, omega arith, omega arith, here))
    (λ later. let found = any_rising test (suc first) count later in (found.0, omega (arith, found.1), omega (arith, found.2), found.3))
    (or_cases (test first) (list_any test (rising (suc first) count)) e)

pub any_keep : (test q : ℕ → Bool) (xs : List ℕ) → list_any test (filter q xs) ≡ list_any (λ x. q x && test x) xs
any_keep test q [] = refl
any_keep test q (x ∷ xs) =
    elim (q x) as (λ b. list_any test (cond b (x ∷ filter q xs) (filter q xs)) ≡ ((b && test x) || list_any (λ y. q y && test y) xs)) [
      | true ↦ ap (λ r. test x || r) (any_keep test q xs)
      | false ↦ any_keep test q xs
    ]

pub rising_any : (test : ℕ → Bool) (first count i : ℕ) → first ≤ i → i < first + count → test i ≡ true → list_any test (rising first count) ≡ true
rising_any test first zero i low high e = absurd (omega arith)
rising_any test first (suc count) i low high e =
    ⊎_elim
    (λ (same : i ≡ first). or_left (test first) _ (subst (λ k. test k ≡ true) same e))
    (λ ne. or_right (test first) _ (rising_any test (suc first) count i (omega (arith, ne)) (omega arith) e))
    (cases_eq i first)

-- ---- minimal sets of a test that more parts never break

abbrev pub spare_of : (ℕ → Bool) → ℕ → ℕ → Bool
spare_of f set i = eqb (digit set i) 1 && f (set - 2 ^ i)

abbrev pub least : ℕ → (ℕ → Bool) → ℕ → Bool
least n f set = f set && not (list_any (spare_of f set) (rising 0 n))

-- parts are spared one by one until none can be
pub least_below : (n : ℕ) (f : ℕ → Bool) (k s : ℕ) → s < k → f s ≡ true → (p : ℕ) × Within p s × (least n f p ≡ true)
least_below n f zero s lt up = absurd (omega arith)
least_below n f (suc k) s lt up =
    ⊎_elim
    (λ some.
    let found = any_rising (spare_of f s) 0 n some in
    let i = found.0 in
    let parts = and_parts (eqb (digit s i) 1) (f (s - 2 ^ i)) found.3 in
    let in-s : digit s i ≡ 1 = eqb-true (digit s i) 1 parts.0 in
    let smaller = least_below n f k (s - 2 ^ i) (omega (arith, part_le s i in-s, pow_pos i)) parts.1 in
    (smaller.0, within_trans smaller.0 (s - 2 ^ i) s smaller.1 (less_within s i in-s), smaller.2))
    (λ none. (s, within_refl s, and_from (f s) (not (list_any (spare_of f s) (rising 0 n))) up (not_from_false (list_any (spare_of f s) (rising 0 n)) none)))
    (cases_Bool (list_any (spare_of f s) (rising 0 n)))

module _ (n : ℕ) (f : ℕ → Bool) (rises : (x y : ℕ) → y < 2 ^ n → Within x y → f x ≡ true → f y ≡ true) where
  abbrev test : ℕ → ℕ → Bool
  test s p = least n f p && covers s p

  -- a state passes exactly where it covers a minimal set
  pub told_by_least : (s : ℕ) → s < 2 ^ n → list_any (covers s) (filter (least n f) (rising 0 (2 ^ n))) ≡ f s
  told_by_least s small =
      any_keep (covers s) (least n f) (rising 0 (2 ^ n))
      ∙ ⊎_elim
      (λ up.
      let found = least_below n f (suc s) s (omega arith) up in
      let p = found.0 in
      let covered : covers s p ≡ true = eq-eqb (bit_and s p) p (and_within s p found.1) in
      rising_any (test s) 0 (2 ^ n) p (omega arith) (omega (arith, within_le p s found.1)) (and_from (least n f p) (covers s p) found.2 covered) ∙ sym up)
      (λ down.
      ⊎_elim
      (λ some.
      let found = any_rising (test s) 0 (2 ^ n) some in
      let p = found.0 in
      let parts = and_parts (least n f p) (covers s p) found.3 in
      let works = (and_parts (f p) (not (list_any (spare_of f p) (rising 0 n))) parts.0).0 in
      absurd (both_ways (f s) down (rises p s small (within_and s p (eqb-true (bit_and s p) p parts.1)) works)))
      (λ none. none ∙ sym down)
      (cases_Bool (list_any (test s) (rising 0 (2 ^ n)))))
      (cases_Bool (f s))
