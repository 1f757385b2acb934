-- A part matters where its swing is above 0, and sets of parts made one part at a time. Assumes nothing.
use Rattle.std.proofs.Common.{◌≡◌, ℕ, zero, not, suc, ◌+◌, ◌-◌, ◌%◌, ◌^◌, ◌<◌, ◌≤◌, Bool, true, false, cond, ◌∷◌, ltb, sym, refl, ap, ◌∙◌, ap₂, pow-suc, zero-add, arith, pow_mono}
use lib.Pow.{ones_lt}
use Rattle.std.specs.List.{filter, range_with_len, sum_by}
use Rattle.std.proofs.lemmas.List.Sums.{sum_by_from}
use Rattle.structure.specs.Meanings.{Meaning}
use Rattle.structure.specs.LayersLemmas.{asked_whole}
use Rattle.analysis.specs.Minimal.{rising}
use Rattle.analysis.specs.Swings.{decides, swing_of}
use Rattle.analysis.specs.Verdicts.{works_with_all, fails_with_none, matters, parts_that}
use Rattle.analysis.proofs.Walks.{place_root, place_asked}
use Rattle.analysis.proofs.CountSums.{total_count, any_count}

pub matters_swing : (m : Meaning) (i : ℕ) → ltb 0 (swing_of m i) ≡ matters m i
matters_swing m i = ap (ltb 0) (total_count (decides m i) (2 ^ m.order)) ∙ any_count (decides m i) (rising 0 (2 ^ m.order))

pub parts_below : (test : ℕ → Bool) (k : ℕ) → parts_that test k < 2 ^ k
parts_below test zero = omega arith
parts_below test (suc k) = omega (arith, parts_below test k, pow-suc 2 k, at_most (test k) (2 ^ k))
  where
    at_most : (b : Bool) (x : ℕ) → cond b x 0 ≤ x
    at_most true x = omega arith
    at_most false x = omega arith

-- the set as a sum over those that pass
module _ (test : ℕ → Bool) (h : ℕ → ℕ) where
  abbrev added : ℕ → ℕ → ℕ
  added first n = sum_by h (filter test (range_with_len first n))

  added_first : (first n : ℕ) → added first (suc n) ≡ cond (test first) (h first) 0 + added (first + 1) n
  added_first first n =
      let rest = filter test (range_with_len (first + 1) n) in
      elim (test first) as (λ b. sum_by h (cond b (first ∷ rest) rest) ≡ cond b (h first) 0 + sum_by h rest) [
        | true ↦ sum_by_from h (0 + h first) rest ∙ omega arith
        | false ↦ sym (zero-add (sum_by h rest))
      ]

  added_last : (first n : ℕ) → added first (suc n) ≡ added first n + cond (test (first + n)) (h (first + n)) 0
  added_last first zero =
      let here : first ≡ first + 0 = omega arith in omega (arith, added_first first 0, ap (λ k. cond (test k) (h k) 0) here)
  added_last first (suc n) =
      let here : first + 1 + n ≡ first + suc n = omega arith in
      omega (arith, added_first first (suc n), added_first first n, added_last (first + 1) n, ap (λ k. cond (test k) (h k) 0) here)

  pub parts_added : (n : ℕ) → ((i : ℕ) → i < n → h i ≡ 2 ^ i) → added 0 n ≡ parts_that test n
  parts_added zero same = refl
  parts_added (suc n) same =
      let here : 0 + n ≡ n = omega arith in
      added_last 0 n
      ∙ ap₂ (λ x y. x + y) (parts_added n (λ i lt. same i (omega arith))) (ap (λ k. cond (test k) (h k) 0) here ∙ ap (λ x. cond (test n) x 0) (same n (omega arith)))

pub parts_fit : (test : ℕ → Bool) (n : ℕ) → n ≤ 16 → parts_that test n < 65536
parts_fit test n h = let all : 2 ^ n ≤ 2 ^ 16 = pow_mono h in omega (arith, parts_below test n)

-- what is answered where all parts work and where none does
pub ends_asked : (m : Meaning) (n every : ℕ) (all none : Bool) → n ≡ m.order → every ≡ 2 ^ n - 1 → all ≡ m.works (every % 2 ^ m.order) → none ≡ m.works (0 % 2 ^ m.order) → (all ≡ works_with_all m) × (not none ≡ fails_with_none m)
ends_asked m n every all none order is all-is none-is = (
  all-is ∙ ap (λ x. m.works (x % 2 ^ m.order)) (is ∙ ap (λ k. 2 ^ k - 1) order) ∙ asked_whole m (2 ^ m.order - 1) (ones_lt m.order),
  ap not (none-is ∙ place_asked m 0 0 (place_root m.order)),
)
