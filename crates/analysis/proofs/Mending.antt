-- A failed part mended: the state it makes, how many parts then work, and that what worked still works. Assumes nothing.
use Rattle.std.proofs.Common.{◌≡◌, ℕ, zero, suc, ◌+◌, ◌-◌, ◌^◌, ◌<◌, ◌≤◌, true, ◌≢◌, sym, refl, ap, ◌∙◌, subst, ⊎_elim, add-sub_cancel, arith, pow_pos}
use native.Mathlib.Nat.{add-div_right}
use Rattle.std.proofs.lemmas.Bool.{cases_eq}
use Rattle.structure.specs.Meanings.{Meaning, Monotone}
use Rattle.structure.specs.States.{digit, size, Within}
use Rattle.structure.specs.Digits.{digit_above, digit_cleared, digit_part_same, digit_part_other, below_from_digits}
use Rattle.analysis.proofs.Sets.{less_cleared, less_within}

module _ (s i : ℕ) (off : digit s i ≡ 0) where
  pub mended_digit : digit (s + 2 ^ i) i ≡ 1
  unfolding digit
  mended_digit = omega (arith, off, add-div_right s (pow_pos i))

  back : s + 2 ^ i - 2 ^ i ≡ s
  back = add-sub_cancel s (2 ^ i)

  pub mended_others : (j : ℕ) → j ≢ i → digit (s + 2 ^ i) j ≡ digit s j
  mended_others j ne =
      omega (arith, ap (λ x. digit x j) (sym back ∙ less_cleared (s + 2 ^ i) i mended_digit), digit_cleared j (2 ^ i) (s + 2 ^ i), digit_part_other i j ne)

  pub mended_within : Within s (s + 2 ^ i)
  mended_within = subst (λ x. Within x (s + 2 ^ i)) back (less_within (s + 2 ^ i) i mended_digit)

  pub mended_below : (n : ℕ) → i < n → s < 2 ^ n → s + 2 ^ i < 2 ^ n
  mended_below n lt below = below_from_digits n (s + 2 ^ i) (λ j h. mended_others j (λ e. omega arith) ∙ digit_above s n j below h)

-- mending one part breaks nothing
pub mended_works : (m : Meaning) → Monotone m → (s i : ℕ) → i < m.order → s < 2 ^ m.order → digit s i ≡ 0 → m.works s ≡ true → m.works (s + 2 ^ i) ≡ true
mended_works m mono s i lt below off up = mono s (s + 2 ^ i) ((mended_below s i off m.order lt below, mended_within s i off), up)

pub digit_mended : (p i s : ℕ) → digit s p ≡ 0 → digit (s + 2 ^ p) i ≡ digit s i + digit (2 ^ p) i
digit_mended p i s off =
    ⊎_elim
    (λ (same : i ≡ p). omega (arith, ap (digit (s + 2 ^ p)) same, ap (digit s) same, ap (digit (2 ^ p)) same, mended_digit s p off, digit_part_same p))
    (λ ne. omega (arith, mended_others s p off i ne, digit_part_other p i ne))
    (cases_eq i p)

-- ---- how many parts then work

-- the parts before part n are as they were
size_before : (k n s : ℕ) → k ≤ n → s < 2 ^ n → size k (s + 2 ^ n) ≡ size k s
unfolding size
size_before zero n s h small = refl
size_before (suc k) n s h small =
    omega (arith, size_before k n s (omega arith) small, digit_mended n k s (digit_above s n n small (omega arith)), digit_part_other n k (λ e. omega (arith, e)))

pub size_mended : (n s : ℕ) → s < 2 ^ n → size (suc n) (s + 2 ^ n) ≡ suc (size n s)
unfolding size
size_mended n s small =
    let out = digit_above s n n small (omega arith) in omega (arith, size_before n n s (omega arith) small, digit_mended n n s out, out, digit_part_same n)

pub size_failed : (n s : ℕ) → s < 2 ^ n → size (suc n) s ≡ size n s
unfolding size
size_failed n s small = omega (arith, digit_above s n n small (omega arith))
