-- Walks over rising numbers. Assumes nothing.
use Rattle.std.proofs.Common.{◌≡◌, ℕ, zero, suc, ◌+◌, ◌-◌, ◌<◌, ◌≤◌, Bool, true, false, cond, List, [], ◌∷◌, length, sym, refl, ap, ◌∙◌, ⊎_elim, zero-add, add-one, arith}
use Rattle.std.proofs.lemmas.Bool.{cases_lt, cond_both}
use Rattle.std.specs.List.{range_with_len, filter}
use Rattle.analysis.specs.Minimal.{rising}

-- the numbers that a range gives
pub rising_range : (first count : ℕ) → rising first count ≡ range_with_len first count
rising_range first zero = refl
rising_range first (suc count) =
    ap (λ xs. first ∷ xs) (rising_range (suc first) count ∙ ap (λ k. range_with_len k count) (sym (add-one first)))

-- the numbers from k up to n
abbrev pub up_from : ℕ → ℕ → List ℕ
up_from n k = rising k (n - k)

pub up_next : (n k : ℕ) → k < n → up_from n k ≡ k ∷ up_from n (k + 1)
up_next n k h =
    let more : n - k ≡ suc (n - (k + 1)) = omega arith in ap (rising k) more ∙ ap (λ j. k ∷ rising j (n - (k + 1))) (sym (add-one k))

pub up_end : (n k : ℕ) → n ≤ k → up_from n k ≡ []
up_end n k h = let none : n - k ≡ 0 = omega arith in ap (rising k) none

module _ (test : ℕ → Bool) (n k : ℕ) (within : k < n) where
  pub keep_up_passes : test k ≡ false → filter test (up_from n k) ≡ filter test (up_from n (k + 1))
  keep_up_passes e =
      ap (filter test) (up_next n k within) ∙ ap (λ b. cond b (k ∷ filter test (up_from n (k + 1))) (filter test (up_from n (k + 1)))) e

  pub keep_up_finds : test k ≡ true → filter test (up_from n k) ≡ k ∷ filter test (up_from n (k + 1))
  keep_up_finds e =
      ap (filter test) (up_next n k within) ∙ ap (λ b. cond b (k ∷ filter test (up_from n (k + 1))) (filter test (up_from n (k + 1)))) e

-- up to the first that passes a test, and where none does
module _ (test : ℕ → Bool) (n : ℕ) where
  keep_up_passing : (d k : ℕ) → d + k ≤ n → ((j : ℕ) → k ≤ j → j < d + k → test j ≡ false) → filter test (up_from n k) ≡ filter test (up_from n (d + k))
  keep_up_passing zero k h none = ap (λ j. filter test (up_from n j)) (sym (zero-add k))
  keep_up_passing (suc d) k h none =
      let place : d + (k + 1) ≡ suc d + k = omega arith in
      keep_up_passes test n k (omega arith) (none k (omega arith) (omega arith))
      ∙ keep_up_passing d (k + 1) (omega arith) (λ j low high. none j (omega arith) (omega arith))
      ∙ ap (λ j. filter test (up_from n j)) place

  pub keep_up_first : (k i : ℕ) → k ≤ i → i < n → test i ≡ true → ((j : ℕ) → k ≤ j → j < i → test j ≡ false) → filter test (up_from n k) ≡ i ∷ filter test (up_from n (i + 1))
  keep_up_first k i low high here none =
      let place : i - k + k ≡ i = omega arith in
      keep_up_passing (i - k) k (omega arith) (λ j above below. none j above (omega arith))
      ∙ ap (λ j. filter test (up_from n j)) place
      ∙ keep_up_finds test n i high here

  pub keep_up_none : (k : ℕ) → ((j : ℕ) → k ≤ j → j < n → test j ≡ false) → filter test (up_from n k) ≡ []
  keep_up_none k none =
      ⊎_elim
      (λ (lt : k < n).
      let place : n - k + k ≡ n = omega arith in
      keep_up_passing (n - k) k (omega arith) (λ j above below. none j above (omega arith))
      ∙ ap (λ j. filter test (up_from n j)) place ∙ ap (filter test) (up_end n n (omega arith)))
      (λ ge. ap (filter test) (up_end n k ge))
      (cases_lt k n)

pub length_rising : (k n : ℕ) → length (rising k n) ≡ n
length_rising k zero = refl
length_rising k (suc n) = ap suc (length_rising (suc k) n)

pub length_keep : (test : ℕ → Bool) (xs : List ℕ) → length (filter test xs) ≤ length xs
length_keep test [] = omega arith
length_keep test (x ∷ xs) =
    cond_both (test x) (x ∷ filter test xs) (filter test xs) (λ l. length l ≤ suc (length xs))
    (λ _. omega (arith, length_keep test xs)) (λ _. omega (arith, length_keep test xs))
