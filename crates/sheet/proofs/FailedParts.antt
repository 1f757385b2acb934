-- The set of the parts that count as failed, digit by digit. Assumes nothing.
use Rattle.std.proofs.Common.{◌≡◌, ℕ, zero, suc, ◌+◌, ◌^◌, ◌<◌, Bool, true, false, cond, ◌&&◌, ltb, ◌≢◌, List, get_or, sym, refl, ap, ◌∙◌, ⊎_elim, pow-suc, arith, pow_mono}
use Rattle.std.proofs.lemmas.Bool.{cases_order, lt-ltb, le-ltb}
use Rattle.structure.specs.States.{digit}
use Rattle.structure.specs.Digits.{digit_none, digit_above, digit_part_same, digit_part_other}
use Rattle.analysis.proofs.Mending.{digit_mended}
use Rattle.sheet.specs.declared.row.Row.{Row}
use Rattle.sheet.specs.Rows.{blank_row, counts_as_failed}
use Rattle.sheet.specs.Sheets.{failed_below, set_of}

bit_fits : (b : Bool) (n s : ℕ) → s < 2 ^ n → s + cond b (2 ^ n) 0 < 2 ^ suc n
bit_fits true n s small = omega (arith, pow-suc 2 n)
bit_fits false n s small = omega (arith, pow-suc 2 n)

pub failed_small : (n : ℕ) (rows : List Row) → failed_below n rows < 2 ^ n
failed_small zero rows = omega arith
failed_small (suc n) rows = bit_fits (counts_as_failed (get_or rows n blank_row)) n (failed_below n rows) (failed_small n rows)

-- one more part of at most 16 leaves a set that fits 16 digits
pub failed_fits : (n : ℕ) (rows : List Row) → n < 16 → failed_below n rows + 2 ^ n < 65536
failed_fits n rows few = omega (arith, failed_small n rows, pow-suc 2 n, pow_mono {j = 16} few)

-- they are the set of those that pass the test of being failed
pub failed_set : (n : ℕ) (rows : List Row) → failed_below n rows ≡ set_of (λ part. counts_as_failed (get_or rows part blank_row)) n
failed_set n rows = refl

digit_put : (b : Bool) (n s i : ℕ) → s < 2 ^ n → digit (s + cond b (2 ^ n) 0) i ≡ digit s i + cond b (digit (2 ^ n) i) 0
digit_put true n s i small = digit_mended n i s (digit_above s n n small (omega arith))
digit_put false n s i small = let same : s + 0 ≡ s = omega arith in ap (λ x. digit x i) same ∙ omega arith

-- the new digit, and every other
put_here : (b : Bool) (n s : ℕ) → s < 2 ^ n → digit (s + cond b (2 ^ n) 0) n ≡ cond b 1 0
put_here true n s small = omega (arith, digit_put true n s n small, digit_above s n n small (omega arith), digit_part_same n)
put_here false n s small = omega (arith, digit_put false n s n small, digit_above s n n small (omega arith))

put_other : (b : Bool) (n s i : ℕ) → s < 2 ^ n → i ≢ n → digit (s + cond b (2 ^ n) 0) i ≡ digit s i
put_other true n s i small other = omega (arith, digit_put true n s i small, digit_part_other n i other)
put_other false n s i small other = omega (arith, digit_put false n s i small)

pub failed_digit : (n : ℕ) (rows : List Row) (i : ℕ) → digit (failed_below n rows) i ≡ cond (ltb i n && counts_as_failed (get_or rows i blank_row)) 1 0
failed_digit zero rows i = digit_none i ∙ rw (le-ltb i 0 (omega arith)) refl
failed_digit (suc n) rows i =
    let s = failed_below n rows in
    let small = failed_small n rows in
    let b = λ (k : ℕ). counts_as_failed (get_or rows k blank_row) in
    ⊎_elim
    (λ (same : i ≡ n). ap (digit (s + cond (b n) (2 ^ n) 0)) same ∙ put_here (b n) n s small ∙ rw (lt-ltb i (suc n) (omega arith)) (ap (λ k. cond (b k) 1 0) (sym same)))
    (⊎_elim
    (λ (lt : i < n). put_other (b n) n s i small (λ e. omega (arith, e)) ∙ failed_digit n rows i ∙ rw (lt-ltb i n lt, lt-ltb i (suc n) (omega arith)) refl)
    (λ (gt : n < i). put_other (b n) n s i small (λ e. omega (arith, e)) ∙ digit_above s n i small (omega arith) ∙ rw (le-ltb i (suc n) (omega arith)) refl))
    (cases_order i n)
