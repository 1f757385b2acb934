-- Clearing parts and leaving out digits that no part has, in either order. Assumes nothing.
use Rattle.std.proofs.Common.{◌≡◌, ℕ, ◌%◌, ◌^◌, ◌<◌, ◌≤◌, ⊎_elim, mod-lt, arith, pow_pos}
use Rattle.std.proofs.lemmas.Bool.{cases_lt}
use Rattle.structure.specs.States.{cleared}
use Rattle.structure.specs.Digits.{same_digits, digit_mod, digit_above, digit_cleared}

pub cleared_mod : (n set s : ℕ) → cleared set s % 2 ^ n ≡ cleared set (s % 2 ^ n)
cleared_mod n set s =
    same_digits (cleared set s % 2 ^ n) (cleared set (s % 2 ^ n))
    (λ i. ⊎_elim
    (λ (lt : i < n). omega (arith, digit_mod n i (cleared set s) lt, digit_cleared i set s, digit_cleared i set (s % 2 ^ n), digit_mod n i s lt))
    (λ (ge : n ≤ i). omega (arith, digit_above (cleared set s % 2 ^ n) n i (mod-lt (cleared set s) (pow_pos n)) ge, digit_cleared i set (s % 2 ^ n), digit_above (s % 2 ^ n) n i (mod-lt s (pow_pos n)) ge))
    (cases_lt i n))
