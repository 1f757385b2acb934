-- Sets less one of their parts. Assumes nothing.
use Rattle.std.proofs.Common.{◌≡◌, ℕ, ◌-◌, ◌^◌, ◌<◌, ◌≤◌, sym, ap, ⊎_elim, arith}
use lib.Bits.{bit_and}
use Rattle.std.proofs.lemmas.Bool.{cases_lt, cases_eq}
use Rattle.structure.specs.States.{Within, digit, cleared}
use Rattle.structure.specs.Digits.{digit_above, digit_part_same, digit_part_other, digit_cleared, and_within}

-- a part of a set is worth no more than the set
pub part_le : (set i : ℕ) → digit set i ≡ 1 → 2 ^ i ≤ set
part_le set i e =
    ⊎_elim (λ (lt : set < 2 ^ i). absurd (omega (arith, digit_above set i i lt (omega arith)))) (λ (ge : 2 ^ i ≤ set). ge) (cases_lt set (2 ^ i))

-- a set less one of its parts is the set with that part cleared, and within it
pub less_cleared : (set i : ℕ) → digit set i ≡ 1 → set - 2 ^ i ≡ cleared (2 ^ i) set
unfolding cleared
less_cleared set i e =
    let common : bit_and set (2 ^ i) ≡ 2 ^ i = and_within set (2 ^ i) (λ j. ⊎_elim
    (λ (same : j ≡ i). omega (arith, ap (digit (2 ^ i)) same, ap (digit set) same, digit_part_same i))
    (λ other. omega (arith, digit_part_other i j other))
    (cases_eq j i)) in
    ap (λ x. set - x) (sym common)

pub less_within : (set i : ℕ) → digit set i ≡ 1 → Within (set - 2 ^ i) set
less_within set i e j = omega (arith, ap (λ x. digit x j) (less_cleared set i e), digit_cleared j (2 ^ i) set)
