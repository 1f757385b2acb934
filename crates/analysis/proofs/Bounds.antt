-- How many states and how many minimal sets there are. Assumes nothing.
use Rattle.std.proofs.Common.{◌≡◌, ℕ, ◌*◌, ◌%◌, ◌^◌, ◌≤◌, length, ap, ◌∙◌, arith}
use Rattle.structure.specs.Meanings.{Meaning}
use Rattle.structure.specs.Digits.{shifted, states_fit}
use Rattle.analysis.specs.declared.role.Role.{Role}
use Rattle.analysis.specs.Minimal.{minimal, minimal_sets, rising}
use Rattle.analysis.proofs.Rising.{length_rising, length_keep}

-- how many states a shift by the order counts
pub states_shifted : (k n : ℕ) → k ≡ n → n ≤ 16 → (1 * 2 ^ k) % 2 ^ 32 ≡ 2 ^ n
states_shifted k n e h = ap (λ i. (1 * 2 ^ i) % 2 ^ 32) e ∙ shifted n h

pub few_minimal : (role : Role) (m : Meaning) → m.order ≤ 16 → length (minimal_sets role m) ≤ 65536
few_minimal role m h =
    omega (arith, length_keep (minimal role m) (rising 0 (2 ^ m.order)), length_rising 0 (2 ^ m.order), states_fit m.order h)
