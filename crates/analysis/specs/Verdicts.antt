-- What a verdict on a structure says. Assumes nothing.
use Rattle.std.specs.Prelude.{ℕ, ◌+◌, ◌-◌, ◌^◌, Bool, cond, not, ◌&&◌}
use Rattle.std.specs.List.{list_any}
use Rattle.structure.specs.Meanings.{Meaning}
use Rattle.weight.specs.Sums.{total}
use Rattle.analysis.specs.Minimal.{rising}
use Rattle.analysis.specs.Swings.{decides}

abbrev pub works_with_all : Meaning → Bool
works_with_all m = m.works (2 ^ m.order - 1)

abbrev pub fails_with_none : Meaning → Bool
fails_with_none m = not (m.works 0)

-- part i changes the answer in some state of the others
abbrev pub matters : Meaning → ℕ → Bool
matters m i = list_any (decides m i) (rising 0 (2 ^ m.order))

-- the set of those of the parts 0 to n - 1 that pass a test
abbrev pub parts_that : (ℕ → Bool) → ℕ → ℕ
parts_that test n = total 0 ◌+◌ (λ i. cond (test i) (2 ^ i) 0) n

abbrev pub relevant_parts : Meaning → ℕ
relevant_parts m = parts_that (matters m) m.order

abbrev pub is_coherent : Meaning → Bool
is_coherent m = works_with_all m && fails_with_none m
