-- What packed words of yes and no mean. Assumes nothing.
use Rattle.std.specs.Prelude.{ℕ, ◌/◌, ◌%◌, Bool, List, ◌==◌, slice_index}
use Rattle.structure.specs.Meanings.{Meaning}
use Rattle.structure.specs.States.{digit}

-- the yes or no for the state s: 64 states to a word, the lowest in its lowest digit
unfoldable pub entry : List ℕ → ℕ → Bool
entry words s = digit (slice_index words (s / 64)) (s % 64) == 1

abbrev pub tabled : ℕ → List ℕ → Meaning
tabled n words = record { order = n; works = entry words }
