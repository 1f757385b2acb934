-- Minimal paths and minimal cuts, and the order in which they are listed. Assumes nothing.
use Rattle.std.specs.Prelude.{ℕ, zero, suc, ◌-◌, ◌^◌, Bool, not, ◌&&◌, List, [], ◌∷◌, ◌==◌}
use Rattle.std.specs.List.{list_any, filter}
pub use Rattle.std.specs.List.{filter as keep}
use Rattle.structure.specs.Meanings.{Meaning}
use Rattle.structure.specs.States.{digit, reversed}
use Rattle.analysis.specs.declared.role.Role.{Role}
use Rattle.analysis.specs.declared.role.Role.TheVariants.{Path, Cut}

-- a path does its work when its parts alone make the station work, a cut when their failure alone stops it
abbrev pub does : Role → Meaning → ℕ → Bool
does Path m set = m.works set
does Cut m set = not (m.works (reversed m.order set))

-- the numbers from first on, count of them, rising
abbrev pub rising : ℕ → ℕ → List ℕ
rising first zero = []
rising first (suc count) = first ∷ rising (suc first) count

-- part i of the set can be spared: the others do the work without it
abbrev pub spare : Role → Meaning → ℕ → ℕ → Bool
spare role m set i = (digit set i) == 1 && does role m (set - 2 ^ i)

-- does its work, and with any one part less does not
abbrev pub minimal : Role → Meaning → ℕ → Bool
minimal role m set = does role m set && not (list_any (spare role m set) (rising 0 m.order))

-- all minimal sets, listed by rising number
abbrev pub minimal_sets : Role → Meaning → List ℕ
minimal_sets role m = filter (minimal role m) (rising 0 (2 ^ m.order))
