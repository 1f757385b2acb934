-- The states in which each kind of structure works. Assumes nothing.
use Rattle.std.specs.Prelude.{ℕ, Bool, cond, not, ◌&&◌, List, Some, None, Option, ◌==◌, bit_and, nat_le}
use Rattle.std.specs.List.{list_any, list_all}
use Rattle.structure.specs.declared.refusal.Refusal.{Refusal}
use Rattle.structure.specs.declared.refusal.Refusal.TheVariants.{Order, Threshold}
use Rattle.structure.specs.Drawings.{Drawing}
use Rattle.structure.specs.Meanings.{Meaning}
use Rattle.structure.specs.States.{size}

-- every part of the set works in the state s: those of its parts that work are all of it
abbrev pub covers : ℕ → ℕ → Bool
covers s set = (bit_and s set) == set

-- some part of the set works in the state s
abbrev pub meets : ℕ → ℕ → Bool
meets s set = not ((bit_and s set) == 0)

-- a drawing with a way to tell from its sets whether it works in a state
abbrev pub listed : (ℕ → List ℕ → Bool) → Drawing → Meaning
listed holds d = record { order = d.order; works = λ s. holds s d.sets }

-- all parts of some set work in the state s
abbrev pub covered : ℕ → List ℕ → Bool
covered s sets = list_any (covers s) sets

-- each set has a part that works in the state s
abbrev pub met : ℕ → List ℕ → Bool
met s sets = list_all (meets s) sets

-- a path list works where all parts of some listed set work
abbrev pub path_list : Drawing → Meaning
path_list = listed covered

-- a cut list works where each listed set has a working part
abbrev pub cut_list : Drawing → Meaning
cut_list = listed met

-- why no k-out-of-n structure is made, first fit first
abbrev pub threshold_refused : ℕ → ℕ → Option Refusal
threshold_refused n k = cond (nat_le 1 n && nat_le n 16) (cond (nat_le 1 k && nat_le k n) None (Some Threshold)) (Some Order)

-- a k-out-of-n structure works where at least k of its n parts work
abbrev pub k_out_of_n : ℕ → ℕ → Meaning
k_out_of_n k n = record { order = n; works = λ s. nat_le k (size n s) }
