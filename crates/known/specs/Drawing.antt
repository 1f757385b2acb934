-- A path list drawn from an order and sets. Assumes nothing.
use Rattle.std.specs.Prelude.{◌≡◌, ℕ, List, [], Some, None, Ok, Err, Option, Result}
use Rattle.structure.specs.declared.listed.Listed.{Listed}
use Rattle.structure.specs.declared.path_list.PathSets.{PathSets}
use Rattle.structure.specs.declared.refusal.Refusal.{Refusal}
use Rattle.structure.specs.Drawings.{drawing, order_refused}
use Rattle.analysis.specs.Redrawing.{first_refused}

-- why such a list is not drawn: the order is refused, or else the first set that add refuses
abbrev pub draw_refused : ℕ → List ℕ → Option Refusal
draw_refused n sets = elim (order_refused n) [ Some why ↦ Some why | None ↦ first_refused (record { order = n; sets = [] }) sets ]

-- the list has just these sets, in their order; else the first refusal tells why there is none
abbrev pub PathsDrawn : ℕ → List ℕ → Result (Listed PathSets) Refusal → Type 0
PathsDrawn n sets (Ok paths) = (draw_refused n sets ≡ None) × (drawing paths.list ≡ record { order = n; sets = sets })
PathsDrawn n sets (Err why) = draw_refused n sets ≡ Some why
