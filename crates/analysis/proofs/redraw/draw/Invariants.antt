use Rattle.structure.specs.Drawings.{drawing}
use Rattle.analysis.specs.Listing.{ahead_of}
use Rattle.analysis.specs.Minimal.{minimal_sets}
use Rattle.analysis.proofs.Redrawing.{Drawing-on}
use Rattle.analysis.proofs.redraw.draw.Given as goal

abbrev pub invariant-loop-set : goal.invariant-loop-set
invariant-loop-set g l =
    (goal.iterator-loop-set g).can_next l.set-iterator
    × (goal.iterator-loop-set g).is_finite l.set-iterator
    × Drawing-on (drawing l.initial.list) (minimal_sets l.fn.role (g.S.Structure.meaning l.structure)) (drawing l.list) (ahead_of g.S.Structure.meaning l.set-iterator)
