use Rattle.std.proofs.Common.{◌≡◌}
use Rattle.analysis.specs.Listing.{ahead_of}
use Rattle.analysis.specs.Minimal.{minimal_sets}
use Rattle.analysis.proofs.Places.{Written}
use Rattle.analysis.proofs.minimal_sets.minimal_sets.Given as goal

abbrev pub invariant-loop-at : goal.invariant-loop-at
invariant-loop-at g l =
    (goal.iterator-loop-at g).can_next l.at-iterator
    × (goal.iterator-loop-at g).is_finite l.at-iterator
    × (l.at-iterator.count ≡ l.needed)
    × Written (minimal_sets l.fn.role (g.S.Structure.meaning l.structure)) l.initial.places (ahead_of g.S.Structure.meaning l.at-iterator.iter) l.needed l.places
