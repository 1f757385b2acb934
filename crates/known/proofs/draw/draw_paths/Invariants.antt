use Rattle.structure.specs.Drawings.{drawing}
use Rattle.known.proofs.Drawing.{Drawn-to}
use Rattle.known.proofs.draw.draw_paths.Given as goal

abbrev pub invariant-loop-set : goal.invariant-loop-set
invariant-loop-set l = Drawn-to l.order l.sets l.set-index (drawing l.paths.list)
