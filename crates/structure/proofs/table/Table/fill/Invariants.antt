use Rattle.structure.proofs.Tables.{Filled}
use Rattle.structure.proofs.table.Table.fill.Given as goal

abbrev pub invariant-loop-state : goal.invariant-loop-state
invariant-loop-state g l = Filled (g.S.Structure.meaning l.structure) l.words l.state
