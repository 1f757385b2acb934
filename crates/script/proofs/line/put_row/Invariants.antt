use Rattle.std.proofs.Common.{◌≤◌, length, take, Ok}
use Rattle.std.specs.Fmt.{DisplaysOnOk}
use Rattle.script.specs.Rows.{row}
use Rattle.script.proofs.line.put_row.Given as goal

abbrev pub invariant-loop-value : goal.invariant-loop-value
invariant-loop-value g l = (l.value-index ≤ length l.values) × DisplaysOnOk g.W.Write.write_str_gives l.initial.f (Ok tt) (row g.N.Display.output (take l.value-index l.values)) l.f
