use Rattle.std.proofs.Common.{arith}
use Rattle.script.proofs.Rows.{row_goes_on}
use Rattle.script.proofs.line.put_row.Goals as goal

pub loop-value-preserved : goal.loop-value-preserved
loop-value-preserved g c = (
  omega arith,
  row_goes_on g.W.Write.write_str_gives g.N.Display.output c.write.new.self c.loop-value.f c.write-in-loop-value.new.self c.args.values.now c.loop-value.value-index c.value-item.result c.loop-value-test.true c.value-item.is c.loop-value.invariant.1 c.in_ok-write-2.ensures.writes,
)
