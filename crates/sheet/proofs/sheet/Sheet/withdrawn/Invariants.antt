use Rattle.std.proofs.Common.{◌≡◌}
use Rattle.sheet.specs.Sheets.{failed_below}
use Rattle.sheet.proofs.sheet.Sheet.withdrawn.Given as goal

abbrev pub invariant-loop-part : goal.invariant-loop-part
invariant-loop-part l = l.set ≡ failed_below l.part l.self.rows
