use Rattle.std.proofs.Common.{◌≡◌}
use Rattle.sheet.specs.Sheets.{page}
use Rattle.sheet.proofs.tests.first_to_leave.Given as goal

abbrev pub invariant-loop-part : goal.invariant-loop-part
invariant-loop-part l = page l.sheet ≡ page l.initial.sheet
