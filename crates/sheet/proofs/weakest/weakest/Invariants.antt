use Rattle.std.proofs.Common.{◌≡◌}
use Rattle.sheet.specs.Sheets.{page}
use Rattle.sheet.proofs.Losses.{Sofar}
use Rattle.sheet.proofs.weakest.weakest.Given as goal

abbrev pub invariant-loop-part : goal.invariant-loop-part
invariant-loop-part g l = (page l.sheet ≡ page l.initial.sheet) × Sofar (g.S.Structure.meaning l.structure) (page l.initial.sheet) l.part l.lowest
