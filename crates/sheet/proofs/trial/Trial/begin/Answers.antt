use Rattle.std.proofs.Common.{arith, rules}
use Rattle.sheet.specs.Sheets.{page}
use Rattle.sheet.proofs.Trials.{back_as_before}
use Rattle.sheet.proofs.trial.Trial.begin.Goals as goal

pub returns-clause-after : goal.returns-clause-after
returns-clause-after c =
    back_as_before (page c.args.sheet.now) (page c.withdraw.new.self) c.args.part _ (omega arith) (search rules) (search rules)
