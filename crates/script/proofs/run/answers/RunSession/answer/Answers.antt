use Rattle.std.proofs.Common.{take, rules}
use Rattle.script.specs.declared.line.RowKind.TheVariants.{Tally, Signature, Cuts}
use Rattle.script.proofs.Rows.{row_printed}
use Rattle.script.proofs.run.answers.RunSession.answer.Goals as goal

pub returns-in-Ok-Tally-clause-printed : goal.returns-in-Ok-Tally-clause-printed
returns-in-Ok-Tally-clause-printed g c =
    let told = row_printed g.O.Output.printed c.args.out.now c.print_row.new.out Tally (take c.in-Ok-Tally.count c.execute.new.numbers) c.print_row.result c.print_row.ensures in
    search rules

pub returns-in-Ok-Signature-clause-printed : goal.returns-in-Ok-Signature-clause-printed
returns-in-Ok-Signature-clause-printed g c =
    let told = row_printed g.O.Output.printed c.args.out.now c.print_row-in-Ok-Signature.new.out Signature (take c.in-Ok-Signature.count c.execute.new.numbers) c.print_row-in-Ok-Signature.result c.print_row-in-Ok-Signature.ensures in
    search rules

pub returns-in-Ok-Cuts-clause-printed : goal.returns-in-Ok-Cuts-clause-printed
returns-in-Ok-Cuts-clause-printed g c =
    let told = row_printed g.O.Output.printed c.args.out.now c.print_row-in-Ok-Cuts.new.out Cuts (take c.in-Ok-Cuts.count c.execute.new.sets) c.print_row-in-Ok-Cuts.result c.print_row-in-Ok-Cuts.ensures in
    search rules
