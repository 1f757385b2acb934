use Rattle.std.proofs.Common.{◌≡◌, ap, ◌∙◌, arith}
use Rattle.std.proofs.lemmas.Nat.{one_shl}
use Rattle.structure.specs.States.{digit}
use Rattle.sheet.specs.Sheets.{failed_below}
use Rattle.sheet.proofs.FailedParts.{failed_fits, failed_digit}
use Rattle.sheet.proofs.sheet.Sheet.withdrawn.Goals as goal

pub overflow_add-set : goal.overflow_add-set
overflow_add-set c =
    omega (arith, c.loop-part.invariant, one_shl c.loop-part.part 16 (omega arith), failed_fits c.loop-part.part c.args.self.now.rows (omega arith))

pub returns-clause-parts : goal.returns-clause-parts
returns-clause-parts c =
    let rows = c.args.self.now.rows in
    let n = c.args.self.now.order.parts in
    let all : c.loop-part.set ≡ failed_below n rows = c.loop-part.invariant ∙ ap (λ k. failed_below k rows) (omega arith) in
    λ part. ap (λ set. digit set part) all ∙ failed_digit n rows part
