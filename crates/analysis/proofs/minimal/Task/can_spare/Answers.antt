use Rattle.std.proofs.Common.{◌-◌, ◌^◌, ◌&&◌, sym, ap, ◌∙◌, arith}
use Rattle.std.proofs.lemmas.Bool.{eq-eqb, ne_eqb}
use Rattle.structure.specs.States.{digit}
use Rattle.structure.specs.Digits.{shifted}
use Rattle.analysis.specs.Minimal.{does}
use Rattle.analysis.proofs.minimal.Task.can_spare.Goals as goal

pub returns-then-set-part-eq1 : goal.returns-then-set-part-eq1
unfolding digit
returns-then-set-part-eq1 g c =
    let m = g.S.Structure.meaning c.args.self.now.structure.now in
    let sized = g.met.S.Structure.sized c.args.self.now.structure.now in
    c.is_done_by.ensures
    ∙ ap (λ x. does c.args.self.now.role m (c.args.set - x)) (shifted c.args.part (omega (arith, sized, c.requires.1)))
    ∙ sym (ap (λ b. b && does c.args.self.now.role m (c.args.set - 2 ^ c.args.part)) (eq-eqb _ 1 c.if-set-part-eq1.true))

pub returns-else-set-part-eq1 : goal.returns-else-set-part-eq1
unfolding digit
returns-else-set-part-eq1 g c =
    let m = g.S.Structure.meaning c.args.self.now.structure.now in
    let absent = ne_eqb (digit c.args.set c.args.part) 1 c.if-set-part-eq1.false in
    absent ∙ sym (ap (λ b. b && does c.args.self.now.role m (c.args.set - 2 ^ c.args.part)) absent)
