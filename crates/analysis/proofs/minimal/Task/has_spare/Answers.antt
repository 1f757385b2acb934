use Rattle.std.proofs.Common.{sym, ap, ◌∙◌, rules, tests, arith}
use Rattle.std.proofs.lemmas.Iterator.{YieldsList-from_range}
use Rattle.std.proofs.lemmas.Iterator.Search.{any_from_yields_List}
use Rattle.std.specs.List.{list_any}
use Rattle.analysis.specs.Minimal.{spare}
use Rattle.analysis.proofs.Rising.{rising_range}
use Rattle.analysis.proofs.minimal.Task.has_spare.Goals as goal

pub returns : goal.returns
returns g c =
    let m = g.S.Structure.meaning c.args.self.now.structure.now in
    let test = spare c.args.self.now.role m c.args.set in
    any_from_yields_List test _ _ c.any.result c.any.ensures.ran
    (YieldsList-from_range 0 c.order.result m.order (cc) (omega (arith, c.order.ensures)))
    (λ x b q k. search (rules, tests))
    ∙ sym (ap (list_any test) (rising_range 0 m.order))
