use Rattle.std.proofs.Common.{ℕ, ◌*◌, ◌%◌, ◌^◌, ◌<◌, ◌∙◌, rules, tests, arith}
use Rattle.std.specs.List.{filter, range_with_len, sum_by}
use Rattle.std.proofs.lemmas.Iterator.{YieldsList-from_range, YieldsList-from_map}
use Rattle.std.proofs.lemmas.Iterator.Consumers.{YieldsList-at, YieldsList-from_filter, sum_by_from_yields_List, fits_by_from_yields_list}
use Rattle.std.proofs.lemmas.Nat.{one_shl}
use Rattle.analysis.specs.Verdicts.{matters}
use Rattle.analysis.proofs.Verdicts.{parts_added, parts_fit}
use Rattle.analysis.proofs.verdict.relevant_parts.Goals as goal

-- what a part is worth in a set
abbrev worth : ℕ → ℕ
worth part = (1 * 2 ^ part) % 2 ^ 16

pub sum-requires-clause-fits : goal.sum-requires-clause-fits
sum-requires-clause-fits g c =
    let m = g.S.Structure.meaning c.args.structure.now in
    let few = (g.met.S.Structure.sized c.args.structure.now).1 in
    let kept = filter (matters m) (range_with_len 0 m.order) in
    let fits : sum_by worth kept < 2 ^ 16 = omega (arith, parts_added (matters m) worth m.order (λ i lt. one_shl i 16 (omega arith)), parts_fit (matters m) m.order few) in
    fits_by_from_yields_list worth kept c.map.result (2 ^ 16)
    (YieldsList-from_map _ worth
    (YieldsList-at c.map.ensures.source
    (YieldsList-from_filter _ (matters m) (YieldsList-from_range 0 c.order.result m.order (cc) (omega (arith, c.order.ensures))) c.filter.ensures.closure (λ x b q k. search (rules, tests))))
    c.map.ensures.closure (λ x r q k. search rules))
    fits

pub returns : goal.returns
returns g c =
    let m = g.S.Structure.meaning c.args.structure.now in
    let few = (g.met.S.Structure.sized c.args.structure.now).1 in
    let kept = filter (matters m) (range_with_len 0 m.order) in
    sum_by_from_yields_List worth kept c.map.result c.sum.result c.sum.ensures.ran
    (YieldsList-from_map _ worth
    (YieldsList-at c.map.ensures.source
    (YieldsList-from_filter _ (matters m) (YieldsList-from_range 0 c.order.result m.order (cc) (omega (arith, c.order.ensures))) c.filter.ensures.closure (λ x b q k. search (rules, tests))))
    c.map.ensures.closure (λ x r q k. search rules))
    ∙ parts_added (matters m) worth m.order (λ i lt. one_shl i 16 (omega arith))
