use Rattle.std.proofs.Common.{◌≡◌, ◌+◌, sym, ap, ◌∙◌, subst, arith, rules}
use Rattle.std.specs.Option.{option_map}
use Rattle.sheet.specs.declared.weakest.Loss.{Loss}
use Rattle.sheet.specs.Sheets.{page}
use Rattle.sheet.specs.Weakest.{figure_without_or_refusal, Names}
use Rattle.sheet.proofs.Losses.{Sofar, sofar_passed, sofar_met, sofar_all, tried_in_service, refused_out}
use Rattle.sheet.proofs.Naming.{weakest_told}
use Rattle.sheet.proofs.weakest.weakest.Goals as goal
use Rattle.sheet.proofs.weakest.weakest.Goals.{in-Ok, in_default}

pub loop-part-preserved : goal.loop-part-preserved
loop-part-preserved g c =
    let m = g.S.Structure.meaning c.args.structure.now in
    let p = page c.args.sheet.now in
    let part = c.loop-part.part in
    let told : c.figure_without.result ≡ figure_without_or_refusal m p part = c.figure_without.ensures.answer ∙ ap (λ q. figure_without_or_refusal m q part) c.loop-part.invariant.0 in (
      c.figure_without.ensures.kept ∙ c.loop-part.invariant.0,
      elim c.match-figure_without.branch [
        | in-Ok w ↦
            let tried = tried_in_service m p part w.in-Ok.figure (sym w.in-Ok.is ∙ told) in
            subst (Sofar m p (part + 1)) (sym w.lowest-is) (sofar_met m p part w.in-Ok.figure c.loop-part.lowest w.lower.result tried.0 tried.1 w.lower.ensures c.loop-part.invariant.1)
        | in_default w ↦
            let out = refused_out m p part w.in_default.field-0 (sym w.in_default.is ∙ told) in
            subst (Sofar m p (part + 1)) (sym w.lowest-is) (sofar_passed m p part c.loop-part.lowest out c.loop-part.invariant.1)
      ],
    )

pub returns : goal.returns
returns g c =
    let m = g.S.Structure.meaning c.args.structure.now in
    let p = page c.args.sheet.now in
    let all : c.loop-part.part ≡ p.order = omega (arith, c.order-part-end.ensures, c.loop-part-test.false) in
    let same : m.order ≡ p.order = c.in_ok-check_order.ensures.same in
    let named = sofar_all m p c.loop-part.part c.loop-part.lowest all c.loop-part.invariant.1 in
    let told : c.map.result ≡ option_map (λ (loss : Loss). loss.part) c.loop-part.lowest = search rules in
    let names : Names m p c.map.result = subst (Names m p) (sym told) named in
    record { kept = c.loop-part.invariant.0; answer = weakest_told m p c.map.result same names; names = names }
