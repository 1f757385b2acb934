use Rattle.std.proofs.Common.{◌≡◌, ◌+◌, ◌<◌, ◌^◌, length, sym, ap, ◌∙◌, subst, inl, arith}
use Rattle.analysis.specs.Listing.{ahead_of, first, others}
use Rattle.analysis.specs.Minimal.{minimal_sets}
use Rattle.analysis.proofs.Bounds.{few_minimal}
use Rattle.analysis.proofs.Places.{Written, written_none, written_more}
use Rattle.analysis.proofs.minimal_sets.minimal_sets.Given as given
use Rattle.analysis.proofs.minimal_sets.minimal_sets.Goals as goal
use Rattle.analysis.proofs.minimal_sets.minimal_sets.Goals.{After-into_iter-at-iterator}

-- all the sets are ahead, and they can be counted
all_ahead : (g : given.Over) (c : After-into_iter-at-iterator g) → let it = c.into_iter-at-iterator.result in (ahead_of g.S.Structure.meaning it.iter ≡ minimal_sets c.args.role (g.S.Structure.meaning c.args.structure.now)) × (it.count ≡ 0) × (it.count + length (ahead_of g.S.Structure.meaning it.iter) < 2 ^ 64)
all_ahead g c =
    let m = g.S.Structure.meaning c.args.structure.now in
    let made = c.into_iter-at-iterator.ensures.into_iter_gives in
    let all = ap (λ it. ahead_of g.S.Structure.meaning it.iter) made ∙ ap (ahead_of g.S.Structure.meaning) c.enumerate-at-items.ensures.source ∙ c.new.ensures g.S.Structure.meaning in
    let none = ap (λ it. it.count) made ∙ c.enumerate-at-items.ensures.count in
    (all, none, omega (arith, none, ap length all, few_minimal c.args.role m (g.met.S.Structure.sized c.args.structure.now).1))

pub loop-at-init : goal.loop-at-init
loop-at-init g c =
    let start = all_ahead g c in
    let sets = minimal_sets c.args.role (g.S.Structure.meaning c.args.structure.now) in
    ((tt, tt, inl start.2), tt, start.1, subst (λ coming. Written sets c.args.places.now coming 0 c.args.places.now) (sym start.0) (written_none sets c.args.places.now))

pub loop-at-preserved : goal.loop-at-preserved
loop-at-preserved g c =
    let steps = c.in-Some.ensures.steps in
    let was = c.loop-at.invariant in
    let here : c.loop-at.needed ≡ c.in-Some.at = omega (arith, steps.1, was.2) in
    let sets = minimal_sets c.args.role (g.S.Structure.meaning c.args.structure.now) in (
      c.in-Some.ensures.goes.keeps,
      tt,
      omega (arith, steps.1, steps.2),
      written_more sets c.args.places.now _ _ _ _ c.in-Some.at c.in-Some.set
          (subst (λ k. Written sets c.args.places.now (ahead_of g.S.Structure.meaning c.loop-at.at-iterator.iter) k c.loop-at.places) here was.3) (ap first steps.0) (sym (ap others steps.0)) c.put.ensures,
    )
