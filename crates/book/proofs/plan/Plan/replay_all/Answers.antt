use Rattle.std.proofs.Common.{◌≡◌, ◌<◌, length, get_or, ◌∙◌, subst, rules, arith}
use Rattle.std.proofs.lemmas.List.{get_or_default, drop-set-lt}
use Rattle.book.specs.declared.call.Call.TheVariants.{Figure}
use Rattle.book.specs.Following.{Spared, Played}
use Rattle.book.proofs.Playing.{played_more}
use Rattle.book.proofs.Replayed.{saw_nothing, answered, last_figure_lem}
use Rattle.book.proofs.plan.Plan.replay_all.Goals as goal

pub loop-place-preserved : goal.loop-place-preserved
loop-place-preserved g c =
    let inv = c.loop-place.invariant in
    let place = c.loop-place.place in
    let calls = c.args.self.now.calls.now in
    let within = c.loop-place-test.true in
    let room : place < length c.loop-place.answers = search rules in
    let is : get_or calls place Figure ≡ c.call-item.result = search (rules, get_or_default) in
    record {
      same = c.answer.ensures.opened ∙ inv.same;
      spared = subst (λ table. Spared table.order c.loop-place.slots c.answer.new.slots) inv.same c.answer.ensures.spared ∙ inv.spared;
      later = drop-set-lt (length calls) c.loop-place.answers place c.answer.result within ∙ inv.later;
      played = λ m saw.
          played_more g.W.Weight m calls place c.loop-place.answers c.loop-place.book c.answer.new.book c.call-item.result c.answer.result
          within room is c.answer.ensures.follows (inv.played m saw);
    }

pub returns : goal.returns
returns g c =
    let structure = c.args.self.now.structure.now in
    let m = g.S.Structure.meaning structure in
    let calls = c.args.self.now.calls.now in
    let inv = c.loop-place.invariant in
    let all : c.loop-place.place ≡ length calls = omega arith in
    let saw = saw_nothing m c.open-book.result c.open-book.ensures.opened c.open-book.ensures.entered in
    let played = subst (λ k. Played g.W.Weight m calls k c.loop-place.answers c.loop-place.book) all (inv.played m saw) in
    let sized = g.met.S.Structure.sized structure in
    record {
      figure = last_figure_lem g.W.Weight m sized calls c.loop-place.answers c.loop-place.book played c.figure.new.self c.figure.result c.figure.ensures.opened c.figure.ensures.entered;
      answered = answered g.W.Weight m sized calls c.loop-place.answers c.loop-place.book played;
      later = inv.later;
      spared = subst (λ n. Spared n c.args.slots.now c.loop-place.slots) c.open-book.ensures.opened.order inv.spared;
    }
