use Rattle.std.proofs.Common.{◌≡◌, ◌%◌, ◌^◌, not, sym, ap, ◌∙◌, mod-eq_of_lt}
use Rattle.structure.specs.States.{reversed}
use Rattle.structure.specs.Digits.{reversed_below}
use Rattle.structure.specs.LayersLemmas.{asked_whole}
use Rattle.analysis.specs.Minimal.{does}
use Rattle.analysis.proofs.minimal.Task.is_done_by.Goals as goal

pub returns-in-Path : goal.returns-in-Path
returns-in-Path g c =
    let m = g.S.Structure.meaning c.args.self.now.structure.now in
    c.works.ensures ∙ asked_whole m c.args.set c.requires ∙ ap (λ r. does r m c.args.set) (sym c.in-Path.is)

pub returns-in-Cut : goal.returns-in-Cut
returns-in-Cut g c =
    let m = g.S.Structure.meaning c.args.self.now.structure.now in
    let set = c.args.set in
    let others : c.reverse.result ≡ reversed m.order set =
    c.reverse.ensures ∙ ap (λ n. reversed n (set % 2 ^ n)) c.of.ensures ∙ ap (reversed m.order) (mod-eq_of_lt c.requires) in
    ap not (c.works-in-Cut.ensures ∙ ap (λ x. m.works (x % 2 ^ m.order)) others ∙ asked_whole m (reversed m.order set) (reversed_below m.order set))
    ∙ ap (λ r. does r m set) (sym c.in-Cut.is)
