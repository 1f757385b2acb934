use Rattle.std.proofs.Common.{◌≡◌, ltb, sym, ◌∙◌, rules, tests}
use Rattle.analysis.specs.Swings.{swing_of}
use Rattle.analysis.proofs.Swings.{swing_told}
use Rattle.analysis.proofs.Verdicts.{matters_swing}
use Rattle.analysis.proofs.verdict.is_relevant.Goals as goal

pub returns : goal.returns
returns g c =
    let m = g.S.Structure.meaning c.args.structure.now in
    let told = c.swing.ensures ∙ sym (swing_told m c.args.part c.requires) in
    let above : c.is_ok_and.result ≡ ltb 0 (swing_of m c.args.part) = search (rules, tests, told) in
    above ∙ matters_swing m c.args.part
