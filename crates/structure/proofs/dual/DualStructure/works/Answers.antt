use Rattle.std.proofs.Common.{◌%◌, ◌^◌, rules}
use Rattle.structure.specs.States.{reversed}
use Rattle.structure.specs.Digits.{reversed_below}
use Rattle.structure.specs.LayersLemmas.{asked_whole}
use Rattle.structure.proofs.dual.DualStructure.works.Goals as goal

pub returns : goal.returns
returns g c =
    let m = g.S.Structure.meaning c.args.self.now.below in
    let state = c.args.state % 2 ^ m.order in
    let whole = asked_whole m (reversed m.order state) (reversed_below m.order state) in
    search rules
