use Rattle.std.proofs.Common.{◌%◌, ◌^◌, mod-lt, pow_pos, rules}
use Rattle.structure.specs.States.{cleared}
use Rattle.structure.specs.Digits.{cleared_below}
use Rattle.structure.specs.LayersLemmas.{asked_whole}
use Rattle.structure.proofs.hold.HoldStructure.works.Goals as goal

pub returns : goal.returns
returns g c =
    let m = g.S.Structure.meaning c.args.self.now.below in
    let set = c.args.self.now.failed in
    let state = c.args.state % 2 ^ m.order in
    let whole = asked_whole m (cleared set state) (cleared_below set state m.order (mod-lt c.args.state (pow_pos m.order))) in
    search rules
