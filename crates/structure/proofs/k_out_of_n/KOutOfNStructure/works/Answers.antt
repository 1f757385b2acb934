use Rattle.std.proofs.Common.{◌%◌, ◌^◌, mod-lt, pow_pos, rules}
use Rattle.structure.specs.Digits.{size_ones}
use Rattle.structure.proofs.k_out_of_n.KOutOfNStructure.works.Goals as goal

pub returns : goal.returns
returns c =
    let n = c.args.self.now.order.parts in
    let counted = size_ones n (c.args.state % 2 ^ n) (mod-lt c.args.state (pow_pos n)) in
    search rules
