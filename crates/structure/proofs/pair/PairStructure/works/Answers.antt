use Rattle.std.proofs.Common.{max, arith, rules}
use Rattle.structure.specs.LayersLemmas.{mod_of_larger}
use Rattle.structure.proofs.pair.PairStructure.works.Goals as goal

pub returns : goal.returns
returns g c =
    let a = (g.A.Structure.meaning c.args.self.now.first).order in
    let b = (g.B.Structure.meaning c.args.self.now.second).order in
    let first = mod_of_larger c.args.state a (max a b) (omega arith) in
    let second = mod_of_larger c.args.state b (max a b) (omega arith) in
    search rules
