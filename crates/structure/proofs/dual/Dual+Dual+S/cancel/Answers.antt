use Rattle.std.proofs.Common.{refl}
use Rattle.structure.specs.LayersLemmas.{dual_dual}
use Rattle.structure.proofs.dual.Dual+Dual+S.cancel.Goals as goal

pub returns : goal.returns
returns g c = record { value = refl; same = dual_dual (g.S.Structure.meaning c.args.self.below.below) }
