use Rattle.std.proofs.Common.{◌-◌, ap₂}
use Rattle.structure.specs.States.{reversed}
use Rattle.structure.proofs.order.Order.reverse.Goals as goal

pub returns : goal.returns
unfolding reversed
returns c = ap₂ (λ x y. x - y) c.all.ensures c.known.ensures.value
