use Rattle.std.proofs.Common.{ap, ◌∙◌}
use lib.Bits.{bit_and, and_mask}
use Rattle.structure.proofs.order.Order.known.Goals as goal

pub returns-clause-value : goal.returns-clause-value
returns-clause-value c = ap (bit_and c.args.state) c.all.ensures ∙ and_mask c.args.state c.args.self.parts
