use Rattle.std.proofs.Common.{◌-◌, ap, arith}
use Rattle.std.proofs.lemmas.Nat.{and-not, and_comm}
use lib.Bits.{bit_and}
use Rattle.structure.specs.States.{cleared}
use Rattle.structure.proofs.hold.clear.Goals as goal

pub returns : goal.returns
unfolding cleared
returns c =
    let set = c.from.result in
    let state = c.args.state in
    omega (arith, c.from.ensures, and-not 32 set state (omega (arith, c.from.ensures)) (omega arith), and_comm state (4294967295 - set), and_comm state c.args.set, ap (bit_and state) c.from.ensures, and_comm state set)
