use Rattle.std.proofs.Common.{◌≡◌, ℕ, ◌+◌, ◌*◌, ◌/◌, ◌%◌, ◌^◌, List, get_or, set, sym, ap, ◌∙◌, subst, arith}
use lib.Bits.{bit_or}
use Rattle.std.proofs.lemmas.Nat.{one_shl}
use Rattle.structure.specs.Digits.{walked}
use Rattle.structure.specs.LayersLemmas.{asked_whole}
use Rattle.structure.proofs.Tables.{marked, Filled, filled_none, filled_yes, filled_no}
use Rattle.structure.proofs.table.Table.fill.Goals as goal
use Rattle.structure.proofs.table.Table.fill.Goals.{then-works, else-works}

pub loop-state-init : goal.loop-state-init
loop-state-init g c = filled_none (g.S.Structure.meaning c.args.structure.now)

with_bit : (words : List ℕ) (s : ℕ) → set words (s / 64) (bit_or (get_or words (s / 64) 0) ((1 * 2 ^ (s % 64)) % 2 ^ 64)) ≡ marked words s
with_bit words s = ap (λ b. set words (s / 64) (bit_or (get_or words (s / 64) 0) b)) (one_shl (s % 64) 64 (omega arith))

pub loop-state-preserved : goal.loop-state-preserved
loop-state-preserved g c =
    let m = g.S.Structure.meaning c.args.structure.now in
    let s = c.loop-state.state in
    let at = walked _ m.order s (c.parts.ensures ∙ c.of-order.ensures) (g.met.S.Structure.sized c.args.structure.now).1 c.loop-state-test.true in
    let answer : c.works.result ≡ m.works s = cc (asked_whole m s at.0) in
    elim c.if-works.branch [
      | then-works w ↦ subst (λ l. Filled m l (s + 1)) (sym (w.words-is ∙ with_bit c.loop-state.words s)) (filled_yes m c.loop-state.words s c.loop-state.invariant at.1 (sym answer ∙ w.if-works.true))
      | else-works w ↦ subst (λ l. Filled m l (s + 1)) (sym w.words-is) (filled_no m c.loop-state.words s c.loop-state.invariant (sym answer ∙ w.if-works.false))
    ]
