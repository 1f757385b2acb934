use Rattle.std.proofs.Common.{◌≡◌, ◌-◌, ◌++◌, length, take, drop, sym, ap, ◌∙◌, subst, ap₂, le_refl, drop_at, length-take-le, rules}
use Rattle.std.specs.Io.KnownBytes.{Consumes}
use Rattle.std.proofs.KnownBytes.{Consumes-trans}
use Rattle.std.proofs.lemmas.Slice.{take-put_mid_below}
use borrow.Rule.Slice.PartMut.{put_mid, post_of}
use Rattle.std.proofs.Math.Seq.{take-add}
use Rattle.std.proofs.lemmas.List.{take-append-le}
use Rattle.script.proofs.console.read_into.Goals as goal

pub loop-filled-preserved : goal.loop-filled-preserved
loop-filled-preserved g c =
    let from = c.loop-filled.filled in
    let count = c.in_ok-count.count in
    let old = c.loop-filled.input in
    let read = c.read.new.buf in
    let new = put_mid from (length old - from) old read in
    let front : take from new ≡ take from old = take-put_mid_below _ _ _ _ _ (le_refl _) c.loop-filled.invariant.1 in
    let part : take count (drop from new) ≡ take count read =
    ap (take count) (drop_at (take from old) (read ++ post_of from (length old - from) old) from (length-take-le from old c.loop-filled.invariant.1)) ∙ take-append-le count read _ c.in_ok-count.ensures.bound.0 in
    let joined = ap₂ (λ a b. a ++ b) (sym front) (sym part) ∙ sym (take-add from count new) in
    (search rules, search rules, subst (Consumes _ _) joined (Consumes-trans _ _ _ _ _ c.loop-filled.invariant.2 c.in_ok-count.ensures.bytes.0))
