-- What adding a set does to a list that takes it. Assumes nothing.
use Rattle.std.proofs.Common.{◌≡◌, ℕ, ◌+◌, ◌^◌, ◌<◌, List, length, take, set, Ok, ap, arith}
use Rattle.std.proofs.lemmas.List.{take_more_set, length-take-le}
use Rattle.std.proofs.lemmas.Bool.{lt-leb, ne_eqb}
use Rattle.structure.specs.Drawings.{added}

pub add_taken : (n count p : ℕ) (sets : List ℕ) → length sets ≡ 64 → count < 64 → (p ≡ 0 → ⊥) → p < 2 ^ n → (Ok tt, record { order = n; sets = take (count + 1) (set sets count p) }) ≡ added p (record { order = n; sets = take count sets })
add_taken n count p sets long room some fits =
    let kept : length (take count sets) < 64 = omega (arith, length-take-le count sets (omega arith)) in
    rw (lt-leb 64 (length (take count sets)) kept, ne_eqb p 0 some, lt-leb (2 ^ n) p fits)
    (ap (λ l. (Ok tt, record { order = n; sets = l })) (take_more_set sets count p (omega arith)))
