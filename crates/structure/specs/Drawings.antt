-- What a list of sets holds, and what start and add make of it. Assumes nothing.
use Rattle.std.specs.Prelude.{ℕ, ◌^◌, cond, ◌&&◌, List, [], ◌∷◌, ◌++◌, length, take, Some, None, Ok, Err, Option, Result, ◌==◌, nat_le}
use Rattle.structure.specs.declared.refusal.Refusal.{Refusal}
use Rattle.structure.specs.declared.refusal.Refusal.TheVariants.{Order, Full, Empty, Stray}
use Rattle.structure.specs.declared.set_list.SetList.{SetList}

-- an order, and sets of parts in the order in which they were added
pub record Drawing : Type 0 where
  pub order : ℕ
  pub sets : List ℕ

abbrev pub drawing : SetList → Drawing
drawing l = record { order = l.order.parts; sets = take l.count l.sets }

-- a call that is refused changes nothing
abbrev pub unless : {A : Type 0} → Option Refusal → A → A → Result (Unit {0}) Refusal × A
unless None new old = (Ok tt, new)
unless (Some why) new old = (Err why, old)

abbrev pub blank : Drawing
blank = record { order = 1; sets = [] }

abbrev pub order_refused : ℕ → Option Refusal
order_refused n = cond (nat_le 1 n && nat_le n 16) None (Some Order)

-- an order, and no set
abbrev pub started : ℕ → Drawing → Result (Unit {0}) Refusal × Drawing
started n old = unless (order_refused n) (record { order = n; sets = [] }) old

-- why a set is not added, first fit first
abbrev pub set_refused : Drawing → ℕ → Option Refusal
set_refused d set =
    cond (nat_le 64 (length d.sets)) (Some Full) (cond (set == 0) (Some Empty) (cond (nat_le (2 ^ d.order) set) (Some Stray) None))

abbrev pub added : ℕ → Drawing → Result (Unit {0}) Refusal × Drawing
added set d = unless (set_refused d set) (record { order = d.order; sets = d.sets ++ (set ∷ []) }) d
