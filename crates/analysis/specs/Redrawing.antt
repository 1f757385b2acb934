-- Drawing a list from sets that are added one after another. Assumes nothing.
use Rattle.std.specs.Prelude.{◌≡◌, ℕ, List, [], ◌∷◌, ◌++◌, Some, None, Ok, Err, Option, Result}
use Rattle.structure.specs.declared.refusal.Refusal.{Refusal}
use Rattle.structure.specs.Drawings.{Drawing, set_refused}
use Rattle.structure.specs.Meanings.{Meaning, Same}

-- the refusal of the first add that refuses, if any does
abbrev pub first_refused : Drawing → List ℕ → Option Refusal
first_refused d [] = None
first_refused d (x ∷ xs) =
    let rest = first_refused (record { order = d.order; sets = d.sets ++ (x ∷ []) }) xs in
    elim (set_refused d x) [ Some why ↦ Some why | None ↦ rest ]

-- all the sets are drawn, in their order; else the first add that refused tells why
abbrev pub Drawn : {L : Type 0} → (L → Drawing) → ℕ → List ℕ → Result L Refusal → Type 0
Drawn view n sets (Ok list) = (first_refused (record { order = n; sets = [] }) sets ≡ None) × (view list ≡ record { order = n; sets = sets })
Drawn view n sets (Err why) = first_refused (record { order = n; sets = [] }) sets ≡ Some why

-- a drawing, where there is one, works just as the structure it was made from
abbrev pub WorksAs : {L : Type 0} → (L → Meaning) → Meaning → Result L Refusal → Type 0
WorksAs meant m (Ok list) = Same (meant list) m
WorksAs meant m (Err why) = Unit {0}
