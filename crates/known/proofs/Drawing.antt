-- Sets of a list drawn one after another. Assumes nothing.
use Rattle.std.proofs.Common.{◌≡◌, ℕ, ◌+◌, ◌<◌, ◌≤◌, List, [], ◌∷◌, ◌++◌, length, get_or, drop, true, is_ok, Some, None, Ok, Err, Option, Result, sym, refl, ap, ◌∙◌, append-nil}
use Rattle.std.proofs.lemmas.Bool.{both_ways}
use Rattle.std.proofs.lemmas.List.{drop_all, drop_more}
use Rattle.structure.specs.declared.refusal.Refusal.{Refusal}
use Rattle.structure.specs.Drawings.{Drawing, set_refused, order_refused, added, started, unless}
use Rattle.analysis.proofs.Redrawing.{Drawing-on, drawing_none, drawing_more}
use Rattle.analysis.specs.Listing.{first, others}
use Rattle.analysis.specs.Redrawing.{first_refused}
use Rattle.known.specs.Drawing.{draw_refused}

abbrev Answer : Type 0
Answer = Result (Unit {0}) Refusal × Drawing

abbrev empty : ℕ → Drawing
empty n = record { order = n; sets = [] }

same_drawing : {n : ℕ} {sets : List ℕ} (d : Drawing) → d.order ≡ n → d.sets ≡ sets → d ≡ record { order = n; sets = sets }
same_drawing d p q j = record { order = p j; sets = q j }

-- what a call that was taken left
taken : (o : Option Refusal) (new old left : Drawing) (u : Unit {0}) → ◌≡◌ {A = Answer} (Ok u, left) (unless o new old) → (o ≡ None) × (left ≡ new)
taken None new old left u e = (refl, ap (λ (a : Answer). a.1) e)
taken (Some why) new old left u e = absurd (both_ways true (ap (λ (a : Answer). is_ok a.0) e) refl)

-- why a call was refused
refused : (o : Option Refusal) (new old left : Drawing) (why : Refusal) → ◌≡◌ {A = Answer} (Err why, left) (unless o new old) → o ≡ Some why
refused None new old left why e = absurd (both_ways true (sym (ap (λ (a : Answer). is_ok a.0) e)) refl)
refused (Some other) new old left why e = let same : ◌≡◌ {A = Result (Unit {0}) Refusal} (Err why) (Err other) = ap (λ (a : Answer). a.0) e in cc

-- where the order is taken, the sets alone are refused
order_taken : (n : ℕ) (sets : List ℕ) → order_refused n ≡ None → draw_refused n sets ≡ first_refused (empty n) sets
order_taken n sets e = ap (λ o. elim o [ Some why ↦ Some why | None ↦ first_refused (empty n) sets ]) e

-- of a list with an order that was taken, the sets before place i are drawn, and the others are still to come
pub record Drawn-to (n : ℕ) (sets : List ℕ) (i : ℕ) (held : Drawing) : Type 0 where
  pub order : order_refused n ≡ None
  pub on : Drawing-on (empty n) sets held (drop i sets)

pub drawn_none : (n : ℕ) (sets : List ℕ) (old held : Drawing) (u : Unit {0}) → ◌≡◌ {A = Answer} (Ok u, held) (started n old) → Drawn-to n sets 0 held
drawn_none n sets old held u e =
    let parts = taken (order_refused n) (empty n) old held u e in
    record { order = parts.0; on = rw parts.1 (drawing_none (empty n) sets) }

module _ {n i : ℕ} {sets : List ℕ} {held : Drawing} (to : Drawn-to n sets i held) where
  pub drawn_more : (held' : Drawing) (u : Unit {0}) → i < length sets → ◌≡◌ {A = Answer} (Ok u, held') (added (get_or sets i 0) held) → Drawn-to n sets (i + 1) held'
  drawn_more held' u lt e =
      let cut = drop_more sets i 0 lt in
      record { order = to.order; on = drawing_more to.on (drop (i + 1) sets) held' (get_or sets i 0) u (ap first cut) (sym (ap others cut)) e }

  pub drawn_all : length sets ≤ i → (draw_refused n sets ≡ None) × (held ≡ record { order = n; sets = sets })
  drawn_all end =
      let done = drop_all i sets end in
      let told : first_refused (empty n) sets ≡ None = sym to.on.refused ∙ ap (first_refused held) done in
      let whole : held.sets ≡ sets = sym (append-nil held.sets) ∙ ap (λ l. held.sets ++ l) (sym done) ∙ to.on.sets in
      (order_taken n sets to.order ∙ told, same_drawing held to.on.order whole)

  pub drawn_refused : (left : Drawing) (why : Refusal) → i < length sets → ◌≡◌ {A = Answer} (Err why, left) (added (get_or sets i 0) held) → draw_refused n sets ≡ Some why
  drawn_refused left why lt e =
      let x = get_or sets i 0 in
      let rest = drop (i + 1) sets in
      let fits = refused (set_refused held x) (record { order = held.order; sets = held.sets ++ (x ∷ []) }) held left why e in
      let here : first_refused held (x ∷ rest) ≡ Some why = ap (λ o. elim o [ Some other ↦ Some other | None ↦ first_refused (record { order = held.order; sets = held.sets ++ (x ∷ []) }) rest ]) fits in
      order_taken n sets to.order ∙ sym to.on.refused ∙ ap (first_refused held) (drop_more sets i 0 lt) ∙ here
