-- Sets added one after another to a drawing. Assumes nothing.
use Rattle.std.proofs.Common.{◌≡◌, ℕ, List, [], ◌∷◌, ◌++◌, Some, None, Ok, Err, Option, Result, sym, refl, ap, ◌∙◌, subst, append_assoc, arith}
use Rattle.std.specs.Prelude.{MatchResult, IsOkAnd}
use Rattle.structure.specs.declared.refusal.Refusal.{Refusal}
use Rattle.structure.specs.declared.set_list.SetList.{SetList}
use Rattle.structure.specs.Drawings.{Drawing, drawing, set_refused, added, unless}
use Rattle.structure.specs.Meanings.{Meaning, Same}
use Rattle.analysis.specs.Listing.{first, others}
use Rattle.analysis.specs.Redrawing.{first_refused, Drawn, WorksAs}
use Rattle.analysis.proofs.Places.{none_some, same_some}

abbrev Answer : Type 0
Answer = Result (Unit {0}) Refusal × Drawing

-- what a call that was taken left
took : (o : Option Refusal) (new old left : Drawing) (u : Unit {0}) → ◌≡◌ {A = Answer} (Ok u, left) (unless o new old) → (o ≡ None) × (left ≡ new)
took None new old left u e = (refl, ap (λ (a : Answer). a.1) e)
took (Some why) new old left u e = let bad : ◌≡◌ {A = Result (Unit {0}) Refusal} (Ok u) (Err why) = ap (λ (a : Answer). a.0) e in absurd (never bad)
  where
    never : ◌≡◌ {A = Result (Unit {0}) Refusal} (Ok u) (Err why) → ⊥
    never p = let z : ◌≡◌ {A = ℕ} 0 1 = cc in omega arith

uncons : (xs : List ℕ) (x : ℕ) → first xs ≡ Some x → xs ≡ x ∷ others xs
uncons [] x e = absurd (none_some x e)
uncons (y ∷ xs) x e = ap (λ z. z ∷ xs) (same_some y x e)

abbrev with_set : Drawing → ℕ → Drawing
with_set d x = record { order = d.order; sets = d.sets ++ (x ∷ []) }

refused_later : (d : Drawing) (x : ℕ) (xs : List ℕ) → set_refused d x ≡ None → first_refused d (x ∷ xs) ≡ first_refused (with_set d x) xs
refused_later d x xs e = ap (λ o. elim o [ Some other ↦ Some other | None ↦ first_refused (with_set d x) xs ]) e

-- a list of any kind made of the drawn list is drawn from the same sets, and works as a drawing of them does
pub made_of : {L : Type 0} (held : L → SetList) (kind : Drawing → Meaning) (m : Meaning) (sets : List ℕ) → Same (kind (record { order = m.order; sets = sets })) m → (r : Result SetList Refusal) (q : Result L Refusal) → Drawn drawing m.order sets r → MatchResult r (λ l. IsOkAnd q (λ x. held x ≡ l)) (λ why. q ≡ Err why) → Drawn (λ l. drawing (held l)) m.order sets q × WorksAs (λ l. kind (drawing (held l))) m q
made_of held kind m sets same (Err why) q drawn refused =
    subst (λ q. Drawn (λ l. drawing (held l)) m.order sets q × WorksAs (λ l. kind (drawing (held l))) m q) (sym refused) (drawn, tt)
made_of held kind m sets same (Ok l) (Ok x) drawn holds =
    let view : drawing (held x) ≡ record { order = m.order; sets = sets } = ap drawing holds ∙ drawn.1 in
    ((drawn.0, view), subst (λ d. Same (kind d) m) (sym view) same)
made_of held kind m sets same (Ok l) (Err why) drawn none = absurd none

-- some of the sets are drawn, and the others are still to come
pub record Drawing-on (start : Drawing) (all : List ℕ) (held : Drawing) (coming : List ℕ) : Type 0 where
  pub order : held.order ≡ start.order
  pub sets : held.sets ++ coming ≡ start.sets ++ all
  pub refused : first_refused held coming ≡ first_refused start all

pub drawing_none : (start : Drawing) (all : List ℕ) → Drawing-on start all start all
drawing_none start all = record { order = refl; sets = refl; refused = refl }

module _ {start : Drawing} {all : List ℕ} {held : Drawing} {coming : List ℕ} (on : Drawing-on start all held coming) where
  pub drawing_more : (coming' : List ℕ) (held' : Drawing) (x : ℕ) (u : Unit {0}) → first coming ≡ Some x → coming' ≡ others coming → ◌≡◌ {A = Answer} (Ok u, held') (added x held) → Drawing-on start all held' coming'
  drawing_more coming' held' x u here next taken =
      let parts = took (set_refused held x) (with_set held x) held held' u taken in
      let cut : coming ≡ x ∷ coming' = uncons coming x here ∙ ap (λ l. x ∷ l) (sym next) in
      record {
        order = ap (λ (d : Drawing). d.order) parts.1 ∙ on.order;
        sets = ap (λ (d : Drawing). d.sets ++ coming') parts.1 ∙ append_assoc held.sets (x ∷ []) coming' ∙ ap (λ l. held.sets ++ l) (sym cut) ∙ on.sets;
        refused = ap (λ d. first_refused d coming') parts.1 ∙ sym (refused_later held x coming' parts.0) ∙ ap (first_refused held) (sym cut) ∙ on.refused;
      }
