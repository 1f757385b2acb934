-- What every accepted call keeps to. Assumes nothing.
use Rattle.std.proofs.Common.{◌≡◌, ℕ, ◌<◌, ◌≤◌, Bool, true, false, cond, eqb, ltb, List, [], ◌∷◌, is_some, Some, None, Option, sym, refl, ap, ◌∙◌, ⊎_elim, arith}
use Rattle.std.proofs.lemmas.Bool.{cases_Bool, both_ways, cond-true, cond-false, cond_both, eqb-true, ltb-true, ltb-false}
use Rattle.sheet.specs.declared.refusal.Refusal.{Refusal}
use Rattle.sheet.specs.declared.refusal.Refusal.TheVariants.{Part, Rating}
use Rattle.book.specs.History.{Deed, Rate, SetPrice, Withdraw, PutBack, AskFigure, withdrawn, rating, verdict, next, noted, accepted}

-- each call of the past was accepted when it was made
abbrev pub Sound : ℕ → List Deed → Type 0
Sound n [] = Unit {0}
Sound n (deed ∷ past) = (verdict n past deed ≡ None) × Sound n past

some_not_none : (why : Refusal) → ◌≡◌ {A = Option Refusal} (Some why) None → ⊥
some_not_none why e = both_ways true (ap is_some e) refl

-- where a test refuses, it did not hold; and what else refuses did not either
pub passes : (test : Bool) (rest : Option Refusal) (why : Refusal) → cond test rest (Some why) ≡ None → (test ≡ true) × (rest ≡ None)
passes true rest why e = (refl, e)
passes false rest why e = absurd (some_not_none why e)

escapes : (test : Bool) (rest : Option Refusal) (why : Refusal) → cond test (Some why) rest ≡ None → (test ≡ false) × (rest ≡ None)
escapes true rest why e = absurd (some_not_none why e)
escapes false rest why e = (refl, e)

pub noted_sound : (n : ℕ) (past : List Deed) (deed : Deed) (v : Option Refusal) → verdict n past deed ≡ v → Sound n past → Sound n (noted v deed past)
noted_sound n past deed None e sound = (e, sound)
noted_sound n past deed (Some why) e sound = sound

pub next_sound : (n : ℕ) (past : List Deed) (deed : Deed) → Sound n past → Sound n (next n past deed)
next_sound n past deed = noted_sound n past deed (verdict n past deed) refl

pub accepted_sound : (n : ℕ) (past deeds : List Deed) → Sound n past → Sound n (accepted n past deeds)
accepted_sound n past [] sound = sound
accepted_sound n past (deed ∷ deeds) sound = accepted_sound n (next n past deed) deeds (next_sound n past deed sound)

-- no accepted rating is over 65,536
pub rating_most : (n : ℕ) (past : List Deed) → Sound n past → (part : ℕ) → rating past part ≤ 65536
rating_most n [] sound part = omega arith
rating_most n (Rate p new ∷ past) sound part =
    let fits = (escapes (ltb 65536 new) _ Rating (passes (ltb p n) _ Part sound.0).1).0 in
    cond_both (eqb p part) new (rating past part) (λ r. r ≤ 65536) (λ _. ltb-false 65536 new fits) (λ _. rating_most n past sound.1 part)
rating_most n (SetPrice p new ∷ past) sound part = rating_most n past sound.1 part
rating_most n (Withdraw p ∷ past) sound part = rating_most n past sound.1 part
rating_most n (PutBack p ∷ past) sound part = rating_most n past sound.1 part
rating_most n (AskFigure ∷ past) sound part = rating_most n past sound.1 part

-- only parts of the station are withdrawn
pub withdrawn_part : (n : ℕ) (past : List Deed) → Sound n past → (part : ℕ) → withdrawn past part ≡ true → part < n
withdrawn_part n [] sound part h = absurd (both_ways false refl h)
withdrawn_part n (Rate p new ∷ past) sound part h = withdrawn_part n past sound.1 part h
withdrawn_part n (SetPrice p new ∷ past) sound part h = withdrawn_part n past sound.1 part h
withdrawn_part n (Withdraw p ∷ past) sound part h =
    ⊎_elim
    (λ (e : eqb p part ≡ true). omega (arith, eqb-true p part e, ltb-true p n (passes (ltb p n) _ Part sound.0).0))
    (λ (e : eqb p part ≡ false). withdrawn_part n past sound.1 part (sym (cond-false (eqb p part) true (withdrawn past part) e) ∙ h))
    (cases_Bool (eqb p part))
withdrawn_part n (PutBack p ∷ past) sound part h =
    ⊎_elim
    (λ (e : eqb p part ≡ true). absurd (both_ways false refl (sym (cond-true (eqb p part) false (withdrawn past part) e) ∙ h)))
    (λ (e : eqb p part ≡ false). withdrawn_part n past sound.1 part (sym (cond-false (eqb p part) false (withdrawn past part) e) ∙ h))
    (cases_Bool (eqb p part))
withdrawn_part n (AskFigure ∷ past) sound part h = withdrawn_part n past sound.1 part h
