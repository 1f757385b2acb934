-- Two books beside each other. Assumes nothing.
use Rattle.std.proofs.Common.{◌≡◌, ℕ, ◌+◌, ◌-◌, ◌≤◌, max, true, List, length, drop, is_ok, Some, None, Ok, Err, Option, sym, refl, ap, ◌∙◌, ap₂, arith}
use Rattle.std.proofs.lemmas.List.{drop-drop}
use Rattle.std.proofs.lemmas.Bool.{both_ways}
use Rattle.structure.specs.Meanings.{Meaning, Monotone}
use Rattle.weight.specs.declared.Weight.{Ghosts}
use Rattle.analysis.specs.Weighed.{slots_needed}
use Rattle.sheet.specs.declared.refusal.Refusal.{Refusal}
use Rattle.sheet.specs.Figure.{floor}
use Rattle.sheet.specs.Rows.{allowed}
use Rattle.sheet.proofs.Weighing.{floor_rounding}
use Rattle.book.specs.declared.call.Call.{Call}
use Rattle.book.specs.declared.call.Weights.{Weights}
use Rattle.book.specs.declared.figure.Figure.{Figure}
use Rattle.book.specs.Answers.{Answer, past_at}
use Rattle.book.specs.Comparisons.{Comparison, first_of, last_figures}
use Rattle.book.specs.Following.{Spared}
use Rattle.book.specs.Replays.{Whole, room_refused}
use Rattle.book.proofs.Replayed.{not_refused, room_given}
use Rattle.book.proofs.Standings.{figures_compared}

was_refused : (v : Option Refusal) (why : Refusal) → allowed v ≡ Err why → v ≡ Some why
was_refused None why e = absurd (both_ways true (ap is_ok e) refl)
was_refused (Some other) why e = ap Some (ap (λ r. elim r [ Ok done ↦ other | Err x ↦ x ]) e)

-- a check that refused, made with the order that the structure answered
pub room_refused_lem : (order n calls slots places : ℕ) → order ≡ n → (why : Refusal) → allowed (room_refused order calls slots places) ≡ Err why → room_refused n calls slots places ≡ Some why
room_refused_lem order n calls slots places e why stopped =
    ap (λ k. room_refused k calls slots places) (sym e) ∙ was_refused (room_refused order calls slots places) why stopped

spared_further : {W : Type 0} (n k : ℕ) (before after : List W) → n ≤ k → Spared n before after → Spared k before after
spared_further n k before after le same =
    let rest = slots_needed k - slots_needed n in
    let all : slots_needed n + rest ≡ slots_needed k = omega (arith, le) in
    ap (λ j. drop j after) (sym all) ∙ sym (drop-drop rest (slots_needed n) after) ∙ ap (drop rest) same ∙ drop-drop rest (slots_needed n) before ∙ ap (λ j. drop j before) all

module _ {W : Type 0} (weight : Ghosts W) (a b : Meaning) (calls others : List (Call (Weights W))) (slots : List W) (given told : List (Answer W)) where
  abbrev pub verdicts : Option Refusal
  verdicts = first_of (room_refused a.order (length calls) (length slots) (length given)) (room_refused b.order (length others) (length slots) (length told))

  -- both lists replayed, one after the other, on the same slots
  pub comparison_made : (slots-between slots-after : List W) (given-after told-after : List (Answer W)) (f g : Figure) → Monotone b → verdicts ≡ None → Whole weight a calls slots slots-between given given-after f → Whole weight b others slots-between slots-after told told-after g → Comparison weight a b calls others slots slots-after given given-after told told-after (Ok (record { first = f; second = g }))
  comparison_made slots-between slots-after given-after told-after f g mono room one two = record {
    answer = ap₂ (λ x y. Ok (record { first = x; second = y })) one.figure two.figure ∙ room_given verdicts (last_figures weight a b calls others) room;
    refused = λ why e. absurd (not_refused _ why e);
    compared = λ figures e. record {
      first = one.answered;
      second = two.answered;
      never_below = λ i j _ _ better higher. figures_compared floor floor_rounding.rises a b (past_at a.order calls i) (past_at b.order others j) mono better higher;
    };
    later = (one.later, two.later);
    spared = spared_further b.order (max a.order b.order) slots-between slots-after (omega arith) two.spared
        ∙ spared_further a.order (max a.order b.order) slots slots-between (omega arith) one.spared;
  }
