-- The calls of a list answered one after another. Assumes nothing.
use Rattle.std.proofs.Common.{◌≡◌, ℕ, ◌+◌, ◌<◌, List, [], ◌∷◌, ◌++◌, length, get_or, take, drop, set, Ok, sym, refl, ap, ◌∙◌, subst, ⊎_elim, arith}
use Rattle.std.proofs.lemmas.List.{get_or-set_same, get_or-set_other, take_more}
use Rattle.std.proofs.lemmas.Bool.{cases_eq}
use Rattle.structure.specs.Meanings.{Meaning}
use Rattle.weight.specs.declared.Weight.{Ghosts}
use Rattle.book.specs.declared.answer.Reply.TheVariants.{Done}
use Rattle.book.specs.declared.book.Book.{Book}
use Rattle.book.specs.declared.call.Call.{Call}
use Rattle.book.specs.declared.call.Weights.{Weights}
use Rattle.book.specs.declared.call.Call.TheVariants.{Figure}
use Rattle.book.specs.Answers.{Answer, past_after, past_at, onward, deed_of, answer_to}
use Rattle.book.specs.Following.{Saw, Follows, Played, Spared}
use Rattle.book.specs.Books.{opened}
use Rattle.book.specs.History.{Deed}

past_then : {M : Type 0} (n : ℕ) (past : List Deed) (calls : List (Call M)) (call : Call M) → past_after n past (calls ++ (call ∷ [])) ≡ onward n (past_after n past calls) (deed_of call)
past_then n past [] call = refl
past_then n past (first ∷ calls) call = past_then n (onward n past (deed_of first)) calls call

-- one more call has been seen
pub past_more : {M : Type 0} (n : ℕ) (calls : List (Call M)) (k : ℕ) (call : Call M) → k < length calls → get_or calls k Figure ≡ call → past_at n calls (k + 1) ≡ onward n (past_at n calls k) (deed_of call)
past_more n calls k call lt is =
    ap (past_after n []) (take_more calls k Figure lt ∙ ap (λ c. take k calls ++ (c ∷ [])) is) ∙ past_then n [] (take k calls) call

module _ {W : Type 0} (weight : Ghosts W) (calls : List (Call (Weights W))) (start : Book) (slots : List W) (answers : List (Answer W)) where
  -- what holds when k calls have been answered
  pub record Playing (k : ℕ) (book : Book) (slots-now : List W) (given : List (Answer W)) : Type 0 where
    pub same : opened book ≡ opened start
    pub spared : Spared (opened start).order slots slots-now
    pub later : drop (length calls) given ≡ drop (length calls) answers
    pub played : (m : Meaning) → Saw m [] start → Played weight m calls k given book

module _ {W : Type 0} (weight : Ghosts W) (m : Meaning) (calls : List (Call (Weights W))) where
  pub played_more : (k : ℕ) (given : List (Answer W)) (book after : Book) (call : Call (Weights W)) (r : Answer W) → k < length calls → k < length given → get_or calls k Figure ≡ call → Follows weight call book after r → Played weight m calls k given book → Played weight m calls (k + 1) (set given k r) after
  played_more k given book after call r lt room is follows played =
      let followed = follows m (past_at m.order calls k) played.saw in
      record {
        each = λ j h. ⊎_elim
            (λ (e : j ≡ k). subst (λ i. get_or (set given k r) i (Ok Done) ≡ answer_to weight m (past_at m.order calls i) (get_or calls i Figure)) (sym e)
            (get_or-set_same given k r (Ok Done) room ∙ followed.answers ∙ ap (answer_to weight m (past_at m.order calls k)) (sym is)))
            (λ ne. get_or-set_other given k j r (Ok Done) ne ∙ played.each j (omega (arith, h, ne)))
            (cases_eq j k);
        saw = subst (λ past. Saw m past after) (sym (past_more m.order calls k call lt is)) followed.saw;
      }
