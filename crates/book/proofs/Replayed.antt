-- What is true after any list of calls on a new book. Assumes nothing.
use Rattle.std.proofs.Common.{◌≡◌, ℕ, true, List, [], ◌∷◌, length, take, is_ok, Some, None, Ok, Err, Option, Result, sym, refl, ap, subst}
use Rattle.std.proofs.lemmas.Bool.{both_ways}
use Rattle.structure.specs.Meanings.{Meaning, Same, Sized}
use Rattle.weight.specs.declared.Weight.{Ghosts}
use Rattle.sheet.specs.declared.refusal.Refusal.{Refusal}
use Rattle.sheet.specs.Rows.{counts_as_failed, rating_in_force}
use Rattle.sheet.specs.Sheets.{blank_page}
use Rattle.book.specs.declared.book.Book.{Book}
use Rattle.book.specs.declared.call.Call.{Call}
use Rattle.book.specs.declared.call.Weights.{Weights}
use Rattle.book.specs.declared.figure.Figure.{Figure}
use Rattle.book.specs.Agreement.{Agreed, PageAgrees}
use Rattle.book.specs.Answers.{Answer, deed_of, onward, past_after, past_at}
use Rattle.book.specs.Books.{opened, entered, book_figure}
use Rattle.book.specs.Entries.{blank}
use Rattle.book.specs.Following.{Saw, Played}
use Rattle.book.specs.History.{Deed}
use Rattle.book.specs.Replays.{Answered, last_figure, or_refused}
use Rattle.book.proofs.Acceptance.{Sound, next_sound}
use Rattle.book.proofs.Histories.{told}
use Rattle.book.proofs.Keeping.{blank_read}
use Rattle.book.proofs.Replaying.{book_figure_lem}
use Rattle.book.proofs.Standings.{figure_close}

-- ---- a new book has seen nothing

blank_agrees : (n : ℕ) → PageAgrees n [] (blank_page n)
blank_agrees n = record {
  marked = λ i lt. ap counts_as_failed (blank_read 16 i);
  rated = λ i lt. ap rating_in_force (blank_read 16 i);
  priced = λ i lt. ap (λ row. row.price) (blank_read 16 i);
}

pub saw_nothing : (m : Meaning) (book : Book) → Same (opened book) m → entered book ≡ blank m.order → Saw m [] book
saw_nothing m book same is =
    subst (Agreed m [] (opened book)) (sym is) (record { opened = same; order = refl; rows = blank_agrees m.order; held = refl })

-- ---- every accepted call was accepted when it was made

onward_sound : (n : ℕ) (past : List Deed) (deed : Option Deed) → Sound n past → Sound n (onward n past deed)
onward_sound n past None sound = sound
onward_sound n past (Some deed) sound = next_sound n past deed sound

past_sound : {M : Type 0} (n : ℕ) (past : List Deed) (calls : List (Call M)) → Sound n past → Sound n (past_after n past calls)
past_sound n past [] sound = sound
past_sound n past (call ∷ calls) sound = past_sound n (onward n past (deed_of call)) calls (onward_sound n past (deed_of call) sound)

pub at_sound : {M : Type 0} (n : ℕ) (calls : List (Call M)) (k : ℕ) → Sound n (past_at n calls k)
at_sound n calls k = past_sound n [] (take k calls) tt

-- ---- the statement about one book

module _ {W : Type 0} (weight : Ghosts W) (m : Meaning) (sized : Sized m) (calls : List (Call (Weights W))) (given : List (Answer W)) (book : Book) (played : Played weight m calls (length calls) given book) where
  pub answered : Answered weight m calls given
  answered = record {
    each = played.each;
    close = λ k h. figure_close m (past_at m.order calls k) sized (at_sound m.order calls k);
    told = λ k h. told (past_at m.order calls k);
  }

  pub last_figure_lem : (after : Book) (f : Figure) → opened after ≡ opened book → (f, entered after) ≡ book_figure (opened book) (entered book) → f ≡ last_figure m calls
  last_figure_lem after f same is = (book_figure_lem book played.saw after f same is).0

-- ---- room for the answers

pub room_given : {A : Type 0} (why : Option Refusal) (answer : A) → why ≡ None → Ok answer ≡ or_refused why answer
room_given why answer e = ap (λ v. or_refused v answer) (sym e)

pub not_refused : {A : Type 0} (answer : A) (why : Refusal) → ◌≡◌ {A = Result A Refusal} (Ok answer) (Err why) → ⊥
not_refused answer why e = both_ways true (ap is_ok e) refl
