-- A call on a book that agrees with its history. Assumes nothing.
use Rattle.std.specs.Prelude.{◌≡◌, ℕ, ◌<◌, List, drop, Ok, Err, Result, slice_index_or}
use Rattle.structure.specs.Meanings.{Meaning}
use Rattle.weight.specs.declared.Weight.{Ghosts}
use Rattle.analysis.specs.Weighed.{slots_needed}
use Rattle.sheet.specs.declared.refusal.Refusal.{Refusal}
use Rattle.book.specs.declared.answer.Reply.TheVariants.{Done}
use Rattle.book.specs.declared.book.Book.{Book}
use Rattle.book.specs.declared.call.Call.{Call}
use Rattle.book.specs.declared.call.Weights.{Weights}
use Rattle.book.specs.declared.call.Call.TheVariants.{Figure}
use Rattle.book.specs.Agreement.{Agreed}
use Rattle.book.specs.Answers.{Answer, answer_to, deed_of, onward, past_at}
use Rattle.book.specs.Books.{opened, entered}
use Rattle.book.specs.History.{Deed}

-- the book was opened on m and has seen the past
abbrev pub Saw : Meaning → List Deed → Book → Type 0
Saw m past book = Agreed m past (opened book) (entered book)

-- it answers as the past says, and has then seen the call too
pub record Followed {W : Type 0} (weight : Ghosts W) (m : Meaning) (past : List Deed) (call : Call (Weights W)) (after : Book) (r : Answer W) : Type 0 where
  pub answers : r ≡ answer_to weight m past call
  pub saw : Saw m (onward m.order past (deed_of call)) after

abbrev pub Follows : {W : Type 0} → Ghosts W → Call (Weights W) → Book → Book → Answer W → Type 0
Follows weight call before after r = (m : Meaning) (past : List Deed) → Saw m past before → Followed weight m past call after r

-- the first k calls are answered, in the first k places
pub record Played {W : Type 0} (weight : Ghosts W) (m : Meaning) (calls : List (Call (Weights W))) (k : ℕ) (given : List (Answer W)) (book : Book) : Type 0 where
  pub each : (j : ℕ) → j < k → slice_index_or given j (Ok Done) ≡ answer_to weight m (past_at m.order calls j) (slice_index_or calls j Figure)
  pub saw : Saw m (past_at m.order calls k) book

-- the answer to a call that only does something, or does not
abbrev pub done_or : {W : Type 0} → Result (Unit {0}) Refusal → Answer W
done_or (Ok done) = Ok Done
done_or (Err why) = Err why

-- of lent slots, those that weighing n parts does not want are as they were
abbrev pub Spared : {W : Type 0} → ℕ → List W → List W → Type 0
Spared n before after = drop (slots_needed n) after ≡ drop (slots_needed n) before
