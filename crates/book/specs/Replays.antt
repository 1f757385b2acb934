-- What is true after any list of calls on a book. Assumes nothing.
use Rattle.std.specs.Prelude.{◌≡◌, ℕ, ◌<◌, ◌≤◌, cond, List, length, drop, Some, None, Ok, Err, Option, Result, nat_le, slice_index_or}
use Rattle.structure.specs.Meanings.{Meaning}
use Rattle.weight.specs.declared.Weight.{Ghosts}
use Rattle.analysis.specs.declared.refusal.Refusal.TheVariants.{TooFewPlaces, TooFewSlots}
use Rattle.analysis.specs.Weighed.{slots_needed}
use Rattle.sheet.specs.declared.refusal.Refusal.{Refusal}
use Rattle.sheet.specs.declared.refusal.Refusal.TheVariants.{Analysis}
use Rattle.sheet.specs.Reliability.{Close}
use Rattle.book.specs.declared.answer.Reply.TheVariants.{Done}
use Rattle.book.specs.declared.call.Call.{Call}
use Rattle.book.specs.declared.call.Weights.{Weights}
use Rattle.book.specs.declared.call.Call.TheVariants.{Figure}
use Rattle.book.specs.declared.figure.Figure.{Figure as FigureAnswer}
use Rattle.book.specs.Answers.{Answer, past_at, figure_then, answer_to}
use Rattle.book.specs.Standing.{standing, ratings}
use Rattle.book.specs.Told.{Told}

-- at every point of a list of calls on a book opened on m
pub record Answered {W : Type 0} (weight : Ghosts W) (m : Meaning) (calls : List (Call (Weights W))) (given : List (Answer W)) : Type 0 where
  -- the answer is the one that the accepted calls before it define: a refusal, an importance, the units and whether they were held,
  -- or the sum over exactly the states in which the station as it stands works
  pub each : (k : ℕ) → k < length calls → slice_index_or given k (Ok Done) ≡ answer_to weight m (past_at m.order calls k) (slice_index_or calls k Figure)
  -- the figure of the station as it stands is at most its exact reliability, and short of it by fewer units than there are parts
  pub close : (k : ℕ) → k ≤ length calls → Close (standing m (past_at m.order calls k)) (ratings m.order (past_at m.order calls k)) (figure_then m (past_at m.order calls k)).units
  -- what the accepted calls say of marks, ratings, prices and held figures, their latest of each kind says
  pub told : (k : ℕ) → k ≤ length calls → Told (past_at m.order calls k)

-- the figure after all the calls
abbrev pub last_figure : {M : Type 0} → Meaning → List (Call M) → FigureAnswer
last_figure m calls = figure_then m (past_at m.order calls (length calls))

-- why a list of so many calls is not replayed on a station of n parts, first fit first: too few slots for weighing it, or too few places for the answers
abbrev pub room_refused : ℕ → ℕ → ℕ → ℕ → Option Refusal
room_refused n calls slots places =
    cond (nat_le (slots_needed n) slots) (cond (nat_le calls places) None (Some (Analysis (TooFewPlaces calls)))) (Some (Analysis TooFewSlots))

abbrev pub or_refused : {A : Type 0} → Option Refusal → A → Result A Refusal
or_refused None answer = Ok answer
or_refused (Some why) answer = Err why

-- a list replayed on a new book: its answers in the first places, and the figure at the end
pub record Whole {W : Type 0} (weight : Ghosts W) (m : Meaning) (calls : List (Call (Weights W))) (slots slots-after : List W) (places places-after : List (Answer W)) (last : FigureAnswer) : Type 0 where
  pub figure : last ≡ last_figure m calls
  pub answered : Answered weight m calls places-after
  pub later : drop (length calls) places-after ≡ drop (length calls) places
  pub spared : drop (slots_needed m.order) slots-after ≡ drop (slots_needed m.order) slots

-- the same, or refused with nothing written
pub record Replayed {W : Type 0} (weight : Ghosts W) (m : Meaning) (calls : List (Call (Weights W))) (slots slots-after : List W) (places places-after : List (Answer W)) (r : Result FigureAnswer Refusal) : Type 0 where
  pub answer : r ≡ or_refused (room_refused m.order (length calls) (length slots) (length places)) (last_figure m calls)
  pub refused : (why : Refusal) → r ≡ Err why → (slots-after ≡ slots) × (places-after ≡ places)
  pub whole : (last : FigureAnswer) → r ≡ Ok last → Whole weight m calls slots slots-after places places-after last
