-- What is true of two books after any list of calls on each. Assumes nothing.
use Rattle.std.specs.Prelude.{◌≡◌, ℕ, ◌<◌, ◌≤◌, max, List, length, drop, Some, None, Ok, Err, Option, Result}
use Rattle.structure.specs.Meanings.{Meaning}
use Rattle.weight.specs.declared.Weight.{Ghosts}
use Rattle.analysis.specs.Weighed.{slots_needed}
use Rattle.sheet.specs.declared.refusal.Refusal.{Refusal}
use Rattle.sheet.specs.Figure.{WorksWherever}
use Rattle.book.specs.declared.call.Call.{Call}
use Rattle.book.specs.declared.call.Weights.{Weights}
use Rattle.book.specs.declared.figure.Figures.{Figures}
use Rattle.book.specs.Answers.{Answer, past_at, figure_then}
use Rattle.book.specs.History.{rating}
use Rattle.book.specs.Replays.{Answered, last_figure, room_refused, or_refused}
use Rattle.book.specs.Standing.{standing}

module _ {W : Type 0} (weight : Ghosts W) (a b : Meaning) (calls others : List (Call (Weights W))) where
  -- after i calls on the first book and j on the second: where the second station as it stands works in every state in which the first does,
  -- and no part is rated lower there, the second figure is not below the first
  abbrev pub NoLowerFigure : ℕ → ℕ → Type 0
  NoLowerFigure i j =
      WorksWherever (standing a (past_at a.order calls i)) (standing b (past_at b.order others j))
      → ((part : ℕ) → part < b.order → rating (past_at a.order calls i) part ≤ rating (past_at b.order others j) part)
      → (figure_then a (past_at a.order calls i)).units ≤ (figure_then b (past_at b.order others j)).units

  -- the whole statement: what holds of each book at every point of its list, and of any point of the one beside any point of the other
  pub record Compared (given told : List (Answer W)) : Type 0 where
    pub first : Answered weight a calls given
    pub second : Answered weight b others told
    pub never_below : (i j : ℕ) → i ≤ length calls → j ≤ length others → NoLowerFigure i j

  -- both figures at the end
  abbrev pub last_figures : Figures
  last_figures = record { first = last_figure a calls; second = last_figure b others }

abbrev pub first_of : Option Refusal → Option Refusal → Option Refusal
first_of None second = second
first_of (Some why) second = Some why

-- a list replayed on each of two new books: the answers in the first places of each, and both figures; or refused, with nothing written
pub record Comparison {W : Type 0} (weight : Ghosts W) (a b : Meaning) (calls others : List (Call (Weights W))) (slots slots-after : List W) (given given-after told told-after : List (Answer W)) (r : Result Figures Refusal) : Type 0 where
  pub answer : r ≡ or_refused (first_of (room_refused a.order (length calls) (length slots) (length given)) (room_refused b.order (length others) (length slots) (length told))) (last_figures weight a b calls others)
  pub refused : (why : Refusal) → r ≡ Err why → (slots-after ≡ slots) × ((given-after ≡ given) × (told-after ≡ told))
  pub compared : (figures : Figures) → r ≡ Ok figures → Compared weight a b calls others given-after told-after
  pub later : (drop (length calls) given-after ≡ drop (length calls) given) × (drop (length others) told-after ≡ drop (length others) told)
  pub spared : drop (slots_needed (max a.order b.order)) slots-after ≡ drop (slots_needed (max a.order b.order)) slots
