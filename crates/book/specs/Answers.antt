-- What each call of a list answers, by the calls before it alone. Assumes nothing.
use Rattle.std.specs.Prelude.{ℕ, cond, List, [], ◌∷◌, length, take, Some, None, Option, Ok, Err, Result, ◌==◌, nat_le, nat_lt}
use Rattle.structure.specs.Meanings.{Meaning}
use Rattle.weight.specs.declared.Weight.{Ghosts}
use Rattle.analysis.specs.declared.refusal.Refusal.{Refusal as WeighRefusal}
use Rattle.analysis.specs.declared.refusal.Refusal.TheVariants.{UpWeights, DownWeights, TooFewSlots}
use Rattle.analysis.specs.Weighed.{weighed, slots_needed}
use Rattle.sheet.specs.declared.refusal.Refusal.{Refusal}
use Rattle.sheet.specs.declared.refusal.Refusal.TheVariants.{Part, Analysis}
use Rattle.sheet.specs.Figure.{floor}
use Rattle.book.specs.declared.answer.Reply.{Reply}
use Rattle.book.specs.declared.answer.Reply.TheVariants.{Done, Weighed, Figure as figure_is, Importance as importance_is}
use Rattle.book.specs.declared.call.Call.{Call}
use Rattle.book.specs.declared.call.Call.TheVariants.{Rate, Price, Withdraw, PutBack, Figure, Importance, Weigh}
use Rattle.book.specs.declared.call.Weights.{Weights}
use Rattle.book.specs.declared.figure.Figure.{Figure as FigureAnswer}
use Rattle.book.specs.History.{Deed, Rate as rate, SetPrice as set_price, Withdraw as withdraw, PutBack as put_back, AskFigure as ask_figure, held, verdict, next}
use Rattle.book.specs.Standing.{standing, figure_after, importance_after}

-- what a book answers to a call: a reply, or why the call was refused
abbrev pub Answer : Type 0 → Type 0
Answer W = Result (Reply W) Refusal

-- what a call does to the station's history, if it is one that does anything
abbrev pub deed_of : {M : Type 0} → Call M → Option Deed
deed_of (Rate part rating) = Some (rate part rating)
deed_of (Price part price) = Some (set_price part price)
deed_of (Withdraw part) = Some (withdraw part)
deed_of (PutBack part) = Some (put_back part)
deed_of Figure = Some ask_figure
deed_of (Importance part) = None
deed_of (Weigh weights) = None

abbrev pub onward : ℕ → List Deed → Option Deed → List Deed
onward n past None = past
onward n past (Some deed) = next n past deed

-- the accepted calls after a list of calls, the newest first
abbrev pub past_after : {M : Type 0} → ℕ → List Deed → List (Call M) → List Deed
past_after n past [] = past
past_after n past (call ∷ calls) = past_after n (onward n past (deed_of call)) calls

-- what the first k calls of a list have made of it
abbrev pub past_at : {M : Type 0} → ℕ → List (Call M) → ℕ → List Deed
past_at n calls k = past_after n [] (take k calls)

abbrev pub ruled : {W : Type 0} → Option Refusal → Answer W
ruled None = Ok Done
ruled (Some why) = Err why

-- why structures of n parts are not weighed with so many slots, first fit first
abbrev pub weigh_refused_with : {W : Type 0} → ℕ → List W → List W → ℕ → Option WeighRefusal
weigh_refused_with n up down slots =
    cond (length up == n) (cond (length down == n) (cond (nat_le (slots_needed n) slots) None (Some TooFewSlots)) (Some DownWeights)) (Some UpWeights)

abbrev pub weighed_unless : {W : Type 0} → Option WeighRefusal → W → Answer W
weighed_unless None sum = Ok (Weighed sum)
weighed_unless (Some why) sum = Err (Analysis why)

-- the figure after a past, and whether it was held
abbrev pub figure_then : Meaning → List Deed → FigureAnswer
figure_then m past = record { units = figure_after floor m past; held = held past }

module _ {W : Type 0} (weight : Ghosts W) (m : Meaning) where
  -- what a call answers after a past, of a station opened on m
  abbrev pub answer_to : List Deed → Call (Weights W) → Answer W
  answer_to past (Rate part rating) = ruled (verdict m.order past (rate part rating))
  answer_to past (Price part price) = ruled (verdict m.order past (set_price part price))
  answer_to past (Withdraw part) = ruled (verdict m.order past (withdraw part))
  answer_to past (PutBack part) = ruled (verdict m.order past (put_back part))
  answer_to past Figure = Ok (figure_is (figure_then m past))
  answer_to past (Importance part) = cond (nat_lt part m.order) (Ok (importance_is (importance_after floor m past part))) (Err Part)
  answer_to past (Weigh weights) = weighed_unless (weigh_refused_with m.order weights.up.now weights.down.now weights.slots) (weighed weight (standing m past) weights.up.now weights.down.now)
