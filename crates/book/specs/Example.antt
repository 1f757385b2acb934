-- Two plans of a station of two parts, by which a figure is seen not to be below another. Assumes nothing.
use Rattle.std.specs.Prelude.{◌≡◌, ℕ, ◌<◌, ◌≤◌, List, [], ◌∷◌}
use Rattle.structure.specs.Kinds.{k_out_of_n}
use Rattle.structure.specs.Meanings.{Meaning}
use Rattle.sheet.specs.Figure.{WorksWherever}
use Rattle.book.specs.declared.call.Call.{Call}
use Rattle.book.specs.declared.call.Call.TheVariants.{Rate, Withdraw, Figure}
use Rattle.book.specs.declared.call.Weights.{Weights}
use Rattle.book.specs.Answers.{past_at, figure_then}
use Rattle.book.specs.History.{rating}
use Rattle.book.specs.Standing.{standing}

-- the first plan needs both parts, each rated a half
abbrev pub both : Meaning
both = k_out_of_n 2 2

abbrev pub both_calls : List (Call (Weights (Unit {0})))
both_calls = Rate 0 32768 ∷ Rate 1 32768 ∷ Figure ∷ []

-- the second needs either; part 1 is rated higher, and part 0 is withdrawn
abbrev pub either : Meaning
either = k_out_of_n 1 2

abbrev pub either_calls : List (Call (Weights (Unit {0})))
either_calls = Rate 0 32768 ∷ Rate 1 40000 ∷ Withdraw 0 ∷ []

-- the second station as it stands works wherever the first does, no part is rated lower there, and the figures are what the rule makes them
pub record PremiseMet : Type 0 where
  pub better : WorksWherever (standing both (past_at 2 both_calls 3)) (standing either (past_at 2 either_calls 3))
  pub higher : (part : ℕ) → part < 2 → rating (past_at 2 both_calls 3) part ≤ rating (past_at 2 either_calls 3) part
  pub first : (figure_then both (past_at 2 both_calls 3)).units ≡ 1073741824
  pub second : (figure_then either (past_at 2 either_calls 3)).units ≡ 2621440000
