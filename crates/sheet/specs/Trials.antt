-- A sheet while a part of it is withdrawn on trial, and after. Assumes nothing.
use Rattle.std.specs.Prelude.{ℕ, Some, None, Option}
use Rattle.sheet.specs.Sheets.{Page, taken_out, put_back}

-- as a withdrawal of the part leaves it, so unchanged where that is refused
abbrev pub on_trial : ℕ → Page → Page
on_trial part p = (taken_out part p).1

-- a mark that the trial made, on the part, is taken off
abbrev pub trial_over : Option ℕ → Page → Page
trial_over None p = p
trial_over (Some part) p = (put_back part p).1
