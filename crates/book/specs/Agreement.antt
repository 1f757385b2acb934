-- When what is written in a book agrees with the history of its calls. Assumes nothing.
use Rattle.std.specs.Prelude.{◌≡◌, ℕ, ◌<◌, Bool, cond, List, Some, None, Option}
use Rattle.structure.specs.Meanings.{Meaning, Same}
use Rattle.sheet.specs.Figure.{floor}
use Rattle.sheet.specs.Rows.{counts_as_failed, rating_in_force}
use Rattle.sheet.specs.Sheets.{Page, row_of}
use Rattle.book.specs.Entries.{Written}
use Rattle.book.specs.History.{Deed, withdrawn, rating, price, held}
use Rattle.book.specs.Standing.{figure_after}

-- what is written of each of n parts is what the past says of it
pub record Agrees (n : ℕ) (past : List Deed) (mark : ℕ → Bool) (rate : ℕ → ℕ) (cost : ℕ → ℕ) : Type 0 where
  pub marked : (part : ℕ) → part < n → mark part ≡ withdrawn past part
  pub rated : (part : ℕ) → part < n → rate part ≡ rating past part
  pub priced : (part : ℕ) → part < n → cost part ≡ price past part

abbrev pub PageAgrees : ℕ → List Deed → Page → Type 0
PageAgrees n past p = Agrees n past (λ i. counts_as_failed (row_of i p)) (λ i. rating_in_force (row_of i p)) (λ i. (row_of i p).price)

-- the figure that is held after a past, if any
abbrev pub held_after : Meaning → List Deed → Option ℕ
held_after m past = cond (held past) (Some (figure_after floor m past)) None

-- a book that was opened on m and has seen the past: its table, and what is written in it
pub record Agreed (m : Meaning) (past : List Deed) (table : Meaning) (w : Written) : Type 0 where
  pub opened : Same table m
  pub order : w.page.order ≡ m.order
  pub rows : PageAgrees m.order past w.page
  pub held : w.held ≡ held_after m past
