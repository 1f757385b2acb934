-- What is written in a book, and what each call makes of it. Assumes nothing.
use Rattle.std.specs.Prelude.{ℕ, None, Ok, Err, Option, Result}
use Rattle.sheet.specs.declared.refusal.Refusal.{Refusal}
use Rattle.sheet.specs.Sheets.{Page, page, blank_page, failed_parts}
use Rattle.book.specs.declared.entries.Entries.{Entries}

-- the sheet, the set of the parts that count as failed by it, and the figure held, if any
pub record Written : Type 0 where
  pub page : Page
  pub failed : ℕ
  pub held : Option ℕ

abbrev pub written : Entries → Written
written e = record { page = page e.sheet; failed = e.failed; held = e.held }

-- a book of n parts just opened: nothing on the sheet, and no figure held
abbrev pub blank : ℕ → Written
blank n = record { page = blank_page n; failed = 0; held = None }

-- ---- after a call on the sheet, by its answer and what it left there

-- of a call that may move the figure: where it was accepted, no figure is held any more
abbrev pub altered : Result (Unit {0}) Refusal × Page → Written → Result (Unit {0}) Refusal × Written
altered (Ok done, p) before = (Ok done, record { page = p; failed = failed_parts p; held = None })
altered (Err why, p) before = (Err why, record { page = p; failed = before.failed; held = before.held })

-- of a call that moves no figure
abbrev pub repriced : Result (Unit {0}) Refusal × Page → Written → Result (Unit {0}) Refusal × Written
repriced (answer, p) before = (answer, record { page = p; failed = before.failed; held = before.held })
