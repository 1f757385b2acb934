-- What a book means, and what is read of it. Assumes nothing.
use Rattle.std.specs.Prelude.{◌≡◌, ℕ, cond, is_some, Some, Ok, Err, Result, nat_lt}
use Rattle.structure.specs.Meanings.{Meaning}
use Rattle.structure.specs.Tables.{tabled}
use Rattle.sheet.specs.declared.refusal.Refusal.{Refusal}
use Rattle.sheet.specs.declared.refusal.Refusal.TheVariants.{Part}
use Rattle.sheet.specs.Importance.{importance_at}
use Rattle.sheet.specs.SheetFigure.{figure_at, station_at}
use Rattle.sheet.specs.Sheets.{page}
use Rattle.book.specs.declared.book.Book.{Book}
use Rattle.book.specs.declared.figure.Figure.{Figure}
use Rattle.book.specs.Entries.{Written, written}

-- the structure as it was at the opening
abbrev pub opened : Book → Meaning
opened book = tabled book.table.order.parts book.table.words

abbrev pub entered : Book → Written
entered book = written book.entries

-- the station as it stands: the opened structure with the withdrawn parts counted as failed
abbrev pub stands : Book → Meaning
stands book = station_at (opened book) (page book.entries.sheet)

-- a call on a book answers r, and changes what is written there as told, and nothing else
pub record Called {R : Type 0} (told : Written → R × Written) (before after : Book) (r : R) : Type 0 where
  pub opened : opened after ≡ opened before
  pub entered : (r, entered after) ≡ told (entered before)

-- the figure of the station as it stands, and whether it was held; from then on it is
abbrev pub book_figure : Meaning → Written → Figure × Written
book_figure m w =
    (record { units = figure_at m w.page; held = is_some w.held }, record { page = w.page; failed = w.failed; held = Some (figure_at m w.page) })

abbrev pub book_importance : Meaning → Written → ℕ → Result ℕ Refusal
book_importance m w part = cond (nat_lt part m.order) (Ok (importance_at m w.page part)) (Err Part)
