-- A sheet with one row replaced. Assumes nothing.
use Rattle.std.proofs.Common.{◌≡◌, ℕ, set, ap}
use lib.Seq.{set-get_or}
use Rattle.sheet.specs.declared.row.Row.{Row}
use Rattle.sheet.specs.Rows.{blank_row}
use Rattle.sheet.specs.Sheets.{Page, row_of}

-- the sheet with one row replaced
abbrev pub placed : Page → ℕ → Row → Page
placed p part row = record { order = p.order; rows = set p.rows part row }

pub placed_same : (p : Page) (part : ℕ) → placed p part (row_of part p) ≡ p
placed_same p part = ap (λ rows. record { order = p.order; rows = rows }) (set-get_or p.rows part blank_row)
