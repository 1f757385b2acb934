-- What a sheet holds, and what each call makes of it. Assumes nothing.
use Rattle.std.specs.Prelude.{◌≡◌, ℕ, zero, suc, ◌+◌, ◌^◌, Bool, true, false, cond, ◌&&◌, List, set, replicate, Some, None, Option, Result, nat_lt, slice_index_or, slice_set}
use Rattle.structure.specs.Drawings.{order_refused as structure_refused}
use Rattle.structure.specs.States.{digit}
use Rattle.sheet.specs.declared.refusal.Refusal.{Refusal}
use Rattle.sheet.specs.declared.refusal.Refusal.TheVariants.{Part, Structure}
use Rattle.sheet.specs.declared.row.Row.{Row}
use Rattle.sheet.specs.declared.sheet.Sheet.{Sheet}
use Rattle.sheet.specs.Rows.{blank_row, counts_as_failed, unless, row_rate_refused, row_price_refused, row_withdraw_refused, row_put_back_refused, with_rating, with_price, with_mark}

-- an order, and a row for each part; those from the order on are of no part
pub record Page : Type 0 where
  pub order : ℕ
  pub rows : List Row

abbrev pub page : Sheet → Page
page sheet = record { order = sheet.order.parts; rows = sheet.rows }

abbrev pub row_of : ℕ → Page → Row
row_of part p = slice_index_or p.rows part blank_row

-- n parts, nothing written yet
abbrev pub blank_page : ℕ → Page
blank_page n = record { order = n; rows = replicate 16 blank_row }

-- ---- what is read of it

abbrev pub row_if_any : ℕ → Page → Option Row
row_if_any part p = cond (nat_lt part p.order) (Some (row_of part p)) None

-- the set of those of the parts 0 to n - 1 that pass a test
abbrev pub set_of : (ℕ → Bool) → ℕ → ℕ
set_of test zero = 0
set_of test (suc n) = set_of test n + cond (test n) (2 ^ n) 0

-- of the parts below n, the set of those that count as failed
abbrev pub failed_below : ℕ → List Row → ℕ
failed_below n rows = set_of (λ part. counts_as_failed (slice_index_or rows part blank_row)) n

abbrev pub failed_parts : Page → ℕ
failed_parts p = failed_below p.order p.rows

-- the set has just the parts whose row counts as failed
abbrev pub HasFailed : Page → ℕ → Type 0
HasFailed p set = (part : ℕ) → digit set part ≡ cond (nat_lt part p.order && counts_as_failed (row_of part p)) 1 0

-- ---- why each call is refused, first fit first

abbrev pub start_refused : ℕ → Option Refusal
start_refused n = elim (structure_refused n) [ None ↦ None | Some why ↦ Some (Structure why) ]

-- no such part, or what the part's row refuses
abbrev pub part_refused : (Row → Option Refusal) → ℕ → Page → Option Refusal
part_refused refused part p = cond (nat_lt part p.order) (refused (row_of part p)) (Some Part)

abbrev pub rate_refused : ℕ → ℕ → Page → Option Refusal
rate_refused part rating p = part_refused (row_rate_refused rating) part p

abbrev pub price_refused : ℕ → ℕ → Page → Option Refusal
price_refused part price p = part_refused (row_price_refused price) part p

abbrev pub withdraw_refused : ℕ → Page → Option Refusal
withdraw_refused part p = part_refused row_withdraw_refused part p

abbrev pub put_back_refused : ℕ → Page → Option Refusal
put_back_refused part p = part_refused row_put_back_refused part p

-- ---- what each call makes of the sheet, and its answer

abbrev pub started : ℕ → Page → Result (Unit {0}) Refusal × Page
started n p = unless (start_refused n) (blank_page n) p

-- one part's row changed, every other left alone
abbrev pub changed : (Row → Row) → ℕ → Page → Page
changed change part p = record { order = p.order; rows = slice_set p.rows part (change (row_of part p)) }

abbrev pub rated : ℕ → ℕ → Page → Result (Unit {0}) Refusal × Page
rated part rating p = unless (rate_refused part rating p) (changed (with_rating rating) part p) p

abbrev pub priced : ℕ → ℕ → Page → Result (Unit {0}) Refusal × Page
priced part price p = unless (price_refused part price p) (changed (with_price price) part p) p

abbrev pub taken_out : ℕ → Page → Result (Unit {0}) Refusal × Page
taken_out part p = unless (withdraw_refused part p) (changed (with_mark true) part p) p

abbrev pub put_back : ℕ → Page → Result (Unit {0}) Refusal × Page
put_back part p = unless (put_back_refused part p) (changed (with_mark false) part p) p
