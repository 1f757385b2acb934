-- What a row holds, and what each call makes of it. Assumes nothing.
use Rattle.std.specs.Prelude.{ℕ, Bool, true, false, cond, Some, None, Ok, Err, Option, Result, nat_lt}
use Rattle.sheet.specs.declared.refusal.Refusal.{Refusal}
use Rattle.sheet.specs.declared.refusal.Refusal.TheVariants.{Rating, Price, RatedWithdrawn, Withdrawn, InService}
use Rattle.sheet.specs.declared.row.Row.{Row}

-- rated 0, priced 0, in service
abbrev pub blank_row : Row
blank_row = record { rating = 0; price = 0; withdrawn = false }

-- ---- all that is read of a row when the station is asked

abbrev pub counts_as_failed : Row → Bool
counts_as_failed row = row.withdrawn

abbrev pub rating_in_force : Row → ℕ
rating_in_force row = row.rating

-- ---- why each call is refused, first fit first

abbrev pub row_rate_refused : ℕ → Row → Option Refusal
row_rate_refused rating row = cond (nat_lt 65536 rating) (Some Rating) (cond row.withdrawn (Some RatedWithdrawn) None)

abbrev pub row_price_refused : ℕ → Row → Option Refusal
row_price_refused price row = cond (nat_lt 65535 price) (Some Price) None

abbrev pub row_withdraw_refused : Row → Option Refusal
row_withdraw_refused row = cond row.withdrawn (Some Withdrawn) None

abbrev pub row_put_back_refused : Row → Option Refusal
row_put_back_refused row = cond row.withdrawn None (Some InService)

-- the answer of a call that only looks
abbrev pub allowed : Option Refusal → Result (Unit {0}) Refusal
allowed None = Ok tt
allowed (Some why) = Err why

-- ---- what each call makes of the row, and its answer

abbrev pub with_rating : ℕ → Row → Row
with_rating rating row = record { rating = rating; price = row.price; withdrawn = row.withdrawn }

abbrev pub with_price : ℕ → Row → Row
with_price price row = record { rating = row.rating; price = price; withdrawn = row.withdrawn }

abbrev pub with_mark : Bool → Row → Row
with_mark mark row = record { rating = row.rating; price = row.price; withdrawn = mark }

-- a call that is refused changes nothing
abbrev pub unless : {A : Type 0} → Option Refusal → A → A → Result (Unit {0}) Refusal × A
unless None new old = (Ok tt, new)
unless (Some why) new old = (Err why, old)

abbrev pub row_rated : ℕ → Row → Result (Unit {0}) Refusal × Row
row_rated rating row = unless (row_rate_refused rating row) (with_rating rating row) row

abbrev pub row_priced : ℕ → Row → Result (Unit {0}) Refusal × Row
row_priced price row = unless (row_price_refused price row) (with_price price row) row

abbrev pub row_taken_out : Row → Result (Unit {0}) Refusal × Row
row_taken_out row = unless (row_withdraw_refused row) (with_mark true row) row

abbrev pub row_put_back : Row → Result (Unit {0}) Refusal × Row
row_put_back row = unless (row_put_back_refused row) (with_mark false row) row
