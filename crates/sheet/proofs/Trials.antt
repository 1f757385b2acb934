-- A part withdrawn and then put back. Assumes nothing.
use Rattle.std.proofs.Common.{◌≡◌, ℕ, ◌<◌, ◌≤◌, Bool, true, false, cond, ltb, length, is_ok, Some, None, Option, sym, refl, ap, ◌∙◌, ap₂, arith, get_or-set_same, set-set}
use Rattle.std.proofs.lemmas.Bool.{lt-ltb, ltb-true}
use Rattle.std.specs.Bool.{then_some}
use Rattle.sheet.specs.declared.refusal.Refusal.{Refusal}
use Rattle.sheet.specs.declared.refusal.Refusal.TheVariants.{Part, Withdrawn}
use Rattle.sheet.specs.Rows.{blank_row, unless, with_mark}
use Rattle.sheet.specs.Sheets.{Page, row_of, changed, withdraw_refused, taken_out, put_back}
use Rattle.sheet.specs.Trials.{on_trial, trial_over}
use Rattle.sheet.proofs.Sheets.{placed, placed_same}

-- marked, then unmarked, is as before
marked_unmarked : (p : Page) (part : ℕ) → part < p.order → p.order ≤ length p.rows → (row_of part p).withdrawn ≡ false → (put_back part (changed (with_mark true) part p)).1 ≡ p
marked_unmarked p part within room free =
    let row = row_of part p in
    let marked = with_mark true row in
    let there : part < length p.rows = omega arith in
    let unmarked : with_mark false row ≡ row = ap (λ mark. with_mark mark row) (sym free) in
    rw (lt-ltb part p.order within, get_or-set_same p.rows part marked blank_row there)
    (ap (λ rows. record { order = p.order; rows = rows }) (set-set p.rows part marked (with_mark false row))
    ∙ ap (placed p part) unmarked ∙ placed_same p part)

-- a trial's mark is taken off only where the trial made it
tried : (p : Page) (part : ℕ) (why : Option Refusal) → (why ≡ None → (put_back part (changed (with_mark true) part p)).1 ≡ p) → (let x = unless why (changed (with_mark true) part p) p in trial_over (then_some (is_ok x.0) part) x.1) ≡ p
tried p part None back = back refl
tried p part (Some why) back = refl

none_fits : (known held : Bool) → cond known (cond held (Some Withdrawn) None) (Some Part) ≡ None → (known ≡ true) × (held ≡ false)
none_fits true true e = let z : ◌≡◌ {A = ℕ} 0 1 = cc in absurd (omega arith)
none_fits true false e = (refl, refl)
none_fits false held e = let z : ◌≡◌ {A = ℕ} 0 1 = cc in absurd (omega arith)

free_to_withdraw : (p : Page) (part : ℕ) → withdraw_refused part p ≡ None → (part < p.order) × ((row_of part p).withdrawn ≡ false)
free_to_withdraw p part e =
    let free = none_fits (ltb part p.order) (row_of part p).withdrawn e in (ltb-true part p.order free.0, free.1)

trial_ends : (p : Page) (part : ℕ) → p.order ≤ length p.rows → trial_over (then_some (is_ok (taken_out part p).0) part) (on_trial part p) ≡ p
trial_ends p part room =
    tried p part (withdraw_refused part p) (λ e. let free = free_to_withdraw p part e in marked_unmarked p part free.0 room free.1)

-- whatever the withdrawal answered, the end of the trial brings the sheet back
pub back_as_before : (p q : Page) (part : ℕ) (marked : Option ℕ) → p.order ≤ length p.rows → q ≡ on_trial part p → marked ≡ then_some (is_ok (taken_out part p).0) part → trial_over marked q ≡ p
back_as_before p q part marked room during made = ap₂ trial_over made during ∙ trial_ends p part room
