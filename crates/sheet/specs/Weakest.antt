-- The part in service whose loss leaves the lowest figure. Assumes nothing.
use Rattle.std.specs.Prelude.{◌≡◌, ℕ, ◌<◌, ◌≤◌, Bool, false, cond, not, List, [], ◌∷◌, Some, None, Ok, Err, Option, Result, ◌==◌, nat_lt}
use Rattle.std.specs.List.{list_any}
use Rattle.structure.specs.Meanings.{Meaning}
use Rattle.analysis.specs.Minimal.{keep, rising}
use Rattle.sheet.specs.declared.refusal.Refusal.{Refusal}
use Rattle.sheet.specs.declared.refusal.Refusal.TheVariants.{Orders}
use Rattle.sheet.specs.Rows.{counts_as_failed}
use Rattle.sheet.specs.SheetFigure.{figure_at}
use Rattle.sheet.specs.Sheets.{Page, row_of, withdraw_refused}
use Rattle.sheet.specs.Trials.{on_trial}

-- the parts in service, by rising number
abbrev pub parts_in_service : Page → List ℕ
parts_in_service p = keep (λ part. not (counts_as_failed (row_of part p))) (rising 0 p.order)

-- the figure while the part is withdrawn on trial
abbrev pub figure_without : Meaning → Page → ℕ → ℕ
figure_without m p part = figure_at m (on_trial part p)

-- some part in service, when lost, leaves a lower figure than this one
abbrev pub outdone : Meaning → Page → ℕ → Bool
outdone m p part = list_any (λ other. nat_lt (figure_without m p other) (figure_without m p part)) (parts_in_service p)

abbrev pub first_of : List ℕ → Option ℕ
first_of [] = None
first_of (x ∷ xs) = Some x

-- the first of the parts in service that none outdoes
abbrev pub weakest_of : Meaning → Page → Option ℕ
weakest_of m p = first_of (keep (λ part. not (outdone m p part)) (parts_in_service p))

-- refused where sheet and structure differ in order
abbrev pub weakest_or_refusal : Meaning → Page → Result (Option ℕ) Refusal
weakest_or_refusal m p = cond (m.order == p.order) (Ok (weakest_of m p)) (Err Orders)

-- the figure without one part, or why that part is not withdrawn
abbrev pub figure_without_or_refusal : Meaning → Page → ℕ → Result ℕ Refusal
figure_without_or_refusal m p part = elim (withdraw_refused part p) [ None ↦ Ok (figure_without m p part) | Some why ↦ Err why ]

-- ---- the same, part against part

-- a part that there is, and not withdrawn
pub record InService (p : Page) (part : ℕ) : Type 0 where
  pub known : part < p.order
  pub unmarked : counts_as_failed (row_of part p) ≡ false

-- a part in service; no other leaves a lower figure, and those before it leave a higher one
pub record Weakest (m : Meaning) (p : Page) (part : ℕ) : Type 0 where
  pub in_service : InService p part
  pub lowest : (other : ℕ) → InService p other → figure_without m p part ≤ figure_without m p other
  pub first : (other : ℕ) → InService p other → other < part → figure_without m p part < figure_without m p other

-- that part, or none where no part is in service
abbrev pub Names : Meaning → Page → Option ℕ → Type 0
Names m p None = (part : ℕ) → InService p part → ⊥
Names m p (Some part) = Weakest m p part

abbrev pub NamesUnlessRefused : Meaning → Page → Result (Option ℕ) Refusal → Type 0
NamesUnlessRefused m p (Ok which) = Names m p which
NamesUnlessRefused m p (Err why) = m.order ≡ p.order → ⊥
