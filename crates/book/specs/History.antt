-- A station's history: the calls that were accepted, and what they alone say of marks, ratings and held figures. Assumes nothing.
use Rattle.std.specs.Prelude.{ℕ, Bool, true, false, cond, List, [], ◌∷◌, Some, None, Option, ◌==◌, nat_lt}
use Rattle.sheet.specs.declared.refusal.Refusal.{Refusal}
use Rattle.sheet.specs.declared.refusal.Refusal.TheVariants.{Part, Rating, Price, RatedWithdrawn, Withdrawn, InService}

-- a call on a part, by its number, or for the figure
pub data Deed : Type 0 where
  Rate : ℕ → ℕ → Deed
  SetPrice : ℕ → ℕ → Deed
  Withdraw : ℕ → Deed
  PutBack : ℕ → Deed
  AskFigure : Deed

-- ---- what a past says; it lists the accepted calls, the newest first

-- the latest withdraw or return of the part is a withdraw
abbrev pub withdrawn : List Deed → ℕ → Bool
withdrawn [] part = false
withdrawn (Rate p rating ∷ past) part = withdrawn past part
withdrawn (SetPrice p price ∷ past) part = withdrawn past part
withdrawn (Withdraw p ∷ past) part = cond (p == part) true (withdrawn past part)
withdrawn (PutBack p ∷ past) part = cond (p == part) false (withdrawn past part)
withdrawn (AskFigure ∷ past) part = withdrawn past part

-- the latest rating of the part, else 0
abbrev pub rating : List Deed → ℕ → ℕ
rating [] part = 0
rating (Rate p new ∷ past) part = cond (p == part) new (rating past part)
rating (SetPrice p price ∷ past) part = rating past part
rating (Withdraw p ∷ past) part = rating past part
rating (PutBack p ∷ past) part = rating past part
rating (AskFigure ∷ past) part = rating past part

-- the latest price of the part, else 0
abbrev pub price : List Deed → ℕ → ℕ
price [] part = 0
price (Rate p rating ∷ past) part = price past part
price (SetPrice p new ∷ past) part = cond (p == part) new (price past part)
price (Withdraw p ∷ past) part = price past part
price (PutBack p ∷ past) part = price past part
price (AskFigure ∷ past) part = price past part

-- a figure was asked for, and no part was rated, withdrawn or put back since
abbrev pub held : List Deed → Bool
held [] = false
held (Rate p rating ∷ past) = false
held (SetPrice p price ∷ past) = held past
held (Withdraw p ∷ past) = false
held (PutBack p ∷ past) = false
held (AskFigure ∷ past) = true

-- ---- which calls are accepted, of a station of n parts

-- no such part, or what else refuses the call
abbrev pub on_part : ℕ → ℕ → Option Refusal → Option Refusal
on_part n part why = cond (nat_lt part n) why (Some Part)

-- why a call is refused where the marked parts are withdrawn, first fit first
abbrev pub refused : ℕ → (ℕ → Bool) → Deed → Option Refusal
refused n marked (Rate part new) = on_part n part (cond (nat_lt 65536 new) (Some Rating) (cond (marked part) (Some RatedWithdrawn) None))
refused n marked (SetPrice part new) = on_part n part (cond (nat_lt 65535 new) (Some Price) None)
refused n marked (Withdraw part) = on_part n part (cond (marked part) (Some Withdrawn) None)
refused n marked (PutBack part) = on_part n part (cond (marked part) None (Some InService))
refused n marked AskFigure = None

abbrev pub verdict : ℕ → List Deed → Deed → Option Refusal
verdict n past deed = refused n (withdrawn past) deed

-- a refused call leaves no trace
abbrev pub noted : Option Refusal → Deed → List Deed → List Deed
noted None deed past = deed ∷ past
noted (Some why) deed past = past

abbrev pub next : ℕ → List Deed → Deed → List Deed
next n past deed = noted (verdict n past deed) deed past

-- the past after a list of calls, the first call first
abbrev pub accepted : ℕ → List Deed → List Deed → List Deed
accepted n past [] = past
accepted n past (deed ∷ deeds) = accepted n (next n past deed) deeds

-- the verdict on each call of a list
abbrev pub verdicts : ℕ → List Deed → List Deed → List (Option Refusal)
verdicts n past [] = []
verdicts n past (deed ∷ deeds) = verdict n past deed ∷ verdicts n (next n past deed) deeds
