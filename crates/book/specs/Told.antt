-- What a history says, without recursion: by the latest deed of each kind. Assumes nothing.
use Rattle.std.specs.Prelude.{◌≡◌, ℕ, Bool, true, false, List, ◌∷◌, ◌++◌, ◌==◌}
use Rattle.analysis.specs.Counts.{Each}
use Rattle.book.specs.History.{Deed, Rate, SetPrice, Withdraw, PutBack, AskFigure, withdrawn, rating, price, held}

-- the deed was done, and none done since passes the test
pub record Latest (test : Deed → Bool) (past : List Deed) (deed : Deed) : Type 0 where
  pub since : List Deed
  pub before : List Deed
  pub done : past ≡ since ++ (deed ∷ before)
  pub none : Each (λ later. test later ≡ false) since

abbrev pub Never : (Deed → Bool) → List Deed → Type 0
Never test past = Each (λ deed. test deed ≡ false) past

-- a withdraw or a return of the part
abbrev pub moves : ℕ → Deed → Bool
moves part (Rate p rating) = false
moves part (SetPrice p price) = false
moves part (Withdraw p) = p == part
moves part (PutBack p) = p == part
moves part AskFigure = false

abbrev pub rates : ℕ → Deed → Bool
rates part (Rate p rating) = p == part
rates part (SetPrice p price) = false
rates part (Withdraw p) = false
rates part (PutBack p) = false
rates part AskFigure = false

abbrev pub prices : ℕ → Deed → Bool
prices part (Rate p rating) = false
prices part (SetPrice p price) = p == part
prices part (Withdraw p) = false
prices part (PutBack p) = false
prices part AskFigure = false

-- may change the figure
abbrev pub changes : Deed → Bool
changes (Rate p rating) = true
changes (SetPrice p price) = false
changes (Withdraw p) = true
changes (PutBack p) = true
changes AskFigure = false

abbrev pub Exactly : Type 0 → Type 0 → Type 0
Exactly A B = (A → B) × (B → A)

-- what a past says, by the latest deed of each kind
pub record Told (past : List Deed) : Type 0 where
  pub marked : (part : ℕ) → Exactly (withdrawn past part ≡ true) (Latest (moves part) past (Withdraw part))
  pub rated : (part new : ℕ) → Latest (rates part) past (Rate part new) → rating past part ≡ new
  pub unrated : (part : ℕ) → Never (rates part) past → rating past part ≡ 0
  pub priced : (part new : ℕ) → Latest (prices part) past (SetPrice part new) → price past part ≡ new
  pub unpriced : (part : ℕ) → Never (prices part) past → price past part ≡ 0
  pub holds : Exactly (held past ≡ true) (Latest changes past AskFigure)
