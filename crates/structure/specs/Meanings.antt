-- What a structure means: which states of its parts work. Assumes nothing.
use Rattle.std.specs.Prelude.{◌≡◌, ℕ, ◌^◌, ◌<◌, ◌≤◌, Bool, true}
use Rattle.structure.specs.States.{Within}

-- n parts, numbered 0 to n - 1, and a yes or no for each state below 2 ^ n
pub record Meaning : Type 0 where
  pub order : ℕ
  pub works : ℕ → Bool

abbrev pub Sized : Meaning → Type 0
Sized m = (1 ≤ m.order) × (m.order ≤ 16)

-- y is a state of n parts in which every part works that works in x
abbrev pub Raised : ℕ → ℕ → ℕ → Type 0
Raised n x y = (y < 2 ^ n) × Within x y

-- a state that works still works with more parts working
abbrev pub Monotone : Meaning → Type 0
Monotone m = (x y : ℕ) → Raised m.order x y × (m.works x ≡ true) → m.works y ≡ true

-- of one order, and working in the same states
pub record Same (a b : Meaning) : Type 0 where
  pub order : a.order ≡ b.order
  pub works : (s : ℕ) → s < 2 ^ a.order → a.works s ≡ b.works s
