-- Answers of several numbers, for which places are lent. Assumes nothing.
use Rattle.std.specs.Prelude.{ℕ, cond, List, length, Ok, Err, Result, nat_le}
use Rattle.analysis.specs.declared.refusal.Refusal.{Refusal}
use Rattle.analysis.specs.declared.refusal.Refusal.TheVariants.{TooFewPlaces}

-- how many places are lent for sets, and how many for numbers
pub record Room : Type 0 where
  pub sets : ℕ
  pub numbers : ℕ

-- as many places as there are in these lists
abbrev pub room_of : List ℕ → List ℕ → Room
room_of sets numbers = record { sets = length sets; numbers = length numbers }

-- several numbers, if there is room for them, or else the fault that the refusal makes
abbrev pub room_or : {F : Type 0} → (Refusal → F) → ℕ → List ℕ → Result (List ℕ) F
room_or refused room xs = cond (nat_le (length xs) room) (Ok xs) (Err (refused (TooFewPlaces (length xs))))

abbrev pub answered : {A F : Type 0} → (List ℕ → A) → Result (List ℕ) F → Result A F
answered said (Ok xs) = Ok (said xs)
answered said (Err fault) = Err fault
