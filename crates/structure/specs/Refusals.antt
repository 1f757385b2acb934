-- The numbers that refusals are known by. Assumes nothing.
use Rattle.std.specs.Prelude.{ℕ}
use Rattle.structure.specs.declared.refusal.Refusal.{Refusal}
use Rattle.structure.specs.declared.refusal.Refusal.TheVariants.{Order, Full, Empty, Stray, Threshold}

abbrev pub number_of : Refusal → ℕ
number_of Order = 1  -- the order lies outside 1 to 16
number_of Full = 2  -- 64 sets stand already
number_of Empty = 3  -- the set has no part
number_of Stray = 4  -- the set has a part at or above the order
number_of Threshold = 5  -- k lies outside 1 to the order
