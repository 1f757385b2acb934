-- The numbers that refusals are known by. Assumes nothing.
use Rattle.std.specs.Prelude.{ℕ}
use Rattle.analysis.specs.declared.refusal.Refusal.{Refusal}
use Rattle.analysis.specs.declared.refusal.Refusal.TheVariants.{UpWeights, DownWeights, TooFewSlots, Part, TooFewPlaces}

abbrev pub number_of : Refusal → ℕ
number_of UpWeights = 6  -- there is not one up weight for each part
number_of DownWeights = 7  -- there is not one down weight for each part
number_of TooFewSlots = 8  -- fewer than three slots for each part and three more
number_of Part = 10  -- the part is at or above the order
number_of (TooFewPlaces needed) = 16  -- an answer does not fit the lent places
