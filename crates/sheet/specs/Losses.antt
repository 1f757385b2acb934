-- Losses that are held against one another. Assumes nothing.
use Rattle.std.specs.Prelude.{cond, Some, None, Option, nat_le}
use Rattle.sheet.specs.declared.weakest.Loss.{Loss}

-- the loss that leaves the lower figure, the earlier one where both leave the same
abbrev pub lower_of : Option Loss → Loss → Loss
lower_of None later = later
lower_of (Some earlier) later = cond (nat_le earlier.figure later.figure) earlier later
