-- The numbers that refusals are known by. Assumes nothing.
use Rattle.std.specs.Prelude.{ℕ}
use Rattle.analysis.specs.Refusals.{number_of as analysis_number}
use Rattle.structure.specs.Refusals.{number_of as structure_number}
use Rattle.sheet.specs.declared.refusal.Refusal.{Refusal}
use Rattle.sheet.specs.declared.refusal.Refusal.TheVariants.{Part, Rating, Price, RatedWithdrawn, Withdrawn, InService, Orders, Structure, Analysis}

abbrev pub number_of : Refusal → ℕ
number_of Part = 10  -- no such part
number_of Rating = 11  -- the rating is over 65,536
number_of Price = 12  -- the price is over 65,535
number_of RatedWithdrawn = 13  -- a withdrawn part is not rated
number_of Withdrawn = 14  -- the part is withdrawn already
number_of InService = 15  -- the part is not withdrawn
number_of Orders = 17  -- sheet and structure differ in order
number_of (Structure why) = structure_number why
number_of (Analysis why) = analysis_number why
