-- The numbers that faults are known by, by their layer. Assumes nothing.
use Rattle.std.specs.Prelude.{ℕ}
use Rattle.analysis.specs.Refusals.{number_of as analysis_number}
use Rattle.sheet.specs.Refusals.{number_of as book_number}
use Rattle.structure.specs.Refusals.{number_of as structure_number}
use Rattle.script.specs.Faults.{malformed_number}
use Rattle.book_script.specs.declared.fault.StationRefusal.{StationRefusal}
use Rattle.book_script.specs.declared.fault.StationRefusal.TheVariants.{Structure, Analysis, Book}
use Rattle.book_script.specs.declared.fault.Fault.{Fault}
use Rattle.book_script.specs.declared.fault.Fault.TheVariants.{Reading, Stage, Station}

abbrev pub refusal_number : StationRefusal → ℕ
refusal_number (Structure why) = structure_number why
refusal_number (Analysis why) = analysis_number why
refusal_number (Book why) = book_number why

abbrev pub number_of : Fault → ℕ
number_of (Reading why) = malformed_number why
number_of Stage = 22  -- the command is not taken in this stage
number_of (Station why) = refusal_number why
