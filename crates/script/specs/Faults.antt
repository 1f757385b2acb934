-- The numbers that faults are known by, by their layer. Assumes nothing.
use Rattle.std.specs.Prelude.{ℕ}
use Rattle.analysis.specs.Refusals.{number_of as analysis_number}
use Rattle.structure.specs.Refusals.{number_of as structure_number}
use Rattle.script.specs.declared.fault.Malformed.{Malformed}
use Rattle.script.specs.declared.fault.Malformed.TheVariants.{Unknown, Short, Long}
use Rattle.script.specs.declared.fault.StationRefusal.{StationRefusal}
use Rattle.script.specs.declared.fault.StationRefusal.TheVariants.{Structure, Analysis}
use Rattle.script.specs.declared.fault.Fault.{Fault}
use Rattle.script.specs.declared.fault.Fault.TheVariants.{Reading, Stage, Station}

abbrev pub malformed_number : Malformed → ℕ
malformed_number Unknown = 20  -- the byte begins no command
malformed_number Short = 21  -- the input ends within a command
malformed_number Long = 23  -- the input has more than 4,096 bytes

abbrev pub refusal_number : StationRefusal → ℕ
refusal_number (Structure why) = structure_number why
refusal_number (Analysis why) = analysis_number why

abbrev pub number_of : Fault → ℕ
number_of (Reading why) = malformed_number why
number_of Stage = 22  -- the command is not taken in this stage
number_of (Station why) = refusal_number why
