-- What the commands of a script mean. Assumes nothing.
use Rattle.std.specs.Prelude.{ℕ, cond, List, Ok, Err, Result}
use Rattle.structure.specs.declared.refusal.Refusal.{Refusal}
use Rattle.structure.specs.Drawings.{Drawing, blank, started, added}
use Rattle.structure.specs.Kinds.{path_list}
use Rattle.structure.specs.Meanings.{Meaning}
use Rattle.analysis.specs.declared.role.Role.TheVariants.{Cut}
use Rattle.analysis.specs.Minimal.{minimal_sets}
use Rattle.analysis.specs.Orders.{signature_of}
use Rattle.analysis.specs.PathNumbers.{path_numbers}
use Rattle.analysis.specs.Places.{laid, laid_whole}
use Rattle.script.specs.declared.command.Command.{Command}
use Rattle.script.specs.declared.command.Command.TheVariants.{Start, Add, Open, Tally, Signature, Cuts}
use Rattle.script.specs.declared.fault.Fault.{Fault}
use Rattle.script.specs.declared.fault.Fault.TheVariants.{Stage as wrong_stage, Station}
use Rattle.script.specs.declared.fault.StationRefusal.TheVariants.{Structure, Analysis}
use Rattle.script.specs.declared.stage.Stage.{Stage}
use Rattle.script.specs.declared.stage.Stage.TheVariants.{Blank, Drawing as in_drawing, Open as opened}
use Rattle.script.specs.Rooms.{Room, answered, room_or}
use Rattle.script.specs.Stages.{same}

-- how far a script has come, and what is drawn
pub record Progress : Type 0 where
  pub stage : Stage
  pub drawn : Drawing

-- nothing is drawn yet
abbrev pub begun : Progress
begun = record { stage = Blank; drawn = blank }

-- what an accepted command answers: nothing to print, or numbers
pub data Answer : Type 0 where
  silent : Answer
  tally signature cuts : List ℕ → Answer

-- the one stage in which a command is taken
abbrev pub taken_in : Command → Stage
taken_in (Start order) = Blank
taken_in (Add set) = in_drawing
taken_in Open = in_drawing
taken_in Tally = opened
taken_in Signature = opened
taken_in Cuts = opened

-- after a call on the drawing: in drawing, or as before with the call's refusal
abbrev pub drawing_on : Progress → Result (Unit {0}) Refusal → Drawing → Result Answer Fault × Progress
drawing_on p (Ok done) new = (Ok silent, record { stage = in_drawing; drawn = new })
drawing_on p (Err why) new = (Err (Station (Structure why)), p)

-- the station that was opened
abbrev pub station : Progress → Meaning
station p = path_list p.drawn

abbrev pub cuts_of : Progress → List ℕ
cuts_of p = minimal_sets Cut (station p)

-- an answer of several numbers, if there is room for them
abbrev pub if_room : ℕ → List ℕ → Result (List ℕ) Fault
if_room = room_or (λ why. Station (Analysis why))

-- what a command that is taken answers, and what then stands
abbrev pub carried : Room → Command → Progress → Result Answer Fault × Progress
carried room (Start order) p = drawing_on p (started order p.drawn).0 (started order p.drawn).1
carried room (Add set) p = drawing_on p (added set p.drawn).0 (added set p.drawn).1
carried room Open p = (Ok silent, record { stage = opened; drawn = p.drawn })
carried room Tally p = (answered tally (if_room room.numbers (path_numbers (station p))), p)
carried room Signature p = (answered signature (if_room room.numbers (signature_of (station p))), p)
carried room Cuts p = (answered cuts (if_room room.sets (cuts_of p)), p)

-- the same of any command
abbrev pub step : Room → Command → Progress → Result Answer Fault × Progress
step room command p = cond (same p.stage (taken_in command)) (carried room command p) (Err wrong_stage, p)

-- what the places lent for sets then hold: the sets of a list that was taken, else what they held
abbrev pub sets_after : Command → Progress → List ℕ → List ℕ
sets_after (Start order) p places = places
sets_after (Add set) p places = places
sets_after Open p places = places
sets_after Tally p places = places
sets_after Signature p places = places
sets_after Cuts p places = cond (same p.stage opened) (laid (cuts_of p) places) places

-- what the places lent for numbers then hold: those of a tally or signature that found room, else what they held
abbrev pub numbers_after : Command → Progress → List ℕ → List ℕ
numbers_after (Start order) p places = places
numbers_after (Add set) p places = places
numbers_after Open p places = places
numbers_after Tally p places = cond (same p.stage opened) (laid_whole (path_numbers (station p)) places) places
numbers_after Signature p places = cond (same p.stage opened) (laid_whole (signature_of (station p)) places) places
numbers_after Cuts p places = places
