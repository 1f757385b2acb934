-- What the commands of a script mean. Assumes nothing.
use Rattle.std.specs.Prelude.{ℕ, cond, List, [], Some, None, Ok, Err, Option, Result}
use Rattle.structure.specs.declared.refusal.Refusal.{Refusal}
use Rattle.structure.specs.Drawings.{Drawing, blank, started, added}
use Rattle.structure.specs.Kinds.{path_list}
use Rattle.structure.specs.Meanings.{Meaning}
use Rattle.analysis.specs.declared.role.Role.TheVariants.{Cut}
use Rattle.analysis.specs.Minimal.{minimal_sets}
use Rattle.analysis.specs.Orders.{signature_of}
use Rattle.analysis.specs.PathNumbers.{path_numbers}
use Rattle.analysis.specs.Places.{laid, laid_whole}
use Rattle.sheet.specs.declared.refusal.Refusal.{Refusal as BookRefusal}
use Rattle.book.specs.declared.figure.Figure.{Figure as FigureAnswer}
use Rattle.book.specs.Answers.{figure_then}
use Rattle.book.specs.History.{Deed, Rate as rate, SetPrice as set_price, Withdraw as withdraw, PutBack as put_back, AskFigure as ask_figure, verdict, next}
use Rattle.book.specs.Standing.{standing}
use Rattle.book_script.specs.declared.command.Command.{Command}
use Rattle.book_script.specs.declared.command.Command.TheVariants.{Start, Add, Open, Rate, Price, Withdraw, PutBack, Figure, Tally, Signature, Cuts}
use Rattle.book_script.specs.declared.fault.Fault.{Fault}
use Rattle.book_script.specs.declared.fault.Fault.TheVariants.{Stage as wrong_stage, Station}
use Rattle.book_script.specs.declared.fault.StationRefusal.TheVariants.{Structure, Analysis, Book}
use Rattle.script.specs.Rooms.{Room, answered, room_or}
use Rattle.script.specs.Stages.{same}
use Rattle.script.specs.declared.stage.Stage.{Stage}
use Rattle.script.specs.declared.stage.Stage.TheVariants.{Blank, Drawing as in_drawing, Open as opened}

-- how far a script has come, what is drawn, and the accepted calls on its book, the newest first
pub record Progress : Type 0 where
  pub stage : Stage
  pub drawn : Drawing
  pub past : List Deed

-- nothing is drawn yet
abbrev pub begun : Progress
begun = record { stage = Blank; drawn = blank; past = [] }

-- what an accepted command answers: nothing to print, a figure, or numbers
pub data Answer : Type 0 where
  silent : Answer
  figure : FigureAnswer → Answer
  tally signature cuts : List ℕ → Answer

-- the one stage in which a command is taken
abbrev pub taken_in : Command → Stage
taken_in (Start order) = Blank
taken_in (Add set) = in_drawing
taken_in Open = in_drawing
taken_in (Rate part rating) = opened
taken_in (Price part price) = opened
taken_in (Withdraw part) = opened
taken_in (PutBack part) = opened
taken_in Figure = opened
taken_in Tally = opened
taken_in Signature = opened
taken_in Cuts = opened

-- after a call on the drawing: in drawing, or as before with the call's refusal
abbrev pub drawing_on : Progress → Result (Unit {0}) Refusal → Drawing → Result Answer Fault × Progress
drawing_on p (Ok done) new = (Ok silent, record { stage = in_drawing; drawn = new; past = p.past })
drawing_on p (Err why) new = (Err (Station (Structure why)), p)

-- what the book was opened on
abbrev pub ground : Progress → Meaning
ground p = path_list p.drawn

-- the station as it stands: the parts withdrawn count as failed
abbrev pub station : Progress → Meaning
station p = standing (ground p) p.past

-- a call on the book is answered by the verdict on it after the calls accepted so far
abbrev pub ruled : Option BookRefusal → Result Answer Fault
ruled None = Ok silent
ruled (Some why) = Err (Station (Book why))

-- it is noted where it is accepted, and else leaves no trace
abbrev pub noting : Deed → Progress → Progress
noting deed p = record { stage = p.stage; drawn = p.drawn; past = next p.drawn.order p.past deed }

abbrev pub called : Deed → Progress → Result Answer Fault × Progress
called deed p = (ruled (verdict p.drawn.order p.past deed), noting deed p)

abbrev pub cuts_of : Progress → List ℕ
cuts_of p = minimal_sets Cut (station p)

-- an answer of several numbers, if there is room for them
abbrev pub if_room : ℕ → List ℕ → Result (List ℕ) Fault
if_room = room_or (λ why. Station (Analysis why))

-- what a command that is taken answers, and what then stands
abbrev pub carried : Room → Command → Progress → Result Answer Fault × Progress
carried room (Start order) p = drawing_on p (started order p.drawn).0 (started order p.drawn).1
carried room (Add set) p = drawing_on p (added set p.drawn).0 (added set p.drawn).1
carried room Open p = (Ok silent, record { stage = opened; drawn = p.drawn; past = [] })
carried room (Rate part rating) p = called (rate part rating) p
carried room (Price part price) p = called (set_price part price) p
carried room (Withdraw part) p = called (withdraw part) p
carried room (PutBack part) p = called (put_back part) p
carried room Figure p = (Ok (figure (figure_then (ground p) p.past)), noting ask_figure p)
carried room Tally p = (answered tally (if_room room.numbers (path_numbers (station p))), p)
carried room Signature p = (answered signature (if_room room.numbers (signature_of (station p))), p)
carried room Cuts p = (answered cuts (if_room room.sets (cuts_of p)), p)

-- the same of any command
abbrev pub step : Room → Command → Progress → Result Answer Fault × Progress
step room command p = cond (same p.stage (taken_in command)) (carried room command p) (Err wrong_stage, p)

-- what the places lent for sets then hold: the sets of a list that was taken, else what they held
abbrev pub sets_after : Command → Progress → List ℕ → List ℕ
sets_after (Start order) p places = places
sets_after (Add set) p places = places
sets_after Open p places = places
sets_after (Rate part rating) p places = places
sets_after (Price part price) p places = places
sets_after (Withdraw part) p places = places
sets_after (PutBack part) p places = places
sets_after Figure p places = places
sets_after Tally p places = places
sets_after Signature p places = places
sets_after Cuts p places = cond (same p.stage opened) (laid (cuts_of p) places) places

-- what the places lent for numbers then hold: those of a tally or signature that found room, else what they held
abbrev pub numbers_after : Command → Progress → List ℕ → List ℕ
numbers_after (Start order) p places = places
numbers_after (Add set) p places = places
numbers_after Open p places = places
numbers_after (Rate part rating) p places = places
numbers_after (Price part price) p places = places
numbers_after (Withdraw part) p places = places
numbers_after (PutBack part) p places = places
numbers_after Figure p places = places
numbers_after Tally p places = cond (same p.stage opened) (laid_whole (path_numbers (station p)) places) places
numbers_after Signature p places = cond (same p.stage opened) (laid_whole (signature_of (station p)) places) places
numbers_after Cuts p places = places
