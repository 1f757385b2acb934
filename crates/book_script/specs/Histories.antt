-- The calls that a script makes on its book, and what stands at its end by them alone. Assumes nothing.
use Rattle.std.specs.Prelude.{◌≡◌, cond, List, [], ◌∷◌, Some, None, Option}
use Rattle.sheet.specs.Reliability.{Close}
use Rattle.book.specs.declared.call.Call.{Call}
use Rattle.book.specs.declared.call.Call.TheVariants.{Rate as rate, Price as price, Withdraw as withdraw, PutBack as put_back, Figure as ask_figure}
use Rattle.book.specs.declared.call.Weights.{Weights}
use Rattle.book.specs.Answers.{figure_then, past_after}
use Rattle.book.specs.Standing.{ratings}
use Rattle.book.specs.Told.{Told}
use Rattle.book_script.specs.declared.command.Command.{Command}
use Rattle.book_script.specs.declared.command.Command.TheVariants.{Start, Add, Open, Rate, Price, Withdraw, PutBack, Figure, Tally, Signature, Cuts}
use Rattle.script.specs.declared.stage.Stage.TheVariants.{Open as opened}
use Rattle.book_script.specs.Language.{Progress, begun, ground, station, step}
use Rattle.script.specs.Rooms.{Room}
use Rattle.script.specs.Stages.{same}
use Rattle.script.specs.Scripts.{Placed, leaves}
use Rattle.book_script.specs.Answers.{effects}

-- the call on a book that a command is, if it is one
abbrev pub call_of : Command → Option (Call (Weights (Unit {0})))
call_of (Start order) = None
call_of (Add set) = None
call_of Open = None
call_of (Rate part rating) = Some (rate part rating)
call_of (Price part new) = Some (price part new)
call_of (Withdraw part) = Some (withdraw part)
call_of (PutBack part) = Some (put_back part)
call_of Figure = Some ask_figure
call_of Tally = None
call_of Signature = None
call_of Cuts = None

-- the call that it makes: none before the book is open
abbrev pub call_at : Progress → Command → Option (Call (Weights (Unit {0})))
call_at p command = cond (same p.stage opened) (call_of command) None

abbrev pub before : Option (Call (Weights (Unit {0}))) → List (Call (Weights (Unit {0}))) → List (Call (Weights (Unit {0})))
before None calls = calls
before (Some call) calls = call ∷ calls

-- the calls that commands make on the book, in their order, whether accepted or refused
abbrev pub calls_in : Room → List (Placed Command) → Progress → List (Call (Weights (Unit {0})))
calls_in room [] p = []
calls_in room (c ∷ cs) p = before (call_at p c.command) (calls_in room cs (step room c.command p).1)

-- what stands once all commands are carried out
abbrev pub at_end : Room → List (Placed Command) → Progress
at_end room commands = leaves effects room commands begun

-- at the end of a script: the accepted calls are those of the list of its calls on a new book,
-- the figure is as close to the station's reliability as it must be, and the latest calls of each kind tell the rest
pub record OfHistory (room : Room) (commands : List (Placed Command)) : Type 0 where
  pub past : (at_end room commands).past ≡ past_after (at_end room commands).drawn.order [] (calls_in room commands begun)
  pub close : Close (station (at_end room commands)) (ratings (at_end room commands).drawn.order (at_end room commands).past) (figure_then (ground (at_end room commands)) (at_end room commands).past).units
  pub told : Told (at_end room commands).past
