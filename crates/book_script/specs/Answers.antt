-- The line that answers a command, and all that commands do. Assumes nothing.
use Rattle.std.specs.Prelude.{ℕ, List, [], ◌∷◌, Ok, Err, Result}
use Rattle.script.specs.declared.line.RowKind.TheVariants.{Tally, Signature, Cuts}
use Rattle.script.specs.Lines.{row_text, fault_text}
use Rattle.script.specs.Scripts.{Effects}
use Rattle.book_script.specs.declared.command.Command.{Command}
use Rattle.book_script.specs.declared.fault.Fault.{Fault}
use Rattle.book_script.specs.Faults.{number_of}
use Rattle.book_script.specs.Language.{Progress, Answer, silent, figure, tally, signature, cuts, step, sets_after, numbers_after}
use Rattle.book_script.specs.Lines.{figure_text}

-- the line that answers a command, if it has one
abbrev pub line_of : ℕ → Result Answer Fault → List (List ℕ)
line_of place (Ok silent) = []
line_of place (Ok (figure f)) = figure_text f.units f.held ∷ []
line_of place (Ok (tally xs)) = row_text Tally xs ∷ []
line_of place (Ok (signature xs)) = row_text Signature xs ∷ []
line_of place (Ok (cuts xs)) = row_text Cuts xs ∷ []
line_of place (Err fault) = fault_text place (number_of fault) ∷ []

abbrev pub effects : Effects Command Progress
effects = record {
  prints = λ room c p. line_of c.place (step room c.command p).0;
  makes = λ room command p. (step room command p).1;
  sets = sets_after;
  numbers = numbers_after;
}
