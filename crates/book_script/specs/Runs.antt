-- What a run of the code stands for, and what its replies say. Assumes nothing.
use Rattle.std.specs.Prelude.{◌≡◌, ℕ, ◌≤◌, true, List, take, Ok, Err, Result}
use Rattle.structure.specs.Drawings.{drawing}
use Rattle.sheet.specs.declared.refusal.Refusal.{Refusal as BookRefusal}
use Rattle.book.specs.Following.{Saw}
use Rattle.book_script.specs.declared.command.Command.{Command}
use Rattle.book_script.specs.declared.fault.Fault.{Fault}
use Rattle.book_script.specs.declared.fault.Fault.TheVariants.{Station}
use Rattle.book_script.specs.declared.fault.StationRefusal.TheVariants.{Book}
use Rattle.book_script.specs.declared.reply.Reply.{Reply}
use Rattle.book_script.specs.declared.reply.Reply.TheVariants.{Silent, Figure, Tally, Signature, Cuts}
use Rattle.book_script.specs.declared.run.Run.{Run}
use Rattle.book_script.specs.Language.{Progress, Answer, silent, figure, tally, signature, cuts, ground, step, sets_after, numbers_after}
use Rattle.script.specs.Rooms.{room_of}
use Rattle.script.specs.Stages.{is_open}

-- the run has come as far as p and drawn the same; once it is open, its book was opened on the drawing and has seen the past
pub record Stands (run : Run) (p : Progress) : Type 0 where
  pub stage : run.stage ≡ p.stage
  pub drawn : drawing run.drawn.list ≡ p.drawn
  pub saw : is_open p.stage ≡ true → Saw (ground p) p.past run.book

-- the answer that a reply and the places tell together
abbrev pub said : Result Reply Fault → List ℕ → List ℕ → Result Answer Fault
said (Ok Silent) sets numbers = Ok silent
said (Ok (Figure units)) sets numbers = Ok (figure units)
said (Ok (Tally count)) sets numbers = Ok (tally (take count numbers))
said (Ok (Signature count)) sets numbers = Ok (signature (take count numbers))
said (Ok (Cuts count)) sets numbers = Ok (cuts (take count sets))
said (Err fault) sets numbers = Err fault

-- what a reply counts is there
abbrev pub Inside : Result Reply Fault → ℕ → ℕ → Type 0
Inside (Ok Silent) sets numbers = Unit {0}
Inside (Ok (Figure units)) sets numbers = Unit {0}
Inside (Ok (Tally count)) sets numbers = count ≤ numbers
Inside (Ok (Signature count)) sets numbers = count ≤ numbers
Inside (Ok (Cuts count)) sets numbers = count ≤ sets
Inside (Err fault) sets numbers = Unit {0}

-- the reply to a call on the book that only does something, or does not
abbrev pub silent_or : Result (Unit {0}) BookRefusal → Result Reply Fault
silent_or (Ok done) = Ok Silent
silent_or (Err why) = Err (Station (Book why))

-- a command carried out on a run that stood at p, with places lent: what it answers, what then stands, and what the places then hold
pub record Executed (command : Command) (p : Progress) (lent-sets lent-numbers : List ℕ) (after : Run) (r : Result Reply Fault) (left-sets left-numbers : List ℕ) : Type 0 where
  pub answer : said r left-sets left-numbers ≡ (step (room_of lent-sets lent-numbers) command p).0
  pub stands : Stands after (step (room_of lent-sets lent-numbers) command p).1
  pub sets : left-sets ≡ sets_after command p lent-sets
  pub numbers : left-numbers ≡ numbers_after command p lent-numbers
