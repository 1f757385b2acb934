-- What a run of the code has made so far, and what its replies say. Assumes nothing.
use Rattle.std.specs.Prelude.{ℕ, ◌≤◌, List, take, Ok, Err, Result}
use Rattle.structure.specs.Drawings.{drawing}
use Rattle.script.specs.declared.fault.Fault.{Fault}
use Rattle.script.specs.declared.reply.Reply.{Reply}
use Rattle.script.specs.declared.reply.Reply.TheVariants.{Silent, Tally, Signature, Cuts}
use Rattle.script.specs.declared.run.Run.{Run}
use Rattle.script.specs.Language.{Progress, Answer, silent, tally, signature, cuts}

abbrev pub progress : Run → Progress
progress run = record { stage = run.stage; drawn = drawing run.drawn.list }

-- the answer that a reply and the places tell together
abbrev pub said : Result Reply Fault → List ℕ → List ℕ → Result Answer Fault
said (Ok Silent) sets numbers = Ok silent
said (Ok (Tally count)) sets numbers = Ok (tally (take count numbers))
said (Ok (Signature count)) sets numbers = Ok (signature (take count numbers))
said (Ok (Cuts count)) sets numbers = Ok (cuts (take count sets))
said (Err fault) sets numbers = Err fault

-- what a reply counts is there
abbrev pub Inside : Result Reply Fault → ℕ → ℕ → Type 0
Inside (Ok Silent) sets numbers = Unit {0}
Inside (Ok (Tally count)) sets numbers = count ≤ numbers
Inside (Ok (Signature count)) sets numbers = count ≤ numbers
Inside (Ok (Cuts count)) sets numbers = count ≤ sets
Inside (Err fault) sets numbers = Unit {0}
