use Rattle.script.specs.Scripts.{script_of}
use Rattle.script.specs.Sources.{console_room}
use Rattle.book_script.specs.Forms.{forms}
use Rattle.book_script.proofs.Histories.{of_history}
use Rattle.book_script.proofs.console.run_from.Goals as goal

pub returns-clause-history : goal.returns-clause-history
returns-clause-history g c bytes = of_history console_room (script_of forms bytes).commands
