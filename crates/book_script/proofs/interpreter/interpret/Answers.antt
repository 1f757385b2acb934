use Rattle.script.specs.Rooms.{room_of}
use Rattle.script.specs.Scripts.{script_of}
use Rattle.book_script.specs.Forms.{forms}
use Rattle.book_script.proofs.Histories.{of_history}
use Rattle.book_script.proofs.interpreter.interpret.Goals as goal

pub returns-clause-history : goal.returns-clause-history
returns-clause-history g c = of_history (room_of c.args.sets.now c.args.numbers.now) (script_of forms c.args.bytes.now).commands
