use Rattle.std.proofs.Common.{◌-◌, length}
use Rattle.script.specs.Readers.{whole, unread}
use Rattle.script.specs.Scripts.{read_from}
use Rattle.script.proofs.Going.{Reached}
use Rattle.script.proofs.interpreter.each_command.Given as goal

abbrev pub invariant-loop-command : goal.invariant-loop-command
invariant-loop-command g l =
    (p : g.S.Session.Progress) → g.S.Session.stands l.initial.run p → Reached g.S.Session.effects g.S.Session.stands g.O.Output.printed (record { sets = l.initial.sets; numbers = l.initial.numbers }) (read_from g.S.Command.Parse.forms 0 l.initial.reader.place (unread l.initial.reader)) p l.initial.out
    (read_from g.S.Command.Parse.forms 0 l.reader.place (unread l.reader)) l.run l.out (record { sets = l.sets; numbers = l.numbers })

abbrev pub decreases-loop-command : goal.decreases-loop-command
decreases-loop-command g l = length (whole l.reader) - l.reader.place
