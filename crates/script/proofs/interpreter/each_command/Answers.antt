use Rattle.std.proofs.Common.{◌≡◌, ◌+◌, ◌<◌, drop, Some, Ok, sym, ◌∙◌, subst, ap₂, arith, rules}
use Rattle.std.proofs.lemmas.List.{drop-drop}
use Rattle.script.specs.Printing.{Prints}
use Rattle.script.specs.Reading.{command_of, front_of, size_of}
use Rattle.script.specs.Readers.{whole, unread}
use Rattle.script.specs.Rooms.{Room, room_of}
use Rattle.script.specs.Scripts.{read_from}
use Rattle.script.proofs.Going.{reached_more}
use Rattle.script.proofs.Reading.{Found, one_then, read_command}
use Rattle.script.proofs.interpreter.each_command.Goals as goal

pub loop-command-preserved : goal.loop-command-preserved
loop-command-preserved g c p stood =
    let was = c.loop-command.invariant p stood in
    let forms = g.S.Command.Parse.forms in
    let at = c.loop-command.reader.place in
    let bytes = unread c.loop-command.reader in
    let size = size_of (front_of forms bytes) in
    let command = c.in-Ok-Some.command in
    let moved : at < c.next.new.self.place = search rules in
    let found : ◌≡◌ {A = Found g.row.S-Command.Denot} (Ok (Some command)) (command_of (front_of forms bytes)) = search rules in
    let some : 0 < size = omega (arith, c.next.ensures.place) in
    let left : read_from forms 0 (at + size) (drop size bytes) ≡ read_from forms 0 c.next.new.self.place (unread c.next.new.self) =
    ap₂ (λ k l. read_from forms 0 k l) (sym c.next.ensures.place)
    (drop-drop size at (whole c.loop-command.reader) ∙ ap₂ (λ k l. drop k l) (sym c.next.ensures.place) (sym c.next.ensures.kept)) in
    let room : ◌≡◌ {A = Room} (room_of c.loop-command.sets c.loop-command.numbers) (room_of c.args.sets.now c.args.numbers.now) =
    ap₂ (λ k l. record { sets = k; numbers = l }) c.loop-command.auto.sets c.loop-command.auto.numbers in
    let one = read_command forms at bytes command found some ∙ ap₂ (λ k r. one_then k command r) (sym c.place-place.ensures) left in
    reached_more was c.place-place.result command _ _ _ _ one
    (subst (λ k. g.S.Session.stands c.answer.new.self (g.S.Session.effects.makes k command was.here)) room (c.answer.ensures.stands was.here was.stands))
    (subst (λ k. Prints g.O.Output.printed c.loop-command.out (g.S.Session.effects.prints k (record { place = c.place-place.result; command = command }) was.here) c.answer.new.out) room (c.in_ok-answer-in-Ok-Some.ensures.printed was.here was.stands))
    (c.answer.ensures.sets was.here was.stands)
    (c.answer.ensures.numbers was.here was.stands)
