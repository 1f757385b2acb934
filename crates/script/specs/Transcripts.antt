-- A script that was run to its end. Assumes nothing.
use Rattle.std.specs.Prelude.{◌≡◌, ℕ, List, ◌++◌}
use Rattle.script.specs.Printing.{Prints}
use Rattle.script.specs.Rooms.{Room, room_of}
use Rattle.script.specs.Scripts.{Effects, Read, lines_of, leaves, sets_left, numbers_left, fault_line}

-- places lent for sets and for numbers
pub record Lent : Type 0 where
  pub sets : List ℕ
  pub numbers : List ℕ

abbrev pub room_in : Lent → Room
room_in lent = room_of lent.sets lent.numbers

-- with these places lent: just the script's lines were printed, the run stands where its commands lead, and the places hold what they wrote
pub record Interpreted {C P R O : Type 0} (effects : Effects C P) (stand : R → P → Type 0) (printed : O → List ℕ → O → Type 0) (lent : Lent) (script : Read C) (begin : P) (out : O) (run : R) (out' : O) (left : Lent) : Type 0 where
  pub lines : Prints printed out (lines_of effects (room_in lent) script.commands begin ++ fault_line script.fault) out'
  pub stands : stand run (leaves effects (room_in lent) script.commands begin)
  pub sets : left.sets ≡ sets_left effects (room_in lent) script.commands begin lent.sets
  pub numbers : left.numbers ≡ numbers_left effects (room_in lent) script.commands begin lent.numbers
