-- A script that was read from a source and run. Assumes nothing.
use Rattle.std.specs.Prelude.{ℕ, ◌<◌, ◌≤◌, List, length, Option}
use Rattle.std.specs.Io.KnownBytes.{Consumes, IsAtEnd}
use Rattle.script.specs.Reading.{Form}
use Rattle.script.specs.Rooms.{Room}
use Rattle.script.specs.Scripts.{Effects, leaves, script_of}

-- the places that such a run has for itself: for as many sets as any list may have, and as many numbers as the signature of 16 parts
abbrev pub console_room : Room
console_room = record { sets = 12870; numbers = 18 }

-- some bytes were read, to the source's end unless it has more than a script may, and the run stands where their commands lead
pub record RunFrom {C P R : Type 0} (effects : Effects C P) (stand : R → P → Type 0) (forms : List (Form C)) (begin : P) (source source' : Option (List ℕ)) (run : R) : Type 0 where
  pub bytes : List ℕ
  pub read : Consumes source source' bytes
  pub most : length bytes ≤ 4097
  pub end : length bytes < 4097 → IsAtEnd source'
  pub stands : stand run (leaves effects console_room (script_of forms bytes).commands begin)
