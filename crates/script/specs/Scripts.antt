-- What a whole script prints and leaves. Assumes nothing.
use Rattle.std.specs.Prelude.{ℕ, zero, suc, ◌+◌, ◌-◌, cond, List, [], ◌∷◌, ◌++◌, length, Some, None, Ok, Err, Option, Result, nat_lt}
use Rattle.script.specs.declared.fault.Malformed.{Malformed}
use Rattle.script.specs.declared.fault.Malformed.TheVariants.{Long}
use Rattle.script.specs.Faults.{malformed_number}
use Rattle.script.specs.Lines.{fault_text}
use Rattle.script.specs.Reading.{Form, front_of}
use Rattle.script.specs.Rooms.{Room}

-- a command and the place of its first byte
pub record Placed (C : Type 0) : Type 0 where
  pub place : ℕ
  pub command : C

-- the commands of a script, and the reading fault that ends it, if one does
pub record Read (C : Type 0) : Type 0 where
  pub commands : List (Placed C)
  pub fault : Option (ℕ × Malformed)

-- by what stands at a place: nothing, a command and then what follows its bytes, or a fault
abbrev pub continued : {C : Type 0} → ℕ → Result (Option (C × ℕ)) Malformed → (ℕ → Read C) → Read C
continued place (Ok None) following = record { commands = []; fault = None }
continued place (Ok (Some front)) following =
    let rest = following front.1 in record { commands = record { place = place; command = front.0 } ∷ rest.commands; fault = rest.fault }
continued place (Err why) following = record { commands = []; fault = Some (place, why) }

-- the commands, by the forms of a language, in bytes that begin at a place, once some bytes are passed over
abbrev pub read_from : {C : Type 0} → List (Form C) → ℕ → ℕ → List ℕ → Read C
read_from forms pass place [] = record { commands = []; fault = None }
read_from forms (suc pass) place (b ∷ bytes) = read_from forms pass (place + 1) bytes
read_from forms zero place (b ∷ bytes) = continued place (front_of forms (b ∷ bytes)) (λ size. read_from forms (size - 1) (place + 1) bytes)

-- what the commands of a language do, by what stands before them: the lines that one prints, what then stands, and what the lent places then hold
pub record Effects (C P : Type 0) : Type 0 where
  pub prints : Room → Placed C → P → List (List ℕ)
  pub makes : Room → C → P → P
  pub sets : C → P → List ℕ → List ℕ
  pub numbers : C → P → List ℕ → List ℕ

-- the lines that commands print one after another, each finding what the earlier ones made
abbrev pub lines_of : {C P : Type 0} → Effects C P → Room → List (Placed C) → P → List (List ℕ)
lines_of effects room [] p = []
lines_of effects room (c ∷ cs) p = effects.prints room c p ++ lines_of effects room cs (effects.makes room c.command p)

-- what then stands
abbrev pub leaves : {C P : Type 0} → Effects C P → Room → List (Placed C) → P → P
leaves effects room [] p = p
leaves effects room (c ∷ cs) p = leaves effects room cs (effects.makes room c.command p)

-- what the places lent for sets, and for numbers, then hold: what the commands wrote there one after another
abbrev pub sets_left : {C P : Type 0} → Effects C P → Room → List (Placed C) → P → List ℕ → List ℕ
sets_left effects room [] p places = places
sets_left effects room (c ∷ cs) p places = sets_left effects room cs (effects.makes room c.command p) (effects.sets c.command p places)

abbrev pub numbers_left : {C P : Type 0} → Effects C P → Room → List (Placed C) → P → List ℕ → List ℕ
numbers_left effects room [] p places = places
numbers_left effects room (c ∷ cs) p places = numbers_left effects room cs (effects.makes room c.command p) (effects.numbers c.command p places)

abbrev pub fault_line : Option (ℕ × Malformed) → List (List ℕ)
fault_line None = []
fault_line (Some at) = fault_text at.0 (malformed_number at.1) ∷ []

-- a script that is too long is not begun
abbrev pub script_of : {C : Type 0} → List (Form C) → List ℕ → Read C
script_of forms bytes = cond (nat_lt 4096 (length bytes)) (record { commands = []; fault = Some (4096, Long) }) (read_from forms 0 0 bytes)
