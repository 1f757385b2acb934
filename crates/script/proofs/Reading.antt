-- Reading a script command by command. Assumes nothing.
use Rattle.std.proofs.Common.{◌≡◌, ℕ, zero, suc, ◌+◌, ◌-◌, ◌<◌, Bool, true, false, cond, List, [], ◌∷◌, length, drop, take, Some, None, Ok, Err, Option, Result, sym, refl, ap, ◌∙◌, ap₂, add-zero, arith}
use Rattle.std.specs.Prelude.{nat_lt}
use Rattle.std.proofs.lemmas.Bool.{ltb-false}
use Rattle.std.proofs.lemmas.List.{drop-drop}
use Rattle.script.specs.declared.fault.Malformed.{Malformed}
use Rattle.script.specs.declared.fault.Malformed.TheVariants.{Short}
use Rattle.script.specs.Reading.{Form, Onward, form_of, front_of, read, command_of, size_of}
use Rattle.script.specs.Scripts.{Read, continued, read_from}

abbrev pub Front : Type 0 → Type 0
Front C = Result (Option (C × ℕ)) Malformed

abbrev pub Found : Type 0 → Type 0
Found C = Result (Option C) Malformed

abbrev pub one_then : {C : Type 0} → ℕ → C → Read C → Read C
one_then place command rest = record { commands = record { place = place; command = command } ∷ rest.commands; fault = rest.fault }

module _ {C : Type 0} (forms : List (Form C)) where
  -- a command takes a byte at least, and lies within the bytes
  within : (form : Form C) (after : List ℕ) (short : Bool) → nat_lt (length after) form.operands ≡ short → let front : Front C = cond short (Err Short) (Ok (Some (form.means (take form.operands after), 1 + form.operands))) in Onward (command_of front) 0 (size_of front) (suc (length after))
  within form after true e = tt
  within form after false e = let fits = ltb-false (length after) form.operands e in (omega arith, omega arith)

  read_onward : (form : Option (Form C)) (after : List ℕ) → Onward (command_of (read form after)) 0 (size_of (read form after)) (suc (length after))
  read_onward None after = tt
  read_onward (Some form) after = within form after _ refl

  pub front_onward : (bytes : List ℕ) → Onward (command_of (front_of forms bytes)) 0 (size_of (front_of forms bytes)) (length bytes)
  front_onward [] = tt
  front_onward (first ∷ after) = read_onward (form_of first forms) after

  -- passing over operands is reading from past them
  passed : (pass place : ℕ) (bytes : List ℕ) → read_from forms pass place bytes ≡ read_from forms 0 (place + pass) (drop pass bytes)
  passed zero place bytes = ap (λ k. read_from forms 0 k bytes) (sym (add-zero place))
  passed (suc pass) place [] = refl
  passed (suc pass) place (b ∷ bytes) = passed pass (place + 1) bytes ∙ ap (λ k. read_from forms 0 k (drop pass bytes)) (omega arith)

  -- reading from a place is by what stands there; a command takes a byte at least
  pub from_place : (place : ℕ) (bytes : List ℕ) → read_from forms 0 place bytes ≡ continued place (front_of forms bytes) (λ size. read_from forms (size - 1) (place + 1) (drop 1 bytes))
  from_place place [] = refl
  from_place place (b ∷ bytes) = refl

  -- where the reader found a command
  read_one : (place : ℕ) (front : Front C) (following : ℕ → Read C) (command : C) → ◌≡◌ {A = Found C} (Ok (Some command)) (command_of front) → continued place front following ≡ record { commands = record { place = place; command = command } ∷ (following (size_of front)).commands; fault = (following (size_of front)).fault }
  read_one place (Ok None) following command e = absurd (let z : ◌≡◌ {A = ℕ} 0 1 = cc in omega arith)
  read_one place (Ok (Some f)) following command e =
      let same : f.0 ≡ command = cc in
      ap (λ c. record { commands = record { place = place; command = c } ∷ (following f.1).commands; fault = (following f.1).fault }) same
  read_one place (Err why) following command e = absurd (let z : ◌≡◌ {A = ℕ} 0 1 = cc in omega arith)

  -- one command, and then what stands past its bytes
  pub read_command : (place : ℕ) (bytes : List ℕ) (command : C) → ◌≡◌ {A = Found C} (Ok (Some command)) (command_of (front_of forms bytes)) → 0 < size_of (front_of forms bytes) → read_from forms 0 place bytes ≡ one_then place command (read_from forms 0 (place + size_of (front_of forms bytes)) (drop (size_of (front_of forms bytes)) bytes))
  read_command place bytes command e some =
      let size = size_of (front_of forms bytes) in
      let later : read_from forms (size - 1) (place + 1) (drop 1 bytes) ≡ read_from forms 0 (place + size) (drop size bytes) =
      passed (size - 1) (place + 1) (drop 1 bytes)
      ∙ ap₂ (λ k l. read_from forms 0 k l) (omega arith) (drop-drop (size - 1) 1 bytes ∙ ap (λ k. drop k bytes) (omega arith)) in
      from_place place bytes ∙ read_one place (front_of forms bytes) _ command e ∙ ap (one_then place command) later

  -- nothing more, where no byte is left
  pub read_none : (place : ℕ) (bytes : List ℕ) → ◌≡◌ {A = Found C} (Ok None) (command_of (front_of forms bytes)) → read_from forms 0 place bytes ≡ record { commands = []; fault = None }
  read_none place bytes e = from_place place bytes ∙ ended (front_of forms bytes) e
    where
      ended : (front : Front C) → ◌≡◌ {A = Found C} (Ok None) (command_of front) → continued place front (λ size. read_from forms (size - 1) (place + 1) (drop 1 bytes)) ≡ record { commands = []; fault = None }
      ended (Ok None) h = refl
      ended (Ok (Some f)) h = absurd (let z : ◌≡◌ {A = ℕ} 0 1 = cc in omega arith)
      ended (Err why) h = absurd (let z : ◌≡◌ {A = ℕ} 0 1 = cc in omega arith)
