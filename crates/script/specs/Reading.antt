-- What stands at the front of the bytes of a script. Assumes nothing.
use Rattle.std.specs.Prelude.{ℕ, ◌+◌, ◌<◌, ◌≤◌, cond, List, [], ◌∷◌, length, take, Some, None, Ok, Err, Option, Result, ◌==◌, nat_lt}
use Rattle.script.specs.declared.fault.Malformed.{Malformed}
use Rattle.script.specs.declared.fault.Malformed.TheVariants.{Unknown, Short}

-- a command's letter, how many operand bytes follow it, and what it means with those
pub record Form (C : Type 0) : Type 0 where
  pub letter : ℕ
  pub operands : ℕ
  pub means : List ℕ → C

abbrev pub form_of : {C : Type 0} → ℕ → List (Form C) → Option (Form C)
form_of first [] = None
form_of first (form ∷ others) = cond (first == form.letter) (Some form) (form_of first others)

-- what a command of this form is with these bytes after its letter, and how many bytes it takes
abbrev pub read : {C : Type 0} → Option (Form C) → List ℕ → Result (Option (C × ℕ)) Malformed
read None after = Err Unknown
read (Some form) after =
    cond (nat_lt (length after) form.operands) (Err Short) (Ok (Some (form.means (take form.operands after), 1 + form.operands)))

-- the command at the front, by the forms of a language, and how many bytes it takes, none where the bytes end, or why there is none
abbrev pub front_of : {C : Type 0} → List (Form C) → List ℕ → Result (Option (C × ℕ)) Malformed
front_of forms [] = Ok None
front_of forms (first ∷ after) = read (form_of first forms) after

-- the command alone
abbrev pub command_of : {C : Type 0} → Result (Option (C × ℕ)) Malformed → Result (Option C) Malformed
command_of (Ok None) = Ok None
command_of (Ok (Some front)) = Ok (Some front.0)
command_of (Err fault) = Err fault

-- how many bytes were read: none where no command stands
abbrev pub size_of : {C : Type 0} → Result (Option (C × ℕ)) Malformed → ℕ
size_of (Ok None) = 0
size_of (Ok (Some front)) = front.1
size_of (Err fault) = 0

-- after a command the place has moved on, and not past the end
abbrev pub Onward : {C : Type 0} → Result (Option C) Malformed → ℕ → ℕ → ℕ → Type 0
Onward (Ok None) before after end = Unit {0}
Onward (Ok (Some command)) before after end = (before < after) × (after ≤ end)
Onward (Err fault) before after end = Unit {0}
