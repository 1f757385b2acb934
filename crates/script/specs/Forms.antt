-- The forms of the commands on a drawing. Assumes nothing.
use Rattle.std.specs.Prelude.{◌≡◌, List, [], ◌∷◌, codes, map, refl}
use Rattle.std.specs.Int.Digits.{number_from_digits}
use Rattle.script.specs.declared.command.Command.{Command}
use Rattle.script.specs.declared.command.Command.TheVariants.{Start, Add, Open, Tally, Signature, Cuts}
use Rattle.script.specs.Reading.{Form}

-- operands are numbers in base 256, highest byte first
abbrev pub forms : List (Form Command)
forms =
    record { letter = 78; operands = 1; means = λ bytes. Start (number_from_digits 256 bytes) }  -- N
    ∷ record { letter = 80; operands = 2; means = λ bytes. Add (number_from_digits 256 bytes) }  -- P
    ∷ record { letter = 79; operands = 0; means = λ bytes. Open }  -- O
    ∷ record { letter = 84; operands = 0; means = λ bytes. Tally }  -- T
    ∷ record { letter = 83; operands = 0; means = λ bytes. Signature }  -- S
    ∷ record { letter = 77; operands = 0; means = λ bytes. Cuts }  -- M
    ∷ []

-- their letters
pub letters : map (λ (form : Form Command). form.letter) forms ≡ codes "NPOTSM"
letters = refl
