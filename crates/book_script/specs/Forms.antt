-- The forms of the commands on a book. Assumes nothing.
use Rattle.std.specs.Prelude.{◌≡◌, List, [], ◌∷◌, codes, map, refl, take, drop}
use Rattle.std.specs.Int.Digits.{number_from_digits}
use Rattle.script.specs.Reading.{Form}
use Rattle.book_script.specs.declared.command.Command.{Command}
use Rattle.book_script.specs.declared.command.Command.TheVariants.{Start, Add, Open, Rate, Price, Withdraw, PutBack, Figure, Tally, Signature, Cuts}

-- operands are numbers in base 256, highest byte first
abbrev pub forms : List (Form Command)
forms =
    record { letter = 78; operands = 1; means = λ bytes. Start (number_from_digits 256 bytes) }  -- N
    ∷ record { letter = 80; operands = 2; means = λ bytes. Add (number_from_digits 256 bytes) }  -- P
    ∷ record { letter = 79; operands = 0; means = λ bytes. Open }  -- O
    ∷ record { letter = 82; operands = 5; means = λ bytes. Rate (number_from_digits 256 (take 1 bytes)) (number_from_digits 256 (drop 1 bytes)) }  -- R
    ∷ record { letter = 67; operands = 3; means = λ bytes. Price (number_from_digits 256 (take 1 bytes)) (number_from_digits 256 (drop 1 bytes)) }  -- C
    ∷ record { letter = 87; operands = 1; means = λ bytes. Withdraw (number_from_digits 256 bytes) }  -- W
    ∷ record { letter = 66; operands = 1; means = λ bytes. PutBack (number_from_digits 256 bytes) }  -- B
    ∷ record { letter = 70; operands = 0; means = λ bytes. Figure }  -- F
    ∷ record { letter = 84; operands = 0; means = λ bytes. Tally }  -- T
    ∷ record { letter = 83; operands = 0; means = λ bytes. Signature }  -- S
    ∷ record { letter = 77; operands = 0; means = λ bytes. Cuts }  -- M
    ∷ []

-- their letters
pub letters : map (λ (form : Form Command). form.letter) forms ≡ codes "NPORCWBFTSM"
letters = refl
