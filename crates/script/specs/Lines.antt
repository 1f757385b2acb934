-- The text of each line that is printed. Assumes nothing.
use Rattle.std.specs.Prelude.{ℕ, List, [], ◌∷◌, ◌++◌, codes, decimal}
use Rattle.script.specs.declared.line.RowKind.{RowKind}
use Rattle.script.specs.declared.line.RowKind.TheVariants.{Tally, Signature, Cuts}

-- each number after a space
abbrev pub spaced : List ℕ → List ℕ
spaced [] = []
spaced (n ∷ ns) = codes " " ++ decimal n ++ spaced ns

-- path numbers, a signature, and cuts begin with their letter
abbrev pub letter_of : RowKind → List ℕ
letter_of Tally = codes "T"
letter_of Signature = codes "S"
letter_of Cuts = codes "M"

-- then each number, of cuts each set
abbrev pub row_text : RowKind → List ℕ → List ℕ
row_text kind values = letter_of kind ++ spaced values

-- a fault: its mark, the place of the command's first byte, its number
abbrev pub fault_text : ℕ → ℕ → List ℕ
fault_text place number = codes "!" ++ spaced (place ∷ number ∷ [])
