-- The text of a row of numbers. Assumes nothing.
use Rattle.std.specs.Fmt.{option_append}
use Rattle.std.proofs.Common.{◌≡◌, ℕ, List, [], ◌∷◌, Some, codes, decimal, refl, ap}
use Rattle.script.specs.declared.line.RowKind.{RowKind}
use Rattle.script.specs.Lines.{letter_of, row_text, spaced}
use Rattle.script.specs.Rows.{row}

spaced_numbers : (ns : List ℕ) → row (λ n. Some (decimal n)) ns ≡ Some (spaced ns)
spaced_numbers [] = refl
spaced_numbers (n ∷ ns) = ap (λ o. option_append (Some (codes " ")) (option_append (Some (decimal n)) o)) (spaced_numbers ns)

-- a row line of numbers shows its letter, and each number after a space
pub row_numbers : (kind : RowKind) (ns : List ℕ) → option_append (Some (letter_of kind)) (row (λ n. Some (decimal n)) ns) ≡ Some (row_text kind ns)
row_numbers kind ns = ap (option_append (Some (letter_of kind))) (spaced_numbers ns)
