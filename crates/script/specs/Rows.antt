-- A row of values as text. Assumes nothing.
use Rattle.std.specs.Prelude.{ℕ, List, [], ◌∷◌, Some, codes, Option}
use Rattle.std.specs.Fmt.{option_append}

-- each value after a space, where all of them say what they show
abbrev pub row : {X : Type 0} → (X → Option (List ℕ)) → List X → Option (List ℕ)
row shown [] = Some []
row shown (x ∷ xs) = option_append (Some (codes " ")) (option_append (shown x) (row shown xs))
