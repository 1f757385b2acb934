-- The text of a figure that is printed. Assumes nothing.
use Rattle.std.specs.Prelude.{ℕ, Bool, cond, List, [], ◌∷◌, ◌++◌, codes}
use Rattle.script.specs.Lines.{spaced}

-- a figure: its letter, its units, and 1 where it was held
abbrev pub figure_text : ℕ → Bool → List ℕ
figure_text units held = codes "F" ++ spaced (units ∷ cond held 1 0 ∷ [])
