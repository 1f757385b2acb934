-- What a call writes into lent places, and what it answers. Assumes nothing.
use Rattle.std.specs.Prelude.{ℕ, cond, List, [], ◌∷◌, length, Ok, Err, Result, nat_le}
use Rattle.analysis.specs.declared.refusal.Refusal.{Refusal}
use Rattle.analysis.specs.declared.refusal.Refusal.TheVariants.{TooFewPlaces}

-- the first places hold the list, as far as they reach; later ones are as they were
abbrev pub laid : List ℕ → List ℕ → List ℕ
laid [] places = places
laid (x ∷ xs) [] = []
laid (x ∷ xs) (p ∷ places) = x ∷ laid xs places

-- the whole list in the first places, or nothing written where they are too few
abbrev pub laid_whole : List ℕ → List ℕ → List ℕ
laid_whole xs places = cond (nat_le (length xs) (length places)) (laid xs places) places

-- as many as were needed, or a refusal that says how many are
abbrev pub done_or_too_few : {A : Type 0} → ℕ → List A → Result ℕ Refusal
done_or_too_few needed places = cond (nat_le needed (length places)) (Ok needed) (Err (TooFewPlaces needed))
