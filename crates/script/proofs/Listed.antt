-- Numbers in lent places as the answer of a command. Assumes nothing.
use Rattle.std.proofs.Common.{◌≡◌, ℕ, ◌≤◌, Bool, true, false, cond, leb, List, [], ◌∷◌, map, length, take, Ok, Err, Result, refl, ap, ◌∙◌, arith}
use Rattle.std.proofs.lemmas.List.{length-map}
use Rattle.std.proofs.lemmas.Bool.{cond-true, leb-true, le-leb}
use Rattle.analysis.specs.declared.refusal.Refusal.{Refusal}
use Rattle.analysis.specs.declared.refusal.Refusal.TheVariants.{TooFewPlaces}
use Rattle.analysis.specs.Places.{laid, laid_whole, done_or_too_few}
use Rattle.analysis.specs.Minimal.{rising}
use Rattle.analysis.proofs.Places.{length_laid}
use Rattle.analysis.proofs.Rising.{length_rising}
use Rattle.script.specs.Rooms.{room_or}

take_laid : (xs places : List ℕ) → length xs ≤ length places → take (length xs) (laid xs places) ≡ xs
take_laid [] places h = refl
take_laid (x ∷ xs) [] h = absurd (omega arith)
take_laid (x ∷ xs) (p ∷ places) h = ap (λ l. x ∷ l) (take_laid xs places (omega arith))

abbrev Filling : Type 0
Filling = Result ℕ Refusal

module _ {F : Type 0} (refused : Refusal → F) where
  room_told : (fits : Bool) (xs places after : List ℕ) (count : ℕ) → leb (length xs) (length places) ≡ fits → (length xs ≤ length places → after ≡ laid xs places) → ◌≡◌ {A = Filling} (Ok count) (cond fits (Ok (length xs)) (Err (TooFewPlaces (length xs)))) → (◌≡◌ {A = Result (List ℕ) F} (Ok (take count after)) (cond fits (Ok xs) (Err (refused (TooFewPlaces (length xs)))))) × (count ≤ length after)
  room_told true xs places after count fits holds e =
      let le = leb-true (length xs) (length places) fits in
      let all : count ≡ length xs = cc in
      (ap Ok (ap (λ k. take k after) all ∙ ap (take (length xs)) (holds le) ∙ take_laid xs places le), omega (arith, le, all, ap length (holds le), length_laid xs places))
  room_told false xs places after count short holds e = absurd (let z : ◌≡◌ {A = ℕ} 0 1 = cc in omega arith)

  none_told : (fits : Bool) (needed : ℕ) (xs : List ℕ) (why : Refusal) → ◌≡◌ {A = Filling} (Err why) (cond fits (Ok needed) (Err (TooFewPlaces needed))) → ◌≡◌ {A = Result (List ℕ) F} (Err (refused why)) (cond fits (Ok xs) (Err (refused (TooFewPlaces needed))))
  none_told true needed xs why e = absurd (let z : ◌≡◌ {A = ℕ} 0 1 = cc in omega arith)
  none_told false needed xs why e = let same : why ≡ TooFewPlaces needed = cc in ap (λ w. Err (refused w)) same

  -- a list that found room is answered by what the places then hold
  pub found_room : (xs places after : List ℕ) (count : ℕ) → (length xs ≤ length places → after ≡ laid xs places) → ◌≡◌ {A = Filling} (Ok count) (done_or_too_few (length xs) places) → (◌≡◌ {A = Result (List ℕ) F} (Ok (take count after)) (room_or refused (length places) xs)) × (count ≤ length after)
  found_room xs places after count = room_told (leb (length xs) (length places)) xs places after count refl

  -- one that found none is answered by the refusal
  pub found_none : (xs places : List ℕ) (why : Refusal) → ◌≡◌ {A = Filling} (Err why) (done_or_too_few (length xs) places) → ◌≡◌ {A = Result (List ℕ) F} (Err (refused why)) (room_or refused (length places) xs)
  found_none xs places = none_told (leb (length xs) (length places)) (length xs) xs

pub laid_whole_lem : (xs places : List ℕ) → length xs ≤ length places → laid_whole xs places ≡ laid xs places
laid_whole_lem xs places h = cond-true (leb (length xs) (length places)) _ _ (le-leb (length xs) (length places) h)

pub rows_long : (f : ℕ → ℕ) (n : ℕ) → length (map f (rising 0 n)) ≡ n
rows_long f n = length-map (rising 0 n) f ∙ length_rising 0 n
