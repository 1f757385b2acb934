-- How a walk along a list finds whether some element, or each, passes a test. Assumes nothing.
use Rattle.std.specs.Prelude.{slice_index}
use Rattle.std.specs.List.{list_any, list_all}
use Rattle.std.proofs.Common.{◌≡◌, ℕ, ◌+◌, ◌<◌, Bool, true, false, ◌&&◌, ◌||◌, List, ◌∷◌, length, drop, sym, ap, ◌∙◌}
use Rattle.std.proofs.lemmas.List.{drop_more}
use Rattle.std.proofs.lemmas.Bool.{or_left}

-- what stands from place i on is the element there and what stands after it
module _ (test : ℕ → Bool) (xs : List ℕ) (i : ℕ) (within : i < length xs) where
  rest : drop i xs ≡ slice_index xs i ∷ drop (i + 1) xs
  rest = drop_more xs i 0 within

  pub any_passes : test (slice_index xs i) ≡ false → list_any test (drop (i + 1) xs) ≡ list_any test (drop i xs)
  any_passes e = sym (ap (list_any test) rest ∙ ap (λ b. b || list_any test (drop (i + 1) xs)) e)

  pub any_finds : test (slice_index xs i) ≡ true → list_any test (drop i xs) ≡ true
  any_finds e = ap (list_any test) rest ∙ or_left (test (slice_index xs i)) _ e

  pub all_passes : test (slice_index xs i) ≡ true → list_all test (drop (i + 1) xs) ≡ list_all test (drop i xs)
  all_passes e = sym (ap (list_all test) rest ∙ ap (λ b. b && list_all test (drop (i + 1) xs)) e)

  pub all_fails : test (slice_index xs i) ≡ false → list_all test (drop i xs) ≡ false
  all_fails e = ap (list_all test) rest ∙ ap (λ b. b && list_all test (drop (i + 1) xs)) e
