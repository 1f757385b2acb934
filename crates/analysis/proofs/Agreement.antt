-- Structures that work in the same states have the same minimal sets. Assumes nothing.
use Rattle.std.proofs.Common.{◌≡◌, ℕ, zero, suc, ◌+◌, ◌-◌, ◌^◌, ◌<◌, ◌≤◌, Bool, cond, not, ◌&&◌, ◌||◌, eqb, List, [], ◌∷◌, refl, ap, ◌∙◌, ap₂, arith}
use Rattle.std.specs.List.{list_any, filter}
use Rattle.structure.specs.Meanings.{Meaning, Same}
use Rattle.structure.specs.States.{digit, reversed}
use Rattle.structure.specs.Digits.{reversed_below}
use Rattle.analysis.specs.declared.role.Role.{Role}
use Rattle.analysis.specs.declared.role.Role.TheVariants.{Path, Cut}
use Rattle.analysis.specs.Minimal.{does, spare, minimal, minimal_sets, rising}

any_same : (f g : ℕ → Bool) → ((x : ℕ) → f x ≡ g x) → (xs : List ℕ) → list_any f xs ≡ list_any g xs
any_same f g e [] = refl
any_same f g e (x ∷ xs) = ap₂ (λ p q. p || q) (e x) (any_same f g e xs)

keep_same : (f g : ℕ → Bool) (end : ℕ) → ((x : ℕ) → x < end → f x ≡ g x) → (first count : ℕ) → first + count ≤ end → filter f (rising first count) ≡ filter g (rising first count)
keep_same f g end e first zero fits = refl
keep_same f g end e first (suc count) fits =
    ap₂ (λ b rest. cond b (first ∷ rest) rest) (e first (omega arith)) (keep_same f g end e (suc first) count (omega arith))

module _ (a b : Meaning) (same : Same a b) (role : Role) where
  does_same : (x : ℕ) → x < 2 ^ a.order → does role a x ≡ does role b x
  does_same x h =
      elim role as (λ r. does r a x ≡ does r b x) [
        | Path ↦ same.works x h
        | Cut ↦ ap not (same.works (reversed a.order x) (reversed_below a.order x) ∙ ap (λ n. b.works (reversed n x)) same.order)
      ]

  minimal_same : (x : ℕ) → x < 2 ^ a.order → minimal role a x ≡ minimal role b x
  minimal_same x h =
      ap₂ (λ p q. p && not q) (does_same x h)
      (any_same (spare role a x) (spare role b x) (λ i. ap (λ d. eqb (digit x i) 1 && d) (does_same (x - 2 ^ i) (omega arith))) (rising 0 a.order)
      ∙ ap (λ n. list_any (spare role b x) (rising 0 n)) same.order)

  pub same_minimal_sets : minimal_sets role a ≡ minimal_sets role b
  same_minimal_sets =
      keep_same (minimal role a) (minimal role b) (2 ^ a.order) minimal_same 0 (2 ^ a.order) (omega arith)
      ∙ ap (λ n. filter (minimal role b) (rising 0 (2 ^ n))) same.order
