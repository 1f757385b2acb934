-- Why every layer over monotone structures is monotone, and what two duals come to. Assumes nothing.
use Rattle.std.specs.Prelude.{◌≡◌, ℕ, ◌-◌, ◌%◌, ◌^◌, ◌<◌, ◌≤◌, Bool, true, false, not, refl}
use Rattle.std.proofs.Common.{sym, ap, ◌∙◌, ⊎_elim, mod-lt, mod-eq_of_lt, arith, pow_pos}
use Rattle.std.proofs.Math.Pow.{mod-mod-pow}
use Rattle.std.proofs.lemmas.Bool.{and_parts, and_from, or_cases, or_left, or_right, not-true, not_from_false, both_ways, cases_Bool}
use Rattle.structure.specs.declared.pair.Rule.{Rule}
use Rattle.structure.specs.declared.pair.Rule.TheVariants.{Both, Either}
use Rattle.structure.specs.Layers.{dual, hold, pair, joined}
use Rattle.structure.specs.Meanings.{Meaning, Monotone, Same}
use Rattle.structure.specs.States.{reversed, cleared}
use Rattle.structure.specs.Digits.{reversed_below, reversed_twice, reversed_within, cleared_below, cleared_within, mod_within}

pub dual_monotone : (m : Meaning) → Monotone m → Monotone (dual m)
dual_monotone m mono x y h =
    let n = m.order in
    ⊎_elim
    (λ (up : m.works (reversed n y) ≡ true).
    let below = mono (reversed n y) (reversed n x) ((reversed_below n x, reversed_within n x y h.0.0 h.0.1), up) in
    absurd (both_ways (m.works (reversed n x)) (not-true (m.works (reversed n x)) h.1) below))
    (λ (down : m.works (reversed n y) ≡ false). not_from_false (m.works (reversed n y)) down)
    (cases_Bool (m.works (reversed n y)))

not_not : (b : Bool) → b ≡ not (not b)
not_not true = refl
not_not false = refl

pub dual_dual : (m : Meaning) → Same m (dual (dual m))
dual_dual m = record {
  order = refl;
  works = λ s h. not_not (m.works s) ∙ ap (λ t. not (not (m.works t))) (sym (reversed_twice m.order s h));
}

pub hold_monotone : (set : ℕ) (m : Meaning) → Monotone m → Monotone (hold set m)
hold_monotone set m mono x y h =
    mono (cleared set x) (cleared set y) ((cleared_below set y m.order h.0.0, cleared_within set x y h.0.1), h.1)

joined_more : (rule : Rule) (a b c d : Bool) → (a ≡ true → c ≡ true) → (b ≡ true → d ≡ true) → joined rule a b ≡ true → joined rule c d ≡ true
joined_more Both a b c d f g h = let parts = and_parts a b h in and_from c d (f parts.0) (g parts.1)
joined_more Either a b c d f g h = ⊎_elim (λ e. or_left c d (f e)) (λ e. or_right c d (g e)) (or_cases a b h)

pub pair_monotone : (rule : Rule) (a b : Meaning) → Monotone a → Monotone b → Monotone (pair rule a b)
pair_monotone rule a b mono-a mono-b x y h =
    joined_more rule (a.works (x % 2 ^ a.order)) (b.works (x % 2 ^ b.order)) (a.works (y % 2 ^ a.order)) (b.works (y % 2 ^ b.order))
    (λ e. mono-a _ _ ((mod-lt y (pow_pos a.order), mod_within a.order x y h.0.1), e))
    (λ e. mono-b _ _ ((mod-lt y (pow_pos b.order), mod_within b.order x y h.0.1), e))
    h.1

-- a state of n parts, asked of a structure of n parts, is asked as it is
pub asked_whole : (m : Meaning) (s : ℕ) → s < 2 ^ m.order → m.works (s % 2 ^ m.order) ≡ m.works s
asked_whole m s h = ap m.works (mod-eq_of_lt h)

-- a pair asked with the digits of its larger order asks each with the digits that one has
pub mod_of_larger : (s i n : ℕ) → i ≤ n → s % 2 ^ n % 2 ^ i ≡ s % 2 ^ i
mod_of_larger s i n h = ap (λ k. s % 2 ^ k % 2 ^ i) (omega arith) ∙ mod-mod-pow s (n - i) i
