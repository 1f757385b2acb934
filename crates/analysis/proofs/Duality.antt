-- Path lists and cut lists of minimal sets work as the structure that they were made from. Assumes nothing.
use Rattle.std.proofs.Common.{◌≡◌, ℕ, zero, suc, ◌+◌, ◌^◌, ◌<◌, ◌≤◌, Bool, true, false, cond, not, ◌&&◌, ◌||◌, ◌∷◌, sym, refl, ap, ◌∙◌, ap₂, ⊎_elim, arith}
use lib.Bits.{bit_and}
use Rattle.std.proofs.lemmas.Bool.{cases_lt, cases_eq, eq-eqb, ne_eqb}
use Rattle.std.specs.List.{list_any, list_all, filter}
use Rattle.structure.specs.Kinds.{covers, meets, path_list, cut_list}
use Rattle.structure.specs.Meanings.{Meaning, Monotone, Same}
use Rattle.structure.specs.States.{Within, digit, reversed}
use Rattle.structure.specs.Digits.{within_and, and_within, digit_and, digit_none, digit_bit, digit_above, digit_reversed, same_digits, reversed_below, reversed_twice}
use Rattle.structure.specs.LayersLemmas.{dual_monotone}
use Rattle.analysis.specs.declared.role.Role.TheVariants.{Path, Cut}
use Rattle.analysis.specs.Minimal.{does, minimal, minimal_sets, rising}
use Rattle.analysis.proofs.Least.{told_by_least}

pub paths_work : (m : Meaning) → Monotone m → Same (path_list (record { order = m.order; sets = minimal_sets Path m })) m
paths_work m mono = record { order = refl; works = told_by_least m.order m.works (λ x y h w e. mono x y ((h, w), e)) }

-- a set has a working part exactly where its parts are not all among those that fail
module _ (n s : ℕ) (small : s < 2 ^ n) where
  apart : (c : ℕ) → c < 2 ^ n → bit_and s c ≡ 0 → Within c (reversed n s)
  apart c fits none i =
      ⊎_elim
      (λ (lt : i < n). omega (arith, digit_reversed n i s small lt, digit_and s c i, ap (λ x. digit x i) none, digit_none i, digit_bit c i))
      (λ (ge : n ≤ i). omega (arith, digit_above c n i fits ge))
      (cases_lt i n)

  together : (c : ℕ) → c < 2 ^ n → Within c (reversed n s) → bit_and s c ≡ 0
  together c fits w =
      same_digits (bit_and s c) 0
      (λ i. ⊎_elim
      (λ (lt : i < n). omega (arith, digit_reversed n i s small lt, digit_and s c i, digit_none i, w i))
      (λ (ge : n ≤ i). omega (arith, digit_above c n i fits ge, digit_and s c i, digit_none i))
      (cases_lt i n))

  meets_covers : (c : ℕ) → c < 2 ^ n → meets s c ≡ not (covers (reversed n s) c)
  meets_covers c fits =
      ⊎_elim
      (λ (none : bit_and s c ≡ 0). ap not (eq-eqb (bit_and s c) 0 none ∙ sym (eq-eqb (bit_and (reversed n s) c) c (and_within (reversed n s) c (apart c fits none)))))
      (λ some. ap not (ne_eqb (bit_and s c) 0 some ∙ sym (ne_eqb (bit_and (reversed n s) c) c (λ e. some (together c fits (within_and (reversed n s) c e))))))
      (cases_eq (bit_and s c) 0)

  all_meets : (q : ℕ → Bool) (first count : ℕ) → first + count ≤ 2 ^ n → list_all (meets s) (filter q (rising first count)) ≡ not (list_any (covers (reversed n s)) (filter q (rising first count)))
  all_meets q first zero fits = refl
  all_meets q first (suc count) fits =
      let rest = filter q (rising (suc first) count) in
      let later = all_meets q (suc first) count (omega arith) in
      elim (q first) as (λ b. list_all (meets s) (cond b (first ∷ rest) rest) ≡ not (list_any (covers (reversed n s)) (cond b (first ∷ rest) rest))) [
        | true ↦ ap₂ (λ x y. x && y) (meets_covers first (omega arith)) later ∙ both_not (covers (reversed n s) first) (list_any (covers (reversed n s)) rest)
        | false ↦ later
      ]
    where
      both_not : (a b : Bool) → (not a && not b) ≡ not (a || b)
      both_not true b = refl
      both_not false b = refl

not_not : (b : Bool) → not (not b) ≡ b
not_not true = refl
not_not false = refl

pub cuts_work : (m : Meaning) → Monotone m → Same (cut_list (record { order = m.order; sets = minimal_sets Cut m })) m
cuts_work m mono = record {
  order = refl;
  works = λ s small.
      all_meets m.order s small (minimal Cut m) 0 (2 ^ m.order) (omega arith)
      ∙ ap not (told_by_least m.order (does Cut m) (λ x y h w e. dual_monotone m mono x y ((h, w), e)) (reversed m.order s) (reversed_below m.order s))
      ∙ not_not (m.works (reversed m.order (reversed m.order s)))
      ∙ ap m.works (reversed_twice m.order s small);
}
