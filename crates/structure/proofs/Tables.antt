-- How the words of a table come to hold every yes and no of a structure. Assumes nothing.
use Rattle.std.proofs.Common.{◌≡◌, ℕ, ◌+◌, ◌/◌, ◌%◌, ◌^◌, ◌<◌, ◌≤◌, true, false, ◌&&◌, eqb, ltb, ◌≢◌, List, length, get_or, set, replicate, sym, ap, ◌∙◌, ⊎_elim, arith}
use lib.Bits.{bit_or}
use Rattle.std.proofs.lemmas.List.{get_or-set_same, get_or-set_other, get_or-replicate, get_or_past, length-set, length-replicate}
use Rattle.std.proofs.lemmas.Bool.{eq-eqb, ne_eqb, cases_eq, cases_lt, lt-ltb, le-ltb}
use Rattle.structure.specs.Meanings.{Meaning}
use Rattle.structure.specs.States.{digit}
use Rattle.structure.specs.Tables.{entry}
use Rattle.structure.specs.Digits.{digit_or, digit_part_same, digit_part_other, digit_none, digit_bit}

-- the words with the state s marked yes
abbrev pub marked : List ℕ → ℕ → List ℕ
marked words s = set words (s / 64) (bit_or (get_or words (s / 64) 0) (2 ^ (s % 64)))

pub entry_none : (s : ℕ) → entry (replicate 1024 0) s ≡ false
unfolding entry
entry_none s =
    let empty : get_or (replicate 1024 0) (s / 64) 0 ≡ 0 = ⊎_elim
    (λ (lt : s / 64 < 1024). get_or-replicate 1024 (s / 64) 0 0 lt)
    (λ (ge : 1024 ≤ s / 64). get_or_past (replicate 1024 0) (s / 64) 0 (omega (arith, length-replicate {A = ℕ} 1024 0)))
    (cases_lt (s / 64) 1024) in
    ap (λ w. eqb (digit w (s % 64)) 1) empty ∙ ne_eqb _ 1 (λ e. omega (arith, e, digit_none (s % 64)))

pub entry_marked : (words : List ℕ) (s : ℕ) → s / 64 < length words → entry (marked words s) s ≡ true
unfolding entry
entry_marked words s within =
    let word = get_or words (s / 64) 0 in
    let bit : digit (bit_or word (2 ^ (s % 64))) (s % 64) ≡ 1 =
    omega (arith, digit_or word (2 ^ (s % 64)) (s % 64), digit_part_same (s % 64), digit_bit word (s % 64)) in
    ap (λ w. eqb (digit w (s % 64)) 1) (get_or-set_same words (s / 64) _ 0 within) ∙ eq-eqb _ 1 bit

pub entry_others : (words : List ℕ) (s t : ℕ) → s / 64 < length words → t ≢ s → entry (marked words s) t ≡ entry words t
unfolding entry
entry_others words s t within ne =
    let word = get_or words (s / 64) 0 in
    ⊎_elim
    (λ (same : t / 64 ≡ s / 64).
    let kept : digit (bit_or word (2 ^ (s % 64))) (t % 64) ≡ digit word (t % 64) =
    omega (arith, digit_or word (2 ^ (s % 64)) (t % 64), digit_part_other (s % 64) (t % 64) (λ e. ne (omega (arith, e, same)))) in
    ap (λ k. eqb (digit (get_or (marked words s) k 0) (t % 64)) 1) same
    ∙ ap (λ w. eqb (digit w (t % 64)) 1) (get_or-set_same words (s / 64) _ 0 within)
    ∙ ap (λ b. eqb b 1) kept ∙ ap (λ k. eqb (digit (get_or words k 0) (t % 64)) 1) (sym same))
    (λ other. ap (λ w. eqb (digit w (t % 64)) 1) (get_or-set_other words (s / 64) (t / 64) _ 0 other))
    (cases_eq (t / 64) (s / 64))

-- the words say yes for just those states below s in which m works
pub record Filled (m : Meaning) (words : List ℕ) (s : ℕ) : Type 0 where
  pub long : length words ≡ 1024
  pub agrees : (t : ℕ) → entry words t ≡ (ltb t s && m.works t)

pub filled_none : (m : Meaning) → Filled m (replicate 1024 0) 0
filled_none m = record { long = length-replicate {A = ℕ} 1024 0; agrees = λ t. entry_none t ∙ sym (ap (λ b. b && m.works t) (le-ltb t 0 (omega arith))) }

module _ (m : Meaning) (words : List ℕ) (s : ℕ) (so_far : Filled m words s) where
  later : (t : ℕ) → t ≢ s → (ltb t s && m.works t) ≡ (ltb t (s + 1) && m.works t)
  later t ne =
      ap (λ b. b && m.works t)
      (⊎_elim (λ (lt : t < s). lt-ltb t s lt ∙ sym (lt-ltb t (s + 1) (omega arith))) (λ (ge : s ≤ t). le-ltb t s ge ∙ sym (le-ltb t (s + 1) (omega (arith, ne)))) (cases_lt t s))

  here : ltb s (s + 1) ≡ true
  here = lt-ltb s (s + 1) (omega arith)

  pub filled_yes : s < 65536 → m.works s ≡ true → Filled m (marked words s) (s + 1)
  filled_yes small up =
      let within : s / 64 < length words = omega (arith, so_far.long) in
      record {
        long = length-set words (s / 64) _ ∙ so_far.long;
        agrees = λ t. ⊎_elim
            (λ (e : t ≡ s). ap (entry (marked words s)) e ∙ entry_marked words s within ∙ sym (ap (λ k. ltb k (s + 1) && m.works k) e ∙ ap (λ b. b && m.works s) here ∙ up))
            (λ ne. entry_others words s t within ne ∙ so_far.agrees t ∙ later t ne)
            (cases_eq t s);
      }

  pub filled_no : m.works s ≡ false → Filled m words (s + 1)
  filled_no down = record {
    long = so_far.long;
    agrees = λ t. ⊎_elim
        (λ (e : t ≡ s). so_far.agrees t ∙ ap (λ b. b && m.works t) (le-ltb t s (omega (arith, e))) ∙ sym (ap (λ k. ltb k (s + 1) && m.works k) e ∙ ap (λ b. b && m.works s) here ∙ down))
        (λ ne. so_far.agrees t ∙ later t ne)
        (cases_eq t s);
  }
