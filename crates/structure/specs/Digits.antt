-- Laws of the binary digits of states and sets. Assumes nothing.
use Rattle.std.specs.Prelude.{◌≡◌, ℕ, zero, suc, ◌+◌, ◌-◌, ◌*◌, ◌/◌, ◌%◌, ◌^◌, ◌<◌, ◌≤◌, min, max, ◌≢◌, bit_and, bit_or, count_ones, refl}
use Rattle.std.proofs.Common.{sym, ap, ap₂, ◌∙◌, ⊎_elim, pow-suc, div-one, mod-lt, add-one, one-add, arith, shr-shr, pow_pos, pow_mono}
use Rattle.std.proofs.Math.Nat.{div-eq_of_lt}
use Rattle.std.proofs.Math.Arith.{bin_ind}
use Rattle.std.specs.Int.Bits.{and_step, or_step}
use Rattle.std.specs.Int.Count.{ones_step}
use Rattle.std.proofs.lemmas.Nat.{one_shl, mod-pow-add, and_shr, or_shr, and_le_l, ones-le}
use Rattle.std.proofs.lemmas.Bool.{cases_lt}
use Rattle.structure.specs.States.{digit, Within, reversed, cleared, size}

pub digit_low : (s : ℕ) → digit s 0 ≡ s % 2
unfolding digit
digit_low s = ap (λ x. x % 2) (div-one s)

-- the digits of s above the lowest are those of its half
pub digit_half : (s i : ℕ) → digit (s / 2) i ≡ digit s (suc i)
unfolding digit
digit_half s i = ap (λ x. x % 2) (shr-shr s 1 i ∙ ap (λ x. s / 2 ^ x) (one-add i))

pub digit_bit : (s i : ℕ) → digit s i ≤ 1
unfolding digit
digit_bit s i = omega arith

pub digit_none : (i : ℕ) → digit 0 i ≡ 0
digit_none zero = digit_low 0
digit_none (suc i) = sym (digit_half 0 i) ∙ digit_none i

-- two numbers with the same digits are the same
pub same_digits : (x y : ℕ) → ((i : ℕ) → digit x i ≡ digit y i) → x ≡ y
same_digits =
    bin_ind (λ x. (y : ℕ) → ((i : ℕ) → digit x i ≡ digit y i) → x ≡ y)
    (bin_ind (λ y. ((i : ℕ) → digit 0 i ≡ digit y i) → 0 ≡ y) (λ _. refl)
    (λ y ih e. let half = ih (λ i. digit_none i ∙ sym (digit_none (suc i)) ∙ e (suc i) ∙ sym (digit_half y i)) in omega (arith, half, digit_low y, digit_none 0, e 0)))
    (λ x ih y e. let half = ih (y / 2) (λ i. digit_half x i ∙ e (suc i) ∙ sym (digit_half y i)) in omega (arith, half, digit_low x, digit_low y, e 0))

-- a part of a set is no larger a number
pub within_le : (x y : ℕ) → Within x y → x ≤ y
within_le =
    bin_ind (λ x. (y : ℕ) → Within x y → x ≤ y) (λ y w. omega arith)
    (λ x ih y w. let half = ih (y / 2) (λ i. omega (arith, digit_half x i, digit_half y i, w (suc i))) in omega (arith, half, digit_low x, digit_low y, w 0))

pub within_refl : (x : ℕ) → Within x x
within_refl x i = omega arith

pub within_trans : (x y z : ℕ) → Within x y → Within y z → Within x z
within_trans x y z f g i = omega (arith, f i, g i)

pub within_both : (x y : ℕ) → Within x y → Within y x → x ≡ y
within_both x y f g = same_digits x y (λ i. omega (arith, f i, g i))

-- ---- common parts, and parts of either

pub digit_and : (a b i : ℕ) → digit (bit_and a b) i ≡ min (digit a i) (digit b i)
unfolding digit
digit_and a b i = ap (λ x. x % 2) (and_shr a b i) ∙ omega (arith, and_step (a / 2 ^ i) (b / 2 ^ i))

pub digit_or : (a b i : ℕ) → digit (bit_or a b) i ≡ max (digit a i) (digit b i)
unfolding digit
digit_or a b i = ap (λ x. x % 2) (or_shr a b i) ∙ omega (arith, or_step (a / 2 ^ i) (b / 2 ^ i))

-- ---- a number below 2 ^ n has no part from n on

pub digit_above : (s n i : ℕ) → s < 2 ^ n → n ≤ i → digit s i ≡ 0
unfolding digit
digit_above s n i small far =
    let less : s < 2 ^ i = omega (arith, pow_mono far) in ap (λ x. x % 2) (div-eq_of_lt less)

pub below_from_digits : (n s : ℕ) → ((i : ℕ) → n ≤ i → digit s i ≡ 0) → s < 2 ^ n
below_from_digits zero s e =
    let none : s ≡ 0 = same_digits s 0 (λ i. e i (omega arith) ∙ sym (digit_none i)) in omega arith
below_from_digits (suc n) s e =
    let half = below_from_digits n (s / 2) (λ i h. digit_half s i ∙ e (suc i) (omega arith)) in omega (arith, half, pow-suc 2 n)

pub within_below : (x y n : ℕ) → Within x y → y < 2 ^ n → x < 2 ^ n
within_below x y n w h = omega (arith, within_le x y w)

-- the lowest n + 1 digits of s are its lowest and the lowest n of its half
mod_half : (s n : ℕ) → s % 2 ^ suc n ≡ (s / 2 % 2 ^ n) * 2 + s % 2
mod_half s n = ap (λ x. s % 2 ^ x) (sym (add-one n)) ∙ mod-pow-add s n 1

pub digit_mod : (n i s : ℕ) → i < n → digit (s % 2 ^ n) i ≡ digit s i
digit_mod zero i s h = absurd (omega arith)
digit_mod (suc n) zero s h = digit_low (s % 2 ^ suc n) ∙ omega (arith, mod_half s n) ∙ sym (digit_low s)
digit_mod (suc n) (suc i) s h =
    let half : s % 2 ^ suc n / 2 ≡ s / 2 % 2 ^ n = omega (arith, mod_half s n) in
    sym (digit_half (s % 2 ^ suc n) i) ∙ ap (λ x. digit x i) half ∙ digit_mod n i (s / 2) (omega arith) ∙ digit_half s i

-- ---- every part reversed, and parts cleared

reversed_half : (n s : ℕ) → s < 2 ^ suc n → reversed (suc n) s ≡ reversed n (s / 2) * 2 + (1 - s % 2)
unfolding reversed
reversed_half n s h = omega (arith, h, pow-suc 2 n, pow_pos n)

pub digit_reversed : (n i s : ℕ) → s < 2 ^ n → i < n → digit (reversed n s) i ≡ 1 - digit s i
digit_reversed zero i s h k = absurd (omega arith)
digit_reversed (suc n) zero s h k = digit_low (reversed (suc n) s) ∙ omega (arith, reversed_half n s h, digit_low s)
digit_reversed (suc n) (suc i) s h k =
    let half : reversed (suc n) s / 2 ≡ reversed n (s / 2) = omega (arith, reversed_half n s h) in
    sym (digit_half (reversed (suc n) s) i) ∙ ap (λ x. digit x i) half ∙ digit_reversed n i (s / 2) (omega (arith, pow-suc 2 n)) (omega arith) ∙ ap (λ x. 1 - x) (digit_half s i)

pub reversed_below : (n s : ℕ) → reversed n s < 2 ^ n
unfolding reversed
reversed_below n s = omega (arith, pow_pos n)

pub reversed_twice : (n s : ℕ) → s < 2 ^ n → reversed n (reversed n s) ≡ s
unfolding reversed
reversed_twice n s h = omega arith

pub reversed_within : (n x y : ℕ) → y < 2 ^ n → Within x y → Within (reversed n y) (reversed n x)
reversed_within n x y h w i =
    let small : x < 2 ^ n = within_below x y n w h in
    ⊎_elim
    (λ (lt : i < n). omega (arith, digit_reversed n i x small lt, digit_reversed n i y h lt, w i))
    (λ (ge : n ≤ i). omega (arith, digit_above (reversed n y) n i (reversed_below n y) ge))
    (cases_lt i n)

cleared_half : (set s : ℕ) → cleared set s ≡ cleared (set / 2) (s / 2) * 2 + (s % 2 - set % 2)
unfolding cleared
cleared_half set s = omega (arith, and_step s set, and_le_l (s / 2) (set / 2))

pub digit_cleared : (i set s : ℕ) → digit (cleared set s) i ≡ digit s i - digit set i
digit_cleared zero set s =
    digit_low (cleared set s) ∙ omega (arith, cleared_half set s, digit_low s, digit_low set)
digit_cleared (suc i) set s =
    let half : cleared set s / 2 ≡ cleared (set / 2) (s / 2) = omega (arith, cleared_half set s) in
    sym (digit_half (cleared set s) i) ∙ ap (λ x. digit x i) half ∙ digit_cleared i (set / 2) (s / 2)
    ∙ ap₂ (λ x y. x - y) (digit_half s i) (digit_half set i)

pub cleared_within : (set x y : ℕ) → Within x y → Within (cleared set x) (cleared set y)
cleared_within set x y w i = omega (arith, digit_cleared i set x, digit_cleared i set y, w i)

pub cleared_below : (set s n : ℕ) → s < 2 ^ n → cleared set s < 2 ^ n
unfolding cleared
cleared_below set s n h = omega arith

-- ---- one part

pub digit_part_same : (i : ℕ) → digit (2 ^ i) i ≡ 1
digit_part_same zero = digit_low 1
digit_part_same (suc i) = sym (digit_half (2 ^ suc i) i) ∙ ap (λ x. digit x i) (omega (arith, pow-suc 2 i)) ∙ digit_part_same i

pub digit_part_other : (i j : ℕ) → j ≢ i → digit (2 ^ i) j ≡ 0
digit_part_other zero zero ne = absurd (ne refl)
digit_part_other zero (suc j) ne = sym (digit_half 1 j) ∙ digit_none j
digit_part_other (suc i) zero ne = digit_low (2 ^ suc i) ∙ omega (arith, pow-suc 2 i)
digit_part_other (suc i) (suc j) ne =
    sym (digit_half (2 ^ suc i) j) ∙ ap (λ x. digit x j) (omega (arith, pow-suc 2 i)) ∙ digit_part_other i j (λ e. ne (ap suc e))

-- ---- all the parts of a set among those that work

pub and_within : (s p : ℕ) → Within p s → bit_and s p ≡ p
and_within s p w = same_digits (bit_and s p) p (λ i. digit_and s p i ∙ omega (arith, w i))

pub within_and : (s p : ℕ) → bit_and s p ≡ p → Within p s
within_and s p e i = omega (arith, digit_and s p i, ap (λ x. digit x i) e)

pub mod_within : (n x y : ℕ) → Within x y → Within (x % 2 ^ n) (y % 2 ^ n)
mod_within n x y w i =
    ⊎_elim
    (λ (lt : i < n). omega (arith, digit_mod n i x lt, digit_mod n i y lt, w i))
    (λ (ge : n ≤ i). omega (arith, digit_above (x % 2 ^ n) n i (mod-lt x (pow_pos n)) ge))
    (cases_lt i n)

-- ---- how many parts work

pub size_within : (n x y : ℕ) → Within x y → size n x ≤ size n y
unfolding size
size_within zero x y w = omega arith
size_within (suc n) x y w = omega (arith, size_within n x y w, w n)

size_half : (n s : ℕ) → size (suc n) s ≡ s % 2 + size n (s / 2)
unfolding size
size_half zero s = omega (arith, digit_low s)
size_half (suc n) s = omega (arith, size_half n s, digit_half s n)

pub size_ones : (n s : ℕ) → s < 2 ^ n → count_ones s ≡ size n s
unfolding size
size_ones zero s h = omega (arith, ones-le 0 s h)
size_ones (suc n) s h = ones_step s ∙ ap (λ x. s % 2 + x) (size_ones n (s / 2) (omega (arith, pow-suc 2 n))) ∙ sym (size_half n s)

-- ---- the number of states, as 1 shifted left

pub shifted : (n : ℕ) → n ≤ 16 → (1 * 2 ^ n) % 2 ^ 32 ≡ 2 ^ n
shifted n h = one_shl n 32 (omega arith)

pub states_fit : (n : ℕ) → n ≤ 16 → 2 ^ n ≤ 65536
states_fit n h = pow_mono {j = 16} h

-- a state that a walk over all of them comes to
pub walked : (k n s : ℕ) → k ≡ n → n ≤ 16 → s < (1 * 2 ^ k) % 2 ^ 32 → (s < 2 ^ n) × (s < 65536)
walked k n s e h lt =
    let all : (1 * 2 ^ k) % 2 ^ 32 ≡ 2 ^ n = ap (λ x. (1 * 2 ^ x) % 2 ^ 32) e ∙ shifted n h in
    (omega (arith, all), omega (arith, all, states_fit n h))
