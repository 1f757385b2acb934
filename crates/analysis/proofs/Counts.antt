-- Counts along lists and along rising numbers. Assumes nothing.
use Rattle.std.proofs.Common.{◌≡◌, ℕ, zero, suc, ◌+◌, ◌*◌, ◌<◌, ◌≤◌, Bool, true, false, cond, ◌&&◌, List, [], ◌∷◌, ◌++◌, map, length, sym, refl, ap, ◌∙◌, ap₂, add-zero, add-suc, suc-add, mul-zero, mul-add, arith}
use Rattle.analysis.specs.Counts.{count, total, Each}
use Rattle.std.specs.List.{flat_map}
use Rattle.analysis.specs.Minimal.{rising}
use Rattle.analysis.proofs.Rising.{up_from, up_next}

-- what a test adds to a count
abbrev pub once_if : Bool → ℕ
once_if b = cond b 1 0

pub one_at_most : (b : Bool) → once_if b ≤ 1
one_at_most true = omega arith
one_at_most false = omega arith

pub count_up : (test : ℕ → Bool) (n k : ℕ) → k < n → count test (up_from n k) ≡ cond (test k) 1 0 + count test (up_from n (k + 1))
count_up test n k h = ap (count test) (up_next n k h)

pub count_rising_le : (test : ℕ → Bool) (first many : ℕ) → count test (rising first many) ≤ many
count_rising_le test first zero = omega arith
count_rising_le test first (suc many) = omega (arith, one_at_most (test first), count_rising_le test (suc first) many)

module _ {A : Type 0} (test : A → Bool) where
  pub count_append : (xs ys : List A) → count test (xs ++ ys) ≡ count test xs + count test ys
  count_append [] ys = omega arith
  count_append (x ∷ xs) ys = omega (arith, count_append xs ys)

  pub count_map : {B : Type 0} (f : B → A) (xs : List B) → count test (map f xs) ≡ count (λ x. test (f x)) xs
  count_map f [] = refl
  count_map f (x ∷ xs) = ap (λ n. cond (test (f x)) 1 0 + n) (count_map f xs)

  pub count_and : (b : Bool) (xs : List A) → count (λ x. b && test x) xs ≡ cond b (count test xs) 0
  count_and true xs = refl
  count_and false [] = refl
  count_and false (x ∷ xs) = omega (arith, count_and false xs)

-- ---- what holds of each of a list

module _ {A : Type 0} (P : A → Type 0) where
  pub each_append : (xs ys : List A) → Each P xs → Each P ys → Each P (xs ++ ys)
  each_append [] ys hs ks = ks
  each_append (x ∷ xs) ys hs ks = (hs.0, each_append xs ys hs.1 ks)

  pub each_map : {B : Type 0} (f : B → A) (xs : List B) → Each (λ x. P (f x)) xs → Each P (map f xs)
  each_map f [] hs = tt
  each_map f (x ∷ xs) hs = (hs.0, each_map f xs hs.1)

  pub each_joined : {B : Type 0} (f : B → List A) (xs : List B) → Each (λ x. Each P (f x)) xs → Each P (flat_map f xs)
  each_joined f [] hs = tt
  each_joined f (x ∷ xs) hs = each_append (f x) (flat_map f xs) hs.0 (each_joined f xs hs.1)

  pub each_implies : (Q : A → Type 0) → ((x : A) → P x → Q x) → (xs : List A) → Each P xs → Each Q xs
  each_implies Q implies [] hs = tt
  each_implies Q implies (x ∷ xs) hs = (implies x hs.0, each_implies Q implies xs hs.1)

pub each_both : {A : Type 0} (P Q R : A → Type 0) → ((x : A) → P x → Q x → R x) → (xs : List A) → Each P xs → Each Q xs → Each R xs
each_both P Q R both [] hs ks = tt
each_both P Q R both (x ∷ xs) hs ks = (both x hs.0 ks.0, each_both P Q R both xs hs.1 ks.1)

-- a count that two others share out
pub count_shared : {A : Type 0} (f g h : A → Bool) (xs : List A) → Each (λ x. once_if (f x) + once_if (g x) ≡ once_if (h x)) xs → count f xs + count g xs ≡ count h xs
count_shared f g h [] hs = refl
count_shared f g h (x ∷ xs) hs = omega (arith, hs.0, count_shared f g h xs hs.1)

pub count_same : {A : Type 0} (f g : A → Bool) (xs : List A) → Each (λ x. f x ≡ g x) xs → count f xs ≡ count g xs
count_same f g [] hs = refl
count_same f g (x ∷ xs) hs = ap₂ (λ b n. once_if b + n) hs.0 (count_same f g xs hs.1)

pub count_each : {A : Type 0} (xs : List A) → count (λ _. true) xs ≡ length xs
count_each [] = refl
count_each (x ∷ xs) = omega (arith, count_each xs)

-- ---- counts joined over a list whose members each bring the same

module _ {A B : Type 0} (P : A → Type 0) (f : A → List B) (test : B → Bool) where
  pub count_joined : (a b : ℕ) (F G : A → Bool) → ((x : A) → P x → count test (f x) ≡ a * cond (F x) 1 0 + b * cond (G x) 1 0) → (xs : List A) → Each P xs → count test (flat_map f xs) ≡ a * count F xs + b * count G xs
  count_joined a b F G brings [] hs = omega (arith, mul-zero a, mul-zero b)
  count_joined a b F G brings (x ∷ xs) hs =
      count_append test (f x) (flat_map f xs)
      ∙ omega (arith, brings x hs.0, count_joined a b F G brings xs hs.1, mul-add a (cond (F x) 1 0) (count F xs), mul-add b (cond (G x) 1 0) (count G xs))

pub total_next : (f : ℕ → ℕ) (first many : ℕ) → total (map f (rising first (suc many))) ≡ total (map f (rising first many)) + f (first + many)
total_next f first zero = omega (arith, ap f (add-zero first))
total_next f first (suc many) = omega (arith, total_next f (suc first) many, ap f (suc-add first many ∙ sym (add-suc first many)))
