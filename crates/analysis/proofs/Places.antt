-- A list that is written into lent places one value at a time. Assumes nothing.
use Rattle.std.proofs.Common.{◌≡◌, ℕ, zero, suc, ◌+◌, ◌<◌, ◌≤◌, List, [], ◌∷◌, length, take, drop, set, Some, None, sym, refl, ap, ◌∙◌, add-one, arith}
use Rattle.analysis.specs.Listing.{first, others}
use Rattle.analysis.specs.Places.{laid}

pub length_laid : (xs places : List ℕ) → length (laid xs places) ≡ length places
length_laid [] places = refl
length_laid (x ∷ xs) [] = refl
length_laid (x ∷ xs) (p ∷ places) = ap suc (length_laid xs places)

-- the values of a list up to some place are written, and those from there on are still to come
pub record Written (all before : List ℕ) (coming : List ℕ) (done : ℕ) (places : List ℕ) : Type 0 where
  pub left : coming ≡ drop done all
  pub within : done ≤ length all
  pub holds : places ≡ laid (take done all) before

pub written_none : (all before : List ℕ) → Written all before all 0 before
written_none all before = record { left = refl; within = omega arith; holds = refl }

pub none_some : (x : ℕ) → None ≡ Some x → ⊥
none_some x p = let z : ◌≡◌ {A = ℕ} 0 1 = cc in omega arith

pub same_some : (x y : ℕ) → Some x ≡ Some y → x ≡ y
same_some x y p = cc

-- one more value goes past those that are written, if there is room for it
pub record OneMore (all before : List ℕ) (done x : ℕ) : Type 0 where
  pub some : done < length all
  pub longer : laid (take (suc done) all) before ≡ set (laid (take done all) before) done x
  pub shorter : others (drop done all) ≡ drop (suc done) all

one_place : (x y : ℕ) (before : List ℕ) → y ≡ x → laid (y ∷ []) before ≡ set before 0 x
one_place x y [] e = refl
one_place x y (b ∷ before) e = ap (λ z. z ∷ before) e

one_more : (all before : List ℕ) (done x : ℕ) → first (drop done all) ≡ Some x → OneMore all before done x
one_more [] before zero x e = absurd (none_some x e)
one_more [] before (suc done) x e = absurd (none_some x e)
one_more (y ∷ all) before zero x e = record { some = omega arith; longer = one_place x y before (same_some y x e); shorter = refl }
one_more (y ∷ all) [] (suc done) x e =
    let rest = one_more all [] done x e in record { some = omega (arith, rest.some); longer = refl; shorter = rest.shorter }
one_more (y ∷ all) (b ∷ before) (suc done) x e =
    let rest = one_more all before done x e in
    record { some = omega (arith, rest.some); longer = ap (λ l. y ∷ l) rest.longer; shorter = rest.shorter }

pub written_more : (all before coming coming' places places' : List ℕ) (done x : ℕ) → Written all before coming done places → first coming ≡ Some x → coming' ≡ others coming → places' ≡ set places done x → Written all before coming' (done + 1) places'
written_more all before coming coming' places places' done x w e next stored =
    let more = one_more all before done x (sym (ap first w.left) ∙ e) in
    record {
      left = next ∙ ap others w.left ∙ more.shorter ∙ ap (λ k. drop k all) (sym (add-one done));
      within = omega (arith, more.some);
      holds = stored ∙ ap (λ l. set l done x) w.holds ∙ sym more.longer ∙ ap (λ k. laid (take k all) before) (sym (add-one done));
    }
