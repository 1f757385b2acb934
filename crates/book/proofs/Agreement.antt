-- Marks, ratings and prices that agree with a history: they refuse what it refuses, and go on to agree after each accepted call. Assumes nothing.
use Rattle.std.proofs.Common.{◌≡◌, ℕ, ◌<◌, Bool, true, false, cond, eqb, ltb, List, [], ◌∷◌, length, get_or, set, Some, None, Option, sym, refl, ap, ◌∙◌, ⊎_elim}
use Rattle.std.proofs.lemmas.List.{get_or-set_same, get_or-set_other}
use Rattle.std.proofs.lemmas.Bool.{cases_Bool, cond-false, cond_both, eqb-true, eqb-false, ltb-true}
use Rattle.sheet.specs.declared.refusal.Refusal.{Refusal}
use Rattle.sheet.specs.declared.refusal.Refusal.TheVariants.{Part, Rating, RatedWithdrawn, Withdrawn, InService}
use Rattle.book.specs.Agreement.{Agrees}
use Rattle.book.specs.History.{Deed, Rate, SetPrice, Withdraw, PutBack, AskFigure, withdrawn, rating, price, on_part, refused, verdict}

pub agrees_start : (n : ℕ) → Agrees n [] (λ _. false) (λ _. 0) (λ _. 0)
agrees_start n = record { marked = λ _ _. refl; rated = λ _ _. refl; priced = λ _ _. refl }

-- ---- verdicts

on_part_same : {A : Type 0} (n part : ℕ) (why : A → Option Refusal) (x y : A) → (part < n → x ≡ y) → on_part n part (why x) ≡ on_part n part (why y)
on_part_same n part why x y same =
    ⊎_elim
    (λ (e : ltb part n ≡ true). ap (λ z. on_part n part (why z)) (same (ltb-true part n e)))
    (λ (e : ltb part n ≡ false). cond-false (ltb part n) (why x) (Some Part) e ∙ sym (cond-false (ltb part n) (why y) (Some Part) e))
    (cases_Bool (ltb part n))

-- marks that agree give the same verdict
pub refused_same : (n : ℕ) (past : List Deed) (mark : ℕ → Bool) → ((part : ℕ) → part < n → mark part ≡ withdrawn past part) → (deed : Deed) → refused n mark deed ≡ verdict n past deed
refused_same n past mark same (Rate p new) =
    on_part_same n p (λ b. cond (ltb 65536 new) (Some Rating) (cond b (Some RatedWithdrawn) None)) (mark p) (withdrawn past p) (same p)
refused_same n past mark same (SetPrice p new) = refl
refused_same n past mark same (Withdraw p) = on_part_same n p (λ b. cond b (Some Withdrawn) None) (mark p) (withdrawn past p) (same p)
refused_same n past mark same (PutBack p) = on_part_same n p (λ b. cond b None (Some InService)) (mark p) (withdrawn past p) (same p)
refused_same n past mark same AskFigure = refl

-- ---- one part changed

-- what is read of each part, where one place was written
pub read_written : {A B : Type 0} (read : A → B) (rows : List A) (p : ℕ) (new : A) (part : ℕ) (d : A) → p < length rows → read (get_or (set rows p new) part d) ≡ cond (eqb p part) (read new) (read (get_or rows part d))
read_written read rows p new part d within =
    cond_both (eqb p part) (read new) (read (get_or rows part d)) (λ x. read (get_or (set rows p new) part d) ≡ x)
    (λ e. ap (λ i. read (get_or (set rows p new) i d)) (sym (eqb-true p part e)) ∙ ap read (get_or-set_same rows p new d within))
    (λ e. ap read (get_or-set_other rows p part new d (λ same. eqb-false p part e (sym same))))

module _ {n : ℕ} {past : List Deed} {mark : ℕ → Bool} {rate cost : ℕ → ℕ} (before : Agrees n past mark rate cost) where
  -- the same function where one part has a new value
  changed : {A : Type 0} (f g h : ℕ → A) (p : ℕ) (new : A) → ((i : ℕ) → i < n → f i ≡ h i) → ((i : ℕ) → i < n → g i ≡ cond (eqb p i) new (f i)) → (i : ℕ) → i < n → g i ≡ cond (eqb p i) new (h i)
  changed f g h p new agree now-is i lt = now-is i lt ∙ ap (cond (eqb p i) new) (agree i lt)

  pub agrees_rate : (p new : ℕ) (rate-now : ℕ → ℕ) → ((i : ℕ) → i < n → rate-now i ≡ cond (eqb p i) new (rate i)) → Agrees n (Rate p new ∷ past) mark rate-now cost
  agrees_rate p new rate-now now-is = record {
    marked = before.marked;
    rated = changed rate rate-now (rating past) p new before.rated now-is;
    priced = before.priced;
  }

  pub agrees_price : (p new : ℕ) (cost-now : ℕ → ℕ) → ((i : ℕ) → i < n → cost-now i ≡ cond (eqb p i) new (cost i)) → Agrees n (SetPrice p new ∷ past) mark rate cost-now
  agrees_price p new cost-now now-is = record {
    marked = before.marked;
    rated = before.rated;
    priced = changed cost cost-now (price past) p new before.priced now-is;
  }

  pub agrees_withdraw : (p : ℕ) (mark-now : ℕ → Bool) → ((i : ℕ) → i < n → mark-now i ≡ cond (eqb p i) true (mark i)) → Agrees n (Withdraw p ∷ past) mark-now rate cost
  agrees_withdraw p mark-now now-is = record {
    marked = changed mark mark-now (withdrawn past) p true before.marked now-is;
    rated = before.rated;
    priced = before.priced;
  }

  pub agrees_put_back : (p : ℕ) (mark-now : ℕ → Bool) → ((i : ℕ) → i < n → mark-now i ≡ cond (eqb p i) false (mark i)) → Agrees n (PutBack p ∷ past) mark-now rate cost
  agrees_put_back p mark-now now-is = record {
    marked = changed mark mark-now (withdrawn past) p false before.marked now-is;
    rated = before.rated;
    priced = before.priced;
  }

  pub agrees_figure : Agrees n (AskFigure ∷ past) mark rate cost
  agrees_figure = record { marked = before.marked; rated = before.rated; priced = before.priced }
