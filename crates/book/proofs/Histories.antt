-- That a history says what its latest deeds say. Assumes nothing.
use Rattle.std.proofs.Common.{◌≡◌, ℕ, Bool, true, false, eqb, List, [], ◌∷◌, ◌++◌, sym, refl, ap, ◌∙◌, subst, ⊎_elim}
use Rattle.std.proofs.lemmas.Bool.{cases_Bool, both_ways, cond-true, cond-false, eqb-true, eq-eqb}
use Rattle.book.specs.History.{Deed, Rate, SetPrice, Withdraw, PutBack, AskFigure, withdrawn, rating, price, held}
use Rattle.book.specs.Told.{Latest, Never, moves, rates, prices, changes, Told}

-- ---- the latest deed

latest_now : (test : Deed → Bool) (past : List Deed) (deed : Deed) → Latest test (deed ∷ past) deed
latest_now test past deed = record { since = []; before = past; done = refl; none = tt }

latest_still : {test : Deed → Bool} {past : List Deed} {deed : Deed} (later : Deed) → test later ≡ false → Latest test past deed → Latest test (later ∷ past) deed
latest_still later passes l = record { since = later ∷ l.since; before = l.before; done = ap (λ ds. later ∷ ds) l.done; none = (passes, l.none) }

-- what no deed of its kind changes is as it was
passed : {A : Type 0} (test : Deed → Bool) (f : List Deed → A) → ((deed : Deed) (past : List Deed) → test deed ≡ false → f (deed ∷ past) ≡ f past) → (since past : List Deed) → Never test since → f (since ++ past) ≡ f past
passed test f skips [] past none = refl
passed test f skips (deed ∷ since) past none = skips deed (since ++ past) none.0 ∙ passed test f skips since past none.1

latest_says : {A : Type 0} (test : Deed → Bool) (f : List Deed → A) → ((deed : Deed) (past : List Deed) → test deed ≡ false → f (deed ∷ past) ≡ f past) → (past : List Deed) (deed : Deed) (x : A) → ((before : List Deed) → f (deed ∷ before) ≡ x) → Latest test past deed → f past ≡ x
latest_says test f skips past deed x says l =
    ap f l.done ∙ passed test f skips l.since (deed ∷ l.before) l.none ∙ says l.before

never_says : {A : Type 0} (test : Deed → Bool) (f : List Deed → A) → ((deed : Deed) (past : List Deed) → test deed ≡ false → f (deed ∷ past) ≡ f past) → (past : List Deed) → Never test past → f past ≡ f []
never_says test f skips [] none = refl
never_says test f skips (deed ∷ past) none = skips deed past none.0 ∙ never_says test f skips past none.1

-- ---- marks, ratings and prices

module _ (part : ℕ) where
  withdrawn_skips : (deed : Deed) (past : List Deed) → moves part deed ≡ false → withdrawn (deed ∷ past) part ≡ withdrawn past part
  withdrawn_skips (Rate p r) past e = refl
  withdrawn_skips (SetPrice p x) past e = refl
  withdrawn_skips (Withdraw p) past e = cond-false (eqb p part) true (withdrawn past part) e
  withdrawn_skips (PutBack p) past e = cond-false (eqb p part) false (withdrawn past part) e
  withdrawn_skips AskFigure past e = refl

  rating_skips : (deed : Deed) (past : List Deed) → rates part deed ≡ false → rating (deed ∷ past) part ≡ rating past part
  rating_skips (Rate p r) past e = cond-false (eqb p part) r (rating past part) e
  rating_skips (SetPrice p x) past e = refl
  rating_skips (Withdraw p) past e = refl
  rating_skips (PutBack p) past e = refl
  rating_skips AskFigure past e = refl

  price_skips : (deed : Deed) (past : List Deed) → prices part deed ≡ false → price (deed ∷ past) part ≡ price past part
  price_skips (Rate p r) past e = refl
  price_skips (SetPrice p x) past e = cond-false (eqb p part) x (price past part) e
  price_skips (Withdraw p) past e = refl
  price_skips (PutBack p) past e = refl
  price_skips AskFigure past e = refl

  withdrawn_latest : (past : List Deed) → withdrawn past part ≡ true → Latest (moves part) past (Withdraw part)
  withdrawn_latest [] h = absurd (both_ways false refl h)
  withdrawn_latest (Rate p r ∷ past) h = latest_still (Rate p r) refl (withdrawn_latest past h)
  withdrawn_latest (SetPrice p x ∷ past) h = latest_still (SetPrice p x) refl (withdrawn_latest past h)
  withdrawn_latest (AskFigure ∷ past) h = latest_still AskFigure refl (withdrawn_latest past h)
  withdrawn_latest (Withdraw p ∷ past) h =
      ⊎_elim
      (λ (e : eqb p part ≡ true).
      let P : ℕ → Type 0 = λ q. Latest (moves part) (Withdraw p ∷ past) (Withdraw q) in
      subst P (eqb-true p part e) (latest_now (moves part) past (Withdraw p)))
      (λ (e : eqb p part ≡ false). latest_still (Withdraw p) e (withdrawn_latest past (sym (cond-false (eqb p part) true (withdrawn past part) e) ∙ h)))
      (cases_Bool (eqb p part))
  withdrawn_latest (PutBack p ∷ past) h =
      ⊎_elim
      (λ (e : eqb p part ≡ true). absurd (both_ways false refl (sym (cond-true (eqb p part) false (withdrawn past part) e) ∙ h)))
      (λ (e : eqb p part ≡ false). latest_still (PutBack p) e (withdrawn_latest past (sym (cond-false (eqb p part) false (withdrawn past part) e) ∙ h)))
      (cases_Bool (eqb p part))

  itself : eqb part part ≡ true
  itself = eq-eqb part part refl

-- ---- held figures

held_latest : (past : List Deed) → held past ≡ true → Latest changes past AskFigure
held_latest [] h = absurd (both_ways false refl h)
held_latest (Rate p r ∷ past) h = absurd (both_ways false refl h)
held_latest (SetPrice p x ∷ past) h = latest_still (SetPrice p x) refl (held_latest past h)
held_latest (Withdraw p ∷ past) h = absurd (both_ways false refl h)
held_latest (PutBack p ∷ past) h = absurd (both_ways false refl h)
held_latest (AskFigure ∷ past) h = latest_now changes past AskFigure

held_still : (deed : Deed) (past : List Deed) → changes deed ≡ false → held past ≡ true → held (deed ∷ past) ≡ true
held_still (Rate p r) past e h = absurd (both_ways true e refl)
held_still (SetPrice p x) past e h = h
held_still (Withdraw p) past e h = absurd (both_ways true e refl)
held_still (PutBack p) past e h = absurd (both_ways true e refl)
held_still AskFigure past e h = refl

held_since : (since before : List Deed) → Never changes since → held (since ++ (AskFigure ∷ before)) ≡ true
held_since [] before none = refl
held_since (deed ∷ since) before none = held_still deed (since ++ (AskFigure ∷ before)) none.0 (held_since since before none.1)

pub told : (past : List Deed) → Told past
told past = record {
  marked = λ part. (
    withdrawn_latest part past,
    latest_says (moves part) (λ ds. withdrawn ds part) (withdrawn_skips part) past (Withdraw part) true
        (λ before. cond-true (eqb part part) true (withdrawn before part) (itself part)),
  );
  rated = λ part new. latest_says (rates part) (λ ds. rating ds part) (rating_skips part) past (Rate part new) new
      (λ before. cond-true (eqb part part) new (rating before part) (itself part));
  unrated = λ part. never_says (rates part) (λ ds. rating ds part) (rating_skips part) past;
  priced = λ part new. latest_says (prices part) (λ ds. price ds part) (price_skips part) past (SetPrice part new) new
      (λ before. cond-true (eqb part part) new (price before part) (itself part));
  unpriced = λ part. never_says (prices part) (λ ds. price ds part) (price_skips part) past;
  holds = (held_latest past, λ l. ap held l.done ∙ held_since l.since l.before l.none);
}
