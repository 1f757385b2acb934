-- A book that has seen a history follows each call of a list. Assumes nothing.
use Rattle.std.proofs.Common.{◌≡◌, ℕ, ◌≤◌, Bool, true, false, cond, ltb, List, ◌∷◌, Ok, Err, Result, sym, refl, ap, ◌∙◌, subst, ap₂, arith}
use Rattle.std.proofs.lemmas.Bool.{ltb-true}
use Rattle.structure.specs.Meanings.{Meaning}
use Rattle.weight.specs.declared.Weight.{Ghosts}
use Rattle.analysis.specs.Weighed.{weighed}
use Rattle.sheet.specs.declared.refusal.Refusal.{Refusal}
use Rattle.sheet.specs.declared.refusal.Refusal.TheVariants.{Part}
use Rattle.sheet.specs.Figure.{floor}
use Rattle.sheet.specs.Importance.{importance_at}
use Rattle.sheet.specs.Sheets.{rated, priced, taken_out, put_back}
use Rattle.book.specs.declared.answer.Reply.TheVariants.{Importance as importance_is}
use Rattle.book.specs.declared.book.Book.{Book}
use Rattle.book.specs.declared.figure.Figure.{Figure}
use Rattle.book.specs.Agreement.{Agreed}
use Rattle.book.specs.Answers.{Answer, ruled, figure_then, weighed_unless, weigh_refused_with}
use Rattle.book.specs.Books.{opened, entered, stands, book_figure, book_importance}
use Rattle.book.specs.Entries.{altered, repriced}
use Rattle.book.specs.Following.{Saw, done_or}
use Rattle.book.specs.History.{Deed, Rate, SetPrice, Withdraw, PutBack, AskFigure, verdict, next}
use Rattle.book.specs.Standing.{standing, importance_after}
use Rattle.book.proofs.Following as follow
use Rattle.book.proofs.Sameness.{weighed_same}

-- an importance, as it is told
abbrev pub importance_said : {W : Type 0} → Result ℕ Refusal → Answer W
importance_said (Ok units) = Ok (importance_is units)
importance_said (Err why) = Err why

module _ {m : Meaning} {past : List Deed} (book : Book) (saw : Saw m past book) where
  pub sized : m.order ≤ 16
  sized = omega (arith, book.table.order.high, saw.opened.order)

  -- a row call was answered by the history's verdict, and has been seen
  module _ {W : Type 0} (after : Book) (r : Result (Unit {0}) Refusal) (given : Answer W) (same : opened after ≡ opened book) (told : given ≡ done_or r) where
    carried : (deed : Deed) → (◌≡◌ {A = Answer W} (done_or r) (ruled (verdict m.order past deed))) × Agreed m (next m.order past deed) (opened book) (entered after) → (given ≡ ruled (verdict m.order past deed)) × Saw m (next m.order past deed) after
    carried deed both = (told ∙ both.0, subst (λ table. Agreed m (next m.order past deed) table (entered after)) (sym same) both.1)

    pub book_rated : (part new : ℕ) → (r, entered after) ≡ altered (rated part new (entered book).page) (entered book) → (given ≡ ruled (verdict m.order past (Rate part new))) × Saw m (next m.order past (Rate part new)) after
    book_rated part new is = carried (Rate part new) (follow.rate_follows saw sized book.entries.sheet.whole part new r (entered after) is)

    pub book_priced : (part new : ℕ) → (r, entered after) ≡ repriced (priced part new (entered book).page) (entered book) → (given ≡ ruled (verdict m.order past (SetPrice part new))) × Saw m (next m.order past (SetPrice part new)) after
    book_priced part new is = carried (SetPrice part new) (follow.price_follows saw sized book.entries.sheet.whole part new r (entered after) is)

    pub book_taken_out : (part : ℕ) → (r, entered after) ≡ altered (taken_out part (entered book).page) (entered book) → (given ≡ ruled (verdict m.order past (Withdraw part))) × Saw m (next m.order past (Withdraw part)) after
    book_taken_out part is = carried (Withdraw part) (follow.withdraw_follows saw sized book.entries.sheet.whole part r (entered after) is)

    pub book_put_back : (part : ℕ) → (r, entered after) ≡ altered (put_back part (entered book).page) (entered book) → (given ≡ ruled (verdict m.order past (PutBack part))) × Saw m (next m.order past (PutBack part)) after
    book_put_back part is = carried (PutBack part) (follow.put_back_follows saw sized book.entries.sheet.whole part r (entered after) is)

  -- a figure is that of the station as it stands, and has been asked for
  pub book_figure_lem : (after : Book) (f : Figure) → opened after ≡ opened book → (f, entered after) ≡ book_figure (opened book) (entered book) → (f ≡ figure_then m past) × Saw m (AskFigure ∷ past) after
  book_figure_lem after f same is = (
    ap (λ x. x.0) is
        ∙ ap₂ (λ units held. record { units = units; held = held }) (follow.figure_said saw sized book.entries.sheet.whole) (follow.held_said saw sized book.entries.sheet.whole),
    subst (λ table. Agreed m (AskFigure ∷ past) table (entered after)) (sym same)
        (subst (Agreed m (AskFigure ∷ past) (opened book)) (ap (λ x. x.1) (sym is)) (follow.figure_agrees saw sized book.entries.sheet.whole)),
  )

  pub book_importance_lem : {W : Type 0} (part : ℕ) → ◌≡◌ {A = Answer W} (importance_said (book_importance (opened book) (entered book) part)) (cond (ltb part m.order) (Ok (importance_is (importance_after floor m past part))) (Err Part))
  book_importance_lem {W} part =
      ap (λ n. importance_said {W = W} (cond (ltb part n) (Ok (importance_at (opened book) (entered book).page part)) (Err Part))) saw.opened.order ∙ by_test (ltb part m.order) refl
    where
      by_test : (b : Bool) → ltb part m.order ≡ b → ◌≡◌ {A = Answer W} (importance_said (cond b (Ok (importance_at (opened book) (entered book).page part)) (Err Part))) (cond b (Ok (importance_is (importance_after floor m past part))) (Err Part))
      by_test true e = ap (λ units. Ok (importance_is units)) (follow.importance_said_lem saw sized book.entries.sheet.whole part (ltb-true part m.order e))
      by_test false e = refl

  -- a sum is over the states in which the station as it stands works
  pub book_weighed : {W : Type 0} (weight : Ghosts W) (up down : List W) (lent : ℕ) → weighed_unless (weigh_refused_with (stands book).order up down lent) (weighed weight (stands book) up down) ≡ weighed_unless (weigh_refused_with m.order up down lent) (weighed weight (standing m past) up down)
  book_weighed weight up down lent =
      ap₂ (λ n sum. weighed_unless (weigh_refused_with n up down lent) sum) saw.opened.order
      (weighed_same weight (stands book) (standing m past) up down (follow.station_same saw sized book.entries.sheet.whole))
