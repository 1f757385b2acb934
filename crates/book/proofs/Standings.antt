-- The station as it stands after a history: its marks, its ratings and its figure. Assumes nothing.
use Rattle.std.proofs.Common.{◌≡◌, ℕ, zero, suc, ◌+◌, ◌^◌, ◌<◌, ◌≤◌, Bool, true, false, cond, List, ◌∷◌, length, get_or, take, sym, refl, ap, ◌∙◌, ap₂, ⊎_elim, pow-suc, zero-add, arith}
use Rattle.std.proofs.lemmas.List.{length-map, get_or-map, get_or_past, get_or-take, length-take-le, same_lists, get_or_default}
use Rattle.std.proofs.lemmas.Bool.{cases_lt, both_ways}
use Rattle.structure.specs.Layers.{hold}
use Rattle.structure.specs.Meanings.{Meaning, Sized, Monotone}
use Rattle.structure.specs.LayersLemmas.{hold_monotone}
use Rattle.analysis.specs.Minimal.{rising}
use Rattle.analysis.proofs.Rising.{length_rising}
use Rattle.sheet.specs.Figure.{figure_of, floor, Rated, Rises, WorksWherever}
use Rattle.book.specs.History.{Deed, Rate, SetPrice, Withdraw, PutBack, AskFigure, withdrawn, rating}
use Rattle.sheet.specs.Reliability.{Close}
use Rattle.sheet.specs.Sheets.{set_of}
use Rattle.book.specs.Standing.{standing, ratings, figure_after}
use Rattle.book.specs.Told.{changes}
use Rattle.book.proofs.Acceptance.{Sound, rating_most}
use Rattle.sheet.proofs.Closeness.{close}
use Rattle.sheet.proofs.Values.{never_below}

-- ---- sets by a test

pub set_of_same : (f g : ℕ → Bool) (n : ℕ) → ((i : ℕ) → i < n → f i ≡ g i) → set_of f n ≡ set_of g n
set_of_same f g zero same = refl
set_of_same f g (suc n) same =
    ap₂ (λ x b. x + cond b (2 ^ n) 0) (set_of_same f g n (λ i h. same i (omega arith))) (same n (omega arith))

one_part : (b : Bool) (n : ℕ) → cond b (2 ^ n) 0 ≤ 2 ^ n
one_part true n = omega arith
one_part false n = omega arith

pub set_of_below : (test : ℕ → Bool) (n : ℕ) → set_of test n < 2 ^ n
set_of_below test zero = omega arith
set_of_below test (suc n) = omega (arith, set_of_below test n, one_part (test n) n, pow-suc 2 n)

-- ---- ratings by part

rising_at : (first many i : ℕ) → i < many → get_or (rising first many) i 0 ≡ first + i
rising_at first zero i h = absurd (omega arith)
rising_at first (suc many) zero h = omega arith
rising_at first (suc many) (suc i) h = rising_at (suc first) many i (omega arith) ∙ omega arith

pub ratings_long : (n : ℕ) (past : List Deed) → length (ratings n past) ≡ n
ratings_long n past = length-map (rising 0 n) (rating past) ∙ length_rising 0 n

pub ratings_at_lem : (n : ℕ) (past : List Deed) (part : ℕ) → part < n → get_or (ratings n past) part 0 ≡ rating past part
ratings_at_lem n past part h =
    get_or-map (rating past) (rising 0 n) part 0 0 (omega (arith, length_rising 0 n)) ∙ ap (rating past) (rising_at 0 n part h ∙ zero-add part)

pub ratings_past : (n : ℕ) (past : List Deed) (part : ℕ) → n ≤ part → get_or (ratings n past) part 0 ≡ 0
ratings_past n past part h = get_or_past (ratings n past) part 0 (omega (arith, ratings_long n past))

pub ratings_rated : (n : ℕ) (past : List Deed) → Sound n past → Rated (ratings n past)
ratings_rated n past sound part =
    ⊎_elim
    (λ (lt : part < n). omega (arith, ratings_at_lem n past part lt, rating_most n past sound part))
    (λ (ge : n ≤ part). omega (arith, ratings_past n past part ge))
    (cases_lt part n)

-- the first n of a row of numbers, where each is the rating of its part
pub ratings_taken : (n : ℕ) (past : List Deed) (xs : List ℕ) → n ≤ length xs → ((part : ℕ) → part < n → get_or xs part 0 ≡ rating past part) → take n xs ≡ ratings n past
ratings_taken n past xs long same =
    let many = length-take-le n xs long in
    same_lists (take n xs) (ratings n past) (many ∙ sym (ratings_long n past))
    (λ part d h.
    let lt : part < n = omega (arith, many) in
    get_or_default (take n xs) part d 0 h ∙ get_or-take n xs part 0 lt ∙ same part lt ∙ sym (ratings_at_lem n past part lt)
    ∙ get_or_default (ratings n past) part 0 d (omega (arith, ratings_long n past)))

-- ---- figures

-- a walk over what a sheet holds gives the figure after the history that it agrees with
pub figure_walked : (m : Meaning) (past : List Deed) (failed : ℕ) (xs : List ℕ) → failed ≡ set_of (withdrawn past) m.order → m.order ≤ length xs → ((part : ℕ) → part < m.order → get_or xs part 0 ≡ rating past part) → figure_of floor (hold failed m) (take m.order xs) ≡ figure_after floor m past
figure_walked m past failed xs same long each =
    ap₂ (λ set rs. figure_of floor (hold set m) rs) same (ratings_taken m.order past xs long each)

-- a call that changes no mark and no rating changes no figure
pub figure_kept : (round : ℕ → ℕ) (m : Meaning) (deed : Deed) (past : List Deed) → changes deed ≡ false → figure_after round m (deed ∷ past) ≡ figure_after round m past
figure_kept round m (Rate p r) past e = absurd (both_ways true e refl)
figure_kept round m (SetPrice p x) past e = refl
figure_kept round m (Withdraw p) past e = absurd (both_ways true e refl)
figure_kept round m (PutBack p) past e = absurd (both_ways true e refl)
figure_kept round m AskFigure past e = refl

pub figure_close : (m : Meaning) (past : List Deed) → Sized m → Sound m.order past → Close (standing m past) (ratings m.order past) (figure_after floor m past)
figure_close m past sized sound =
    close (standing m past) (ratings m.order past) sized.0 (ratings_long m.order past) (ratings_rated m.order past sound)

-- of two stations with histories of their own, the better one has no lower figure
pub figures_compared : (round : ℕ → ℕ) → Rises round → (a b : Meaning) (first second : List Deed) → Monotone b → WorksWherever (standing a first) (standing b second) → ((part : ℕ) → part < b.order → rating first part ≤ rating second part) → figure_after round a first ≤ figure_after round b second
figures_compared round rises a b first second mono better higher =
    never_below round rises (standing a first) (standing b second) (ratings a.order first) (ratings b.order second)
    (hold_monotone _ b mono) (ratings_long b.order second) better
    (record {
      long = ratings_long a.order first ∙ better.order ∙ sym (ratings_long b.order second);
      each = λ part. ⊎_elim
          (λ (lt : part < b.order). omega (arith, ratings_at_lem a.order first part (omega (arith, better.order)), ratings_at_lem b.order second part lt, higher part lt))
          (λ (ge : b.order ≤ part). omega (arith, ratings_past a.order first part (omega (arith, better.order))))
          (cases_lt part b.order);
    })
