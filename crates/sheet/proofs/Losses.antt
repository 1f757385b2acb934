-- What the trial of one part tells, and the lowest loss so far. Assumes nothing.
use Rattle.std.proofs.Common.{◌≡◌, ℕ, ◌+◌, ◌<◌, ◌≤◌, true, leb, ◌⊎◌, Some, None, Ok, Err, Option, Result, sym, refl, ap, subst, inl, inr, ⊎_elim, arith}
use Rattle.std.specs.Option.{option_map}
use Rattle.std.proofs.lemmas.Bool.{cases_Bool, cases_eq, cases_lt, lt-ltb, le-ltb, leb-true, leb-false, cond_both}
use Rattle.structure.specs.Meanings.{Meaning}
use Rattle.sheet.specs.declared.refusal.Refusal.{Refusal}
use Rattle.sheet.specs.declared.refusal.Refusal.TheVariants.{Part, Withdrawn}
use Rattle.sheet.specs.declared.weakest.Loss.{Loss}
use Rattle.sheet.specs.Losses.{lower_of}
use Rattle.sheet.specs.Sheets.{Page, row_of, withdraw_refused}
use Rattle.sheet.specs.Weakest.{figure_without, figure_without_or_refusal, InService, Names}

module _ (m : Meaning) (p : Page) where
  -- ---- what a trial of one part tells

  -- the answer of a trial, by why the part is not withdrawn
  abbrev told : ℕ → Option Refusal → Result ℕ Refusal
  told part why = elim why [ None ↦ Ok (figure_without m p part) | Some reason ↦ Err reason ]

  in_or_out : (part : ℕ) → InService p part ⊎ ((why : Refusal) × (withdraw_refused part p ≡ Some why))
  in_or_out part =
      ⊎_elim
      (λ (known : part < p.order). ⊎_elim
      (λ (marked : (row_of part p).withdrawn ≡ true). inr (Withdrawn, rw (lt-ltb part p.order known, marked) refl))
      (λ free. inl (record { known = known; unmarked = free }))
      (cases_Bool (row_of part p).withdrawn))
      (λ (past : p.order ≤ part). inr (Part, rw (le-ltb part p.order past) refl))
      (cases_lt part p.order)

  in_service_told : (part : ℕ) → InService p part → figure_without_or_refusal m p part ≡ Ok (figure_without m p part)
  in_service_told part here =
      let free : withdraw_refused part p ≡ None = rw (lt-ltb part p.order here.known, here.unmarked) refl in
      ap (told part) free

  -- a figure tells of a part in service, and a refusal of one that is not
  pub tried_in_service : (part figure : ℕ) → Ok figure ≡ figure_without_or_refusal m p part → InService p part × (figure ≡ figure_without m p part)
  tried_in_service part figure e =
      ⊎_elim
      (λ (here : InService p part). let same = in_service_told part here in (here, cc))
      (λ (out : (why : Refusal) × (withdraw_refused part p ≡ Some why)).
      let refused = ap (told part) out.1 in let z : ◌≡◌ {A = ℕ} 0 1 = cc in absurd (omega arith))
      (in_or_out part)

  pub refused_out : (part : ℕ) (why : Refusal) → Err why ≡ figure_without_or_refusal m p part → InService p part → ⊥
  refused_out part why e here =
      let same = in_service_told part here in let z : ◌≡◌ {A = ℕ} 0 1 = cc in omega arith

  -- ---- the parts before part k

  -- of those in service, this one's loss leaves the lowest figure, and it is the first such
  pub record LowestBefore (k part figure : ℕ) : Type 0 where
    pub in_service : InService p part
    pub before : part < k
    pub told : figure ≡ figure_without m p part
    pub lowest : (other : ℕ) → InService p other → other < k → figure ≤ figure_without m p other
    pub first : (other : ℕ) → InService p other → other < part → figure < figure_without m p other

  abbrev pub Sofar : ℕ → Option Loss → Type 0
  Sofar k None = (part : ℕ) → InService p part → part < k → ⊥
  Sofar k (Some loss) = LowestBefore k loss.part loss.figure

  pub sofar_passed : (k : ℕ) (lowest : Option Loss) → (InService p k → ⊥) → Sofar k lowest → Sofar (k + 1) lowest
  sofar_passed k None out none = λ part here before.
      ⊎_elim (λ (same : part ≡ k). out (subst (InService p) same here)) (λ other. none part here (omega (arith, other))) (cases_eq part k)
  sofar_passed k (Some loss) out sofar = record {
    in_service = sofar.in_service;
    before = omega (arith, sofar.before);
    told = sofar.told;
    lowest = λ other here before. ⊎_elim
        (λ (same : other ≡ k). absurd (out (subst (InService p) same here)))
        (λ ne. sofar.lowest other here (omega (arith, ne)))
        (cases_eq other k);
    first = sofar.first;
  }

  -- one part more in service, held against the lowest so far
  pub sofar_met : (k figure : ℕ) (lowest : Option Loss) (new : Loss) → InService p k → figure ≡ figure_without m p k → new ≡ lower_of lowest (record { part = k; figure = figure }) → Sofar k lowest → Sofar (k + 1) (Some new)
  sofar_met k figure None new here told e none =
      subst (λ loss. Sofar (k + 1) (Some loss)) (sym e)
      (record {
        in_service = here;
        before = omega arith;
        told = told;
        lowest = λ other in_service before. ⊎_elim
            (λ (same : other ≡ k). omega (arith, told, ap (figure_without m p) same))
            (λ ne. absurd (none other in_service (omega (arith, ne))))
            (cases_eq other k);
        first = λ other in_service before. absurd (none other in_service before);
      })
  sofar_met k figure (Some earlier) new here told e sofar =
      subst (λ loss. Sofar (k + 1) (Some loss)) (sym e)
      (cond_both (leb earlier.figure figure) earlier (record { part = k; figure = figure }) (λ loss. Sofar (k + 1) (Some loss))
      (λ stays. record {
        in_service = sofar.in_service;
        before = omega (arith, sofar.before);
        told = sofar.told;
        lowest = λ other in_service before. ⊎_elim
            (λ (same : other ≡ k). omega (arith, leb-true _ _ stays, told, ap (figure_without m p) same))
            (λ ne. sofar.lowest other in_service (omega (arith, ne)))
            (cases_eq other k);
        first = sofar.first;
      })
      (λ falls. record {
        in_service = here;
        before = omega arith;
        told = told;
        lowest = λ other in_service before. ⊎_elim
            (λ (same : other ≡ k). omega (arith, told, ap (figure_without m p) same))
            (λ ne. omega (arith, leb-false _ _ falls, sofar.lowest other in_service (omega (arith, ne))))
            (cases_eq other k);
        first = λ other in_service before. omega (arith, leb-false _ _ falls, sofar.lowest other in_service before);
      }))

  pub sofar_all : (k : ℕ) (lowest : Option Loss) → k ≡ p.order → Sofar k lowest → Names m p (option_map (λ (loss : Loss). loss.part) lowest)
  sofar_all k None all none = λ part here. none part here (omega (arith, here.known))
  sofar_all k (Some loss) all sofar = record {
    in_service = sofar.in_service;
    lowest = λ other here. omega (arith, sofar.told, sofar.lowest other here (omega (arith, here.known)));
    first = λ other here before. omega (arith, sofar.told, sofar.first other here before);
  }
