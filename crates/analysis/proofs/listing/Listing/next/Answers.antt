use Rattle.std.proofs.Common.{◌≡◌, ℕ, ◌-◌, ◌%◌, ◌^◌, ◌≤◌, true, false, [], Some, None, Option, sym, ap, ◌∙◌, subst, tests, rules, arith}
use Rattle.std.specs.List.{filter}
use Rattle.std.proofs.lemmas.Iterator.{first_from_Range}
use Rattle.structure.specs.Digits.{states_fit}
use Rattle.analysis.specs.Listing.{first, others}
use Rattle.analysis.specs.Minimal.{minimal}
use Rattle.analysis.proofs.Bounds.{states_shifted}
use Rattle.analysis.proofs.Listings.{Found, found}
use Rattle.analysis.proofs.Rising.{up_end}
use Rattle.analysis.proofs.listing.Listing.next.Given as given
use Rattle.analysis.proofs.listing.Listing.next.Goals as goal
use Rattle.analysis.proofs.listing.Listing.next.Goals.{After-find}

-- what the search says of the sets to come
abbrev Told : (g : given.Over) → After-find g → Option ℕ → Type 0
Told g c =
    let l = c.args.self.now in
    let m = g.S.Structure.meaning c.args.structure.now in
    Found (minimal l.role m) m.order l.next

told : (g : given.Over) (c : After-find g) (r : Option ℕ) → c.find.result ≡ r → Told g c r
told g c r was =
    let l = c.args.self.now in
    let m = g.S.Structure.meaning c.args.structure.now in
    let test = minimal l.role m in
    let end = states_shifted _ m.order c.order.ensures (g.met.S.Structure.sized c.args.structure.now).1 in
    subst (Told g c) was
    (found test m.order l.next _ c.find.result end
    (first_from_Range _ _ _ c.find.result (λ x. test (x % 2 ^ m.order) ≡ true) (λ x. test (x % 2 ^ m.order) ≡ false) c.find.ensures.ran (λ x q k. search (rules, tests)) (λ x q k. search (rules, tests))))

pub returns-in_default-clause-item : goal.returns-in_default-clause-item
returns-in_default-clause-item g c =
    sym (ap first (told g (goal.at.returns-in_default-clause-item g c).After-find None c.in_default.is))

-- nothing was ahead, and nothing is from the end on
pub returns-in_default-clause-rest : goal.returns-in_default-clause-rest
returns-in_default-clause-rest g c =
    let m = g.S.Structure.meaning c.args.structure.now in
    let end = states_shifted _ m.order c.order.ensures (g.met.S.Structure.sized c.args.structure.now).1 in
    let past : 2 ^ m.order ≤ c.max-self.result = omega (arith, end, c.max-self.ensures) in
    ap (filter (minimal c.args.self.now.role m)) (up_end (2 ^ m.order) c.max-self.result past)
    ∙ sym (ap others (told g (goal.at.returns-in_default-clause-rest g c).After-find None c.in_default.is))

pub overflow_add-self : goal.overflow_add-self
overflow_add-self g c =
    let m = g.S.Structure.meaning c.args.structure.now in
    let at = told g (goal.at.overflow_add-self g c).After-find (Some c.in-Some.set) c.in-Some.is in
    omega (arith, at.0, states_fit m.order (g.met.S.Structure.sized c.args.structure.now).1)

pub overflow_cast-result : goal.overflow_cast-result
overflow_cast-result g c =
    let m = g.S.Structure.meaning c.args.structure.now in
    let at = told g (goal.at.overflow_cast-result g c).After-find (Some c.in-Some.set) c.in-Some.is in
    omega (arith, at.0, states_fit m.order (g.met.S.Structure.sized c.args.structure.now).1)

pub returns-clause-item : goal.returns-clause-item
returns-clause-item g c =
    sym (ap first (told g (goal.at.returns-clause-item g c).After-find (Some c.in-Some.set) c.in-Some.is).1)

pub returns-clause-rest : goal.returns-clause-rest
returns-clause-rest g c =
    sym (ap others (told g (goal.at.returns-clause-rest g c).After-find (Some c.in-Some.set) c.in-Some.is).1)
