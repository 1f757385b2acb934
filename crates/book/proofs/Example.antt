-- That the premise of the comparison can be met. Assumes nothing.
use Rattle.std.proofs.Common.{◌≡◌, ℕ, zero, suc, ◌<◌, ◌≤◌, true, sym, refl, arith}
use Rattle.std.proofs.lemmas.Bool.{both_ways}
use Rattle.structure.specs.States.{digit, cleared, size}
use Rattle.book.specs.Answers.{past_at}
use Rattle.book.specs.Example.{PremiseMet, both, either, both_calls, either_calls}
use Rattle.book.specs.History.{rating}
use Rattle.book.specs.Standing.{standing}

works_too : (s : ℕ) → s < 4 → (standing both (past_at 2 both_calls 3)).works s ≡ true → (standing either (past_at 2 either_calls 3)).works s ≡ true
unfolding digit cleared size
works_too zero h e = absurd (both_ways true (sym e) refl)
works_too (suc zero) h e = absurd (both_ways true (sym e) refl)
works_too (suc (suc zero)) h e = refl
works_too (suc (suc (suc zero))) h e = refl
works_too (suc (suc (suc (suc s)))) h e = absurd (omega (arith, h))

rated_higher : (part : ℕ) → part < 2 → rating (past_at 2 both_calls 3) part ≤ rating (past_at 2 either_calls 3) part
rated_higher zero h = omega arith
rated_higher (suc zero) h = omega arith
rated_higher (suc (suc part)) h = absurd (omega (arith, h))

pub premise_met : PremiseMet
unfolding digit cleared size
premise_met = record { better = record { order = refl; works = works_too }; higher = rated_higher; first = refl; second = refl }
