use Rattle.book.proofs.Playing.{Playing}
use Rattle.book.proofs.plan.Plan.replay_all.Given as goal

abbrev pub invariant-loop-place : goal.invariant-loop-place
invariant-loop-place g l = Playing g.W.Weight l.self.calls.now l.initial.book l.initial.slots l.initial.answers l.place l.book l.slots l.answers
