use Rattle.std.proofs.Common.{rules}
use Rattle.book.proofs.Comparing.{comparison_made}
use Rattle.book.proofs.compare.compare.Goals as goal

pub returns-clause-comparison : goal.returns-clause-comparison
returns-clause-comparison g c =
    comparison_made g.W.Weight _ _ _ _ _ _ _ _ _ _ _ _ _ (g.met.T.Structure.monotone c.args.second.now.structure.now) (search rules) c.replay_all.ensures (search rules)
