use Rattle.structure.specs.Kinds.{cut_list}
use Rattle.analysis.specs.declared.role.Role.TheVariants.{Cut}
use Rattle.analysis.specs.Minimal.{minimal_sets}
use Rattle.analysis.proofs.Duality.{cuts_work}
use Rattle.analysis.proofs.Redrawing.{made_of}
use Rattle.analysis.proofs.redraw.redraw_cuts.Goals as goal

pub returns-clause-works : goal.returns-clause-works
returns-clause-works g c =
    let m = g.S.Structure.meaning c.args.structure.now in
    (made_of (λ l. l.list) cut_list m (minimal_sets Cut m) (cuts_work m (g.met.S.Structure.monotone c.args.structure.now)) c.draw.result c.map.result c.draw.ensures c.map.ensures.cases).1
