use Rattle.structure.specs.Kinds.{path_list}
use Rattle.analysis.specs.declared.role.Role.TheVariants.{Path}
use Rattle.analysis.specs.Minimal.{minimal_sets}
use Rattle.analysis.proofs.Duality.{paths_work}
use Rattle.analysis.proofs.Redrawing.{made_of}
use Rattle.analysis.proofs.redraw.redraw_paths.Goals as goal

pub returns-clause-works : goal.returns-clause-works
returns-clause-works g c =
    let m = g.S.Structure.meaning c.args.structure.now in
    (made_of (λ l. l.list) path_list m (minimal_sets Path m) (paths_work m (g.met.S.Structure.monotone c.args.structure.now)) c.draw.result c.map.result c.draw.ensures c.map.ensures.cases).1
