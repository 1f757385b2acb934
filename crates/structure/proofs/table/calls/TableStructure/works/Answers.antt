use Rattle.std.proofs.Common.{rules}
use Rattle.structure.specs.States.{digit}
use Rattle.structure.specs.Tables.{entry}
use Rattle.structure.proofs.table.calls.TableStructure.works.Goals as goal

pub returns : goal.returns
unfolding entry digit
returns c = search rules
