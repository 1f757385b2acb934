-- The table of a run that is open answers as the drawing that it was filled from. Assumes nothing.
use Rattle.std.proofs.Common.{◌≡◌, ◌^◌, ◌<◌, true, subst}
use Rattle.structure.specs.Drawings.{drawing}
use Rattle.structure.specs.Meanings.{Same}
use Rattle.structure.specs.Tables.{tabled}
use Rattle.structure.specs.Monotony.{path_list_monotone}
use Rattle.analysis.specs.declared.role.Role.TheVariants.{Cut}
use Rattle.analysis.specs.Minimal.{minimal_sets}
use Rattle.analysis.specs.Orders.{signature_of}
use Rattle.analysis.specs.PathNumbers.{path_numbers}
use Rattle.analysis.proofs.Agreement.{same_minimal_sets}
use Rattle.analysis.proofs.CountAgreement.{same_path_numbers, same_signature}
use Rattle.script.specs.declared.run.Run.{Run}
use Rattle.script.specs.Language.{cuts_of, station}
use Rattle.script.specs.Runs.{progress}
use Rattle.script.specs.Stages.{is_open}

module _ (run : Run) (at_open : is_open run.stage ≡ true) where
  opened_same : Same (tabled run.opened.order.parts run.opened.words) (station (progress run))
  opened_same = record { order = run.order at_open; works = λ s h. run.works s (at_open, subst (λ n. s < 2 ^ n) (run.order at_open) h) }

  pub opened_cuts : minimal_sets Cut (tabled run.opened.order.parts run.opened.words) ≡ cuts_of (progress run)
  opened_cuts = same_minimal_sets _ _ opened_same Cut

  pub opened_tally : path_numbers (tabled run.opened.order.parts run.opened.words) ≡ path_numbers (station (progress run))
  opened_tally = same_path_numbers _ _ opened_same

  pub opened_signature : signature_of (tabled run.opened.order.parts run.opened.words) ≡ signature_of (station (progress run))
  opened_signature = same_signature _ _ opened_same run.opened.monotone (path_list_monotone (drawing run.drawn.list))
