-- The stages of a script. Assumes nothing.
use Rattle.std.specs.Prelude.{Bool, true, false}
use Rattle.script.specs.declared.stage.Stage.{Stage}
use Rattle.script.specs.declared.stage.Stage.TheVariants.{Blank, Drawing, Open}

abbrev pub is_open : Stage → Bool
is_open Blank = false
is_open Drawing = false
is_open Open = true

abbrev pub same : Stage → Stage → Bool
same Blank Blank = true
same Blank Drawing = false
same Blank Open = false
same Drawing Blank = false
same Drawing Drawing = true
same Drawing Open = false
same Open Blank = false
same Open Drawing = false
same Open Open = true
