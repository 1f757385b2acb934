-- The station as it stands after a history, and its figure. Assumes nothing.
use Rattle.std.specs.Prelude.{ℕ, List, map}
use Rattle.structure.specs.Layers.{hold}
use Rattle.structure.specs.Meanings.{Meaning}
use Rattle.analysis.specs.Minimal.{rising}
use Rattle.sheet.specs.Figure.{figure_of}
use Rattle.sheet.specs.Importance.{importance_of}
use Rattle.sheet.specs.Sheets.{set_of}
use Rattle.book.specs.History.{Deed, withdrawn, rating}

-- the parts withdrawn count as failed
abbrev pub standing : Meaning → List Deed → Meaning
standing m past = hold (set_of (withdrawn past) m.order) m

abbrev pub ratings : ℕ → List Deed → List ℕ
ratings n past = map (rating past) (rising 0 n)

abbrev pub figure_after : (ℕ → ℕ) → Meaning → List Deed → ℕ
figure_after round m past = figure_of round (standing m past) (ratings m.order past)

abbrev pub importance_after : (ℕ → ℕ) → Meaning → List Deed → ℕ → ℕ
importance_after round m past part = importance_of round m (set_of (withdrawn past) m.order) (ratings m.order past) part
