-- The known stations, in one statement. Assumes nothing.
use Rattle.std.specs.Prelude.{◌≡◌, ℕ, List, [], ◌∷◌, replicate, Some, None}
use Rattle.analysis.specs.Orders.{signature_of}
use Rattle.sheet.specs.Cheapest.{cheapest_of}
use Rattle.sheet.specs.Figure.{figure_of, floor}
use Rattle.known.specs.Bridge.{BridgeKnown}
use Rattle.known.specs.Stations.{two_of_two, three_of_three, single, no_path, no_cut}

pub record KnownStations : Type 0 where
  pub bridge : BridgeKnown
  -- all rated 1 in 65,536: two parts have the least figure above nothing, three are rounded to nothing
  pub both_of_two : figure_of floor two_of_two (replicate 2 1) ≡ 1
  pub all_of_three : figure_of floor three_of_three (replicate 3 1) ≡ 0
  -- a part that never fails
  pub single : figure_of floor single (65536 ∷ []) ≡ 4294967296
  -- in both orders it never worked
  pub no_path_signature : signature_of no_path ≡ 2 ∷ 0 ∷ 0 ∷ 0 ∷ []
  pub no_path_cheapest : (prices : List ℕ) → cheapest_of no_path prices ≡ None
  -- it outlives both orders
  pub no_cut_signature : signature_of no_cut ≡ 0 ∷ 0 ∷ 0 ∷ 2 ∷ []
  -- no part need work, whatever the prices
  pub no_cut_cheapest : (prices : List ℕ) → cheapest_of no_cut prices ≡ Some 0
