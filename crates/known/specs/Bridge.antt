-- What is known of the bridge. Assumes nothing.
use Rattle.std.specs.Prelude.{◌≡◌, [], ◌∷◌, map, replicate, Some}
use Rattle.analysis.specs.declared.role.Role.TheVariants.{Cut}
use Rattle.analysis.specs.Minimal.{minimal_sets, rising}
use Rattle.analysis.specs.Orders.{signature_of}
use Rattle.analysis.specs.PathNumbers.{path_numbers}
use Rattle.analysis.specs.Swings.{swing_of}
use Rattle.sheet.specs.Cheapest.{cheapest_of}
use Rattle.sheet.specs.Figure.{figure_of, floor}
use Rattle.known.specs.Stations.{bridge}

pub record BridgeKnown : Type 0 where
  -- of the states with two parts working two work, with three parts eight, with four five, with all one
  pub tally : path_numbers bridge ≡ 0 ∷ 0 ∷ 2 ∷ 8 ∷ 5 ∷ 1 ∷ []
  -- of the 120 orders in which the parts can fail, by the failure with which the station fails
  pub signature : signature_of bridge ≡ 0 ∷ 0 ∷ 24 ∷ 72 ∷ 24 ∷ 0 ∷ 0 ∷ []
  -- {0, 1}, {1, 2, 3}, {0, 2, 4} and {3, 4}
  pub minimal_cuts : minimal_sets Cut bridge ≡ 3 ∷ 14 ∷ 21 ∷ 24 ∷ []
  -- part 2, across, decides least often
  pub swings : map (swing_of bridge) (rising 0 5) ≡ 6 ∷ 6 ∷ 2 ∷ 6 ∷ 6 ∷ []
  -- with every part as likely to work as not, it works in half of all cases
  pub figure : figure_of floor bridge (replicate 5 32768) ≡ 2147483648
  -- the path {1, 2, 3}: of the others, {0, 3} and {1, 4} cost 10, and {0, 2, 4} 15
  pub cheapest : cheapest_of bridge (5 ∷ 1 ∷ 1 ∷ 5 ∷ 9 ∷ []) ≡ Some 7
