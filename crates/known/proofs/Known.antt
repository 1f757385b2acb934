-- The known stations, each shown by computing its definitions. Assumes nothing.
use Rattle.std.proofs.Common.{◌≡◌, ℕ, min, List, [], ◌∷◌, map, replicate, Some, refl, ap, arith}
use Rattle.structure.specs.States.{digit, reversed, size}
use Rattle.analysis.specs.declared.role.Role.TheVariants.{Cut}
use Rattle.analysis.specs.Minimal.{minimal_sets, rising}
use Rattle.analysis.specs.Orders.{signature_of}
use Rattle.analysis.specs.PathNumbers.{path_numbers}
use Rattle.analysis.specs.Swings.{swing_of}
use Rattle.sheet.specs.Cheapest.{cheapest_of}
use Rattle.sheet.specs.Figure.{figure_of, floor}
use Rattle.known.specs.Known.{KnownStations}
use Rattle.known.specs.Stations.{bridge, two_of_two, three_of_three, no_cut}

path_numbers_lem : path_numbers bridge ≡ 0 ∷ 0 ∷ 2 ∷ 8 ∷ 5 ∷ 1 ∷ []
unfolding size digit
path_numbers_lem = refl

signature : signature_of bridge ≡ 0 ∷ 0 ∷ 24 ∷ 72 ∷ 24 ∷ 0 ∷ 0 ∷ []
signature = refl

minimal_cuts : minimal_sets Cut bridge ≡ 3 ∷ 14 ∷ 21 ∷ 24 ∷ []
unfolding digit reversed
minimal_cuts = refl

swings : map (swing_of bridge) (rising 0 5) ≡ 6 ∷ 6 ∷ 2 ∷ 6 ∷ 6 ∷ []
unfolding digit
swings = refl

figure : figure_of floor bridge (replicate 5 32768) ≡ 2147483648
figure = refl

cheapest : cheapest_of bridge (5 ∷ 1 ∷ 1 ∷ 5 ∷ 9 ∷ []) ≡ Some 7
unfolding digit
cheapest = refl

two_of_two_lem : figure_of floor two_of_two (replicate 2 1) ≡ 1
unfolding size digit
two_of_two_lem = refl

three_of_three_lem : figure_of floor three_of_three (replicate 3 1) ≡ 0
unfolding size digit
three_of_three_lem = refl

none_less : (x : ℕ) → min 0 x ≡ 0
none_less x = omega arith

no_cut_cheapest : (prices : List ℕ) → cheapest_of no_cut prices ≡ Some 0
unfolding digit
no_cut_cheapest prices = ap (λ (x : ℕ). Some x) (none_less _)

pub known_stations : KnownStations
known_stations = record {
  bridge = record { tally = path_numbers_lem; signature = signature; minimal_cuts = minimal_cuts; swings = swings; figure = figure; cheapest = cheapest };
  both_of_two = two_of_two_lem;
  all_of_three = three_of_three_lem;
  single = refl;
  no_path_signature = refl;
  no_path_cheapest = λ prices. refl;
  no_cut_signature = refl;
  no_cut_cheapest = no_cut_cheapest;
}
