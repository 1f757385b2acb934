-- Small stations whose figures are known. Assumes nothing.
use Rattle.std.specs.Prelude.{[], ◌∷◌}
use Rattle.structure.specs.Drawings.{Drawing}
use Rattle.structure.specs.Kinds.{path_list, cut_list, k_out_of_n}
use Rattle.structure.specs.Meanings.{Meaning}

-- five parts: {0, 3} or {1, 4} in a row, or across by part 2: {0, 2, 4} or {1, 2, 3}
abbrev pub bridge_drawing : Drawing
bridge_drawing = record { order = 5; sets = 9 ∷ 18 ∷ 21 ∷ 14 ∷ [] }

abbrev pub bridge : Meaning
bridge = path_list bridge_drawing

-- both of two parts, all of three parts
abbrev pub two_of_two : Meaning
two_of_two = k_out_of_n 2 2

abbrev pub three_of_three : Meaning
three_of_three = k_out_of_n 3 3

-- one part, which is the station
abbrev pub single : Meaning
single = path_list (record { order = 1; sets = 1 ∷ [] })

-- two parts and no path: never works
abbrev pub no_path : Meaning
no_path = path_list (record { order = 2; sets = [] })

-- two parts and no cut: always works
abbrev pub no_cut : Meaning
no_cut = cut_list (record { order = 2; sets = [] })
