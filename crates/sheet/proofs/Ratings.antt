-- The ratings in force, read off row by row. Assumes nothing.
use Rattle.std.proofs.Math.ListN.{get_or-map}
use Rattle.std.proofs.Common.{ℕ, ◌≤◌, List, map, get_or, arith}
use Rattle.sheet.specs.declared.row.Row.{Row}
use Rattle.sheet.specs.Rows.{blank_row, rating_in_force}

pub ratings_bounded : (rows : List Row) → ((i : ℕ) → (get_or rows i blank_row).rating ≤ 65536) → (i : ℕ) → get_or (map rating_in_force rows) i 0 ≤ 65536
ratings_bounded rows bounded i = omega (arith, get_or-map rating_in_force rows i blank_row, bounded i)
