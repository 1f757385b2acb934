use Rattle.std.proofs.Common.{◌≡◌, ℕ, ◌≤◌, List, map, get_or, sym, subst, rules}
use Rattle.sheet.specs.Rows.{blank_row, rating_in_force}
use Rattle.sheet.proofs.ArrayMaps.{made_same}
use Rattle.sheet.proofs.Ratings.{ratings_bounded}
use Rattle.sheet.proofs.sheet.Sheet.ratings.Goals as goal

pub returns : goal.returns
returns c =
    let rows = c.args.self.now.rows in
    let all : c.from_fn.result ≡ map rating_in_force rows = made_same _ rating_in_force _ rows _ 16 blank_row (λ i y q lt e. (search rules, search rules)) c.args.self.now.whole c.from_fn.ensures.items in
    record {
      value = all;
      bounded = subst (λ (l : List ℕ). (i : ℕ) → get_or l i 0 ≤ 65536) (sym all) (ratings_bounded rows c.args.self.now.bounded);
    }
