use Rattle.std.proofs.Common.{rules}
use Rattle.sheet.specs.declared.row.Row.{Row}
use Rattle.sheet.specs.Rows.{blank_row}
use Rattle.sheet.proofs.ArrayMaps.{made_same}
use Rattle.sheet.proofs.sheet.Sheet.prices.Goals as goal

pub returns : goal.returns
returns c =
    made_same _ (λ (row : Row). row.price) _ c.args.self.now.rows _ 16 blank_row (λ i y q lt e. (search rules, search rules)) c.args.self.now.whole c.from_fn.ensures.items
