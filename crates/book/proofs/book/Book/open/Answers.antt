use Rattle.std.proofs.Common.{sym, ap, ◌∙◌, rules}
use Rattle.sheet.specs.Sheets.{failed_parts}
use Rattle.book.proofs.Keeping.{none_held, blank_failed}
use Rattle.book.proofs.book.Book.open.Goals as goal

pub invariant_of-result : goal.invariant_of-result
invariant_of-result g c = record {
  fits = c.fill.ensures.order ∙ sym (ap (λ p. p.order) c.of.ensures);
  standing = sym (ap failed_parts c.of.ensures ∙ blank_failed _);
  figure = λ units e. none_held units (search rules);
}
