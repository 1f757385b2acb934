use Rattle.std.proofs.Common.{sym, refl, subst}
use Rattle.sheet.specs.Rows.{with_rating}
use Rattle.sheet.specs.Sheets.{changed, rate_refused}
use Rattle.book.specs.Books.{opened, entered}
use Rattle.book.proofs.Keeping.{Kept, altered_kept}
use Rattle.book.proofs.book.Book.rate.Goals as goal

pub invariant_of-self : goal.invariant_of-self
invariant_of-self c =
    let book = c.args.self.now in
    let part = c.args.part in
    let p = (entered book).page in
    let kept = altered_kept (opened book) (rate_refused part c.args.rating p) (changed (with_rating c.args.rating) part p) (entered book) refl (record { fits = book.fits; standing = book.standing; figure = book.figure }) in
    subst (λ x. Kept (opened book) x.1) (sym c.rate.ensures) kept
