use Rattle.std.proofs.Common.{sym, refl, subst}
use Rattle.sheet.specs.Rows.{with_price}
use Rattle.sheet.specs.Sheets.{changed, price_refused}
use Rattle.book.specs.Books.{opened, entered}
use Rattle.book.proofs.Keeping.{Kept, repriced_kept, marks_unread, figure_unread}
use Rattle.book.proofs.book.Book.price.Goals as goal

pub invariant_of-self : goal.invariant_of-self
invariant_of-self c =
    let book = c.args.self.now in
    let part = c.args.part in
    let p = (entered book).page in
    let change = with_price c.args.price in
    let kept = repriced_kept (opened book) (price_refused part c.args.price p) (changed change part p) (entered book) refl
    (marks_unread change (λ row. refl) part p) (figure_unread (opened book) change (λ row. refl) (λ row. refl) part p)
    (record { fits = book.fits; standing = book.standing; figure = book.figure }) in
    subst (λ x. Kept (opened book) x.1) (sym c.price.ensures) kept
