use Rattle.std.proofs.Common.{◌≡◌, rules}
use Rattle.book.proofs.entries.Entries.alter.Goals as goal

pub returns-in_err-change-clause-changed : goal.returns-in_err-change-clause-changed
returns-in_err-change-clause-changed g c =
    let same : c.from_residual.result ≡ c.change.result = search rules in
    rw same (search rules)
