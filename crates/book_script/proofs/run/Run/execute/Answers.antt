use Rattle.std.proofs.Common.{◌≡◌, sym, ap, ◌∙◌, rules}
use Rattle.std.proofs.lemmas.Result.{err_from_is_err_and}
use Rattle.analysis.specs.declared.role.Role.TheVariants.{Cut}
use Rattle.analysis.specs.Minimal.{minimal_sets}
use Rattle.analysis.specs.Orders.{signature_of}
use Rattle.analysis.specs.PathNumbers.{path_numbers}
use Rattle.analysis.specs.Places.{done_or_too_few}
use Rattle.script.specs.Rooms.{answered}
use Rattle.script.proofs.Listed.{found_room, found_none, laid_whole_lem, rows_long}
use Rattle.book_script.specs.declared.fault.Fault.TheVariants.{Station}
use Rattle.book_script.specs.declared.fault.StationRefusal.TheVariants.{Analysis}
use Rattle.book_script.specs.Language.{cuts, signature, tally}
use Rattle.sheet.specs.Sheets.{rated, priced, taken_out, put_back}
use Rattle.book.specs.Books.{opened, entered, stands, book_figure}
use Rattle.book.specs.Entries.{altered, repriced}
use Rattle.book_script.proofs.Opened.{counts_none, rate_executed, price_executed, withdraw_executed, put_back_executed, figure_executed, tally_executed, signature_executed, cuts_executed}
use Rattle.book_script.proofs.run.Run.execute.Goals as goal

pub returns-in-Open-Rate : goal.returns-in-Open-Rate
returns-in-Open-Rate c = record {
  executed = λ p stood.
      let was = entered c.args.self.now.book in
      let is : (c.rate.result, entered c.rate.new.self) ≡ altered (rated c.in-Open-Rate.part c.in-Open-Rate.rating was.page) was = search rules in
      rate_executed c.args.self.now c.in-Open-Rate.is-0 p stood c.args.command c.args.sets.now c.args.numbers.now c.rate.new.self c.rate.ensures.opened
      c.rate.result c.done.result c.done.ensures c.in-Open-Rate.part c.in-Open-Rate.rating c.in-Open-Rate.is-1 is;
  within = counts_none c.rate.result c.done.result c.done.ensures _ _;
}

pub returns-in-Open-Price : goal.returns-in-Open-Price
returns-in-Open-Price c = record {
  executed = λ p stood.
      let was = entered c.args.self.now.book in
      let is : (c.price.result, entered c.price.new.self) ≡ repriced (priced c.in-Open-Price.part c.in-Open-Price.price was.page) was = search rules in
      price_executed c.args.self.now c.in-Open-Price.is-0 p stood c.args.command c.args.sets.now c.args.numbers.now c.price.new.self c.price.ensures.opened
      c.price.result c.done-in-Open-Price.result c.done-in-Open-Price.ensures c.in-Open-Price.part c.in-Open-Price.price c.in-Open-Price.is-1 is;
  within = counts_none c.price.result c.done-in-Open-Price.result c.done-in-Open-Price.ensures _ _;
}

pub returns-in-Open-Withdraw : goal.returns-in-Open-Withdraw
returns-in-Open-Withdraw c = record {
  executed = λ p stood.
      let was = entered c.args.self.now.book in
      let is : (c.withdraw.result, entered c.withdraw.new.self) ≡ altered (taken_out c.in-Open-Withdraw.part was.page) was = search rules in
      withdraw_executed c.args.self.now c.in-Open-Withdraw.is-0 p stood c.args.command c.args.sets.now c.args.numbers.now c.withdraw.new.self c.withdraw.ensures.opened
      c.withdraw.result c.done-in-Open-Withdraw.result c.done-in-Open-Withdraw.ensures c.in-Open-Withdraw.part c.in-Open-Withdraw.is-1 is;
  within = counts_none c.withdraw.result c.done-in-Open-Withdraw.result c.done-in-Open-Withdraw.ensures _ _;
}

pub returns-in-Open-PutBack : goal.returns-in-Open-PutBack
returns-in-Open-PutBack c = record {
  executed = λ p stood.
      let was = entered c.args.self.now.book in
      let is : (c.put_back.result, entered c.put_back.new.self) ≡ altered (put_back c.in-Open-PutBack.part was.page) was = search rules in
      put_back_executed c.args.self.now c.in-Open-PutBack.is-0 p stood c.args.command c.args.sets.now c.args.numbers.now c.put_back.new.self c.put_back.ensures.opened
      c.put_back.result c.done-in-Open-PutBack.result c.done-in-Open-PutBack.ensures c.in-Open-PutBack.part c.in-Open-PutBack.is-1 is;
  within = counts_none c.put_back.result c.done-in-Open-PutBack.result c.done-in-Open-PutBack.ensures _ _;
}

pub returns-in-Open-Figure : goal.returns-in-Open-Figure
returns-in-Open-Figure c = record {
  executed = λ p stood.
      let was = c.args.self.now.book in
      let is : (c.figure.result, entered c.figure.new.self) ≡ book_figure (opened was) (entered was) = search rules in
      figure_executed c.args.self.now c.in-Open-Figure.is-0 p stood c.args.command c.args.sets.now c.args.numbers.now c.figure.new.self c.figure.ensures.opened
      c.in-Open-Figure.is-1 c.figure.result is;
  within = tt;
}

pub returns-in_err-tally-in-Open-Tally : goal.returns-in_err-tally-in-Open-Tally
returns-in_err-tally-in-Open-Tally c =
    let out = err_from_is_err_and c.from_residual-in_err-tally-in-Open-Tally.result c.from_residual-in_err-tally-in-Open-Tally.ensures.1 in
    let told = found_none (λ why. Station (Analysis why)) (path_numbers (stands c.args.self.now.book)) c.args.numbers.now c.in_err-tally-in-Open-Tally.field-0.0 (c.in_err-tally-in-Open-Tally.ensures.answer ∙ ap (λ k. done_or_too_few k c.args.numbers.now) (sym (rows_long _ _))) in
    rw (out.1, out.2) (record {
      executed = λ p stood.
          tally_executed c.args.self.now c.in-Open-Tally.is-0 p stood c.args.command c.args.sets.now c.args.numbers.now c.tally.new.places _
          c.in-Open-Tally.is-1 (ap (answered tally) told) c.tally.ensures.places;
      within = tt;
    })

pub returns-in_ok-tally-in-Open-Tally : goal.returns-in_ok-tally-in-Open-Tally
returns-in_ok-tally-in-Open-Tally c =
    let told = found_room (λ why. Station (Analysis why)) (path_numbers (stands c.args.self.now.book)) c.args.numbers.now c.tally.new.places c.in_ok-tally-in-Open-Tally.field-0 (λ fits. c.tally.ensures.places ∙ laid_whole_lem _ _ fits) (c.in_ok-tally-in-Open-Tally.ensures.answer ∙ ap (λ k. done_or_too_few k c.args.numbers.now) (sym (rows_long _ _))) in
    record {
      executed = λ p stood.
          tally_executed c.args.self.now c.in-Open-Tally.is-0 p stood c.args.command c.args.sets.now c.args.numbers.now c.tally.new.places _
          c.in-Open-Tally.is-1 (ap (answered tally) told.0) c.tally.ensures.places;
      within = told.1;
    }

pub returns-in_err-signature-in-Open-Signature : goal.returns-in_err-signature-in-Open-Signature
returns-in_err-signature-in-Open-Signature c =
    let out = err_from_is_err_and c.from_residual-in_err-signature-in-Open-Signature.result c.from_residual-in_err-signature-in-Open-Signature.ensures.1 in
    let told = found_none (λ why. Station (Analysis why)) (signature_of (stands c.args.self.now.book)) c.args.numbers.now c.in_err-signature-in-Open-Signature.field-0.0 (c.in_err-signature-in-Open-Signature.ensures.answer ∙ ap (λ k. done_or_too_few k c.args.numbers.now) (sym (rows_long _ _))) in
    rw (out.1, out.2) (record {
      executed = λ p stood.
          signature_executed c.args.self.now c.in-Open-Signature.is-0 p stood c.args.command c.args.sets.now c.args.numbers.now c.signature.new.places _
          c.in-Open-Signature.is-1 (ap (answered signature) told) c.signature.ensures.places;
      within = tt;
    })

pub returns-in_ok-signature-in-Open-Signature : goal.returns-in_ok-signature-in-Open-Signature
returns-in_ok-signature-in-Open-Signature c =
    let told = found_room (λ why. Station (Analysis why)) (signature_of (stands c.args.self.now.book)) c.args.numbers.now c.signature.new.places c.in_ok-signature-in-Open-Signature.field-0 (λ fits. c.signature.ensures.places ∙ laid_whole_lem _ _ fits) (c.in_ok-signature-in-Open-Signature.ensures.answer ∙ ap (λ k. done_or_too_few k c.args.numbers.now) (sym (rows_long _ _))) in
    record {
      executed = λ p stood.
          signature_executed c.args.self.now c.in-Open-Signature.is-0 p stood c.args.command c.args.sets.now c.args.numbers.now c.signature.new.places _
          c.in-Open-Signature.is-1 (ap (answered signature) told.0) c.signature.ensures.places;
      within = told.1;
    }

pub returns-in_err-minimal_sets-in-Open-Cuts : goal.returns-in_err-minimal_sets-in-Open-Cuts
returns-in_err-minimal_sets-in-Open-Cuts c =
    let out = err_from_is_err_and c.from_residual-in_err-minimal_sets-in-Open-Cuts.result c.from_residual-in_err-minimal_sets-in-Open-Cuts.ensures.1 in
    let told = found_none (λ why. Station (Analysis why)) (minimal_sets Cut (stands c.args.self.now.book)) c.args.sets.now c.in_err-minimal_sets-in-Open-Cuts.field-0.0 c.in_err-minimal_sets-in-Open-Cuts.ensures.answer in
    rw (out.1, out.2) (record {
      executed = λ p stood.
          cuts_executed c.args.self.now c.in-Open-Cuts.is-0 p stood c.args.command c.args.sets.now c.args.numbers.now c.minimal_sets.new.places _
          c.in-Open-Cuts.is-1 (ap (answered cuts) told) c.minimal_sets.ensures.places;
      within = tt;
    })

pub returns-in_ok-minimal_sets-in-Open-Cuts : goal.returns-in_ok-minimal_sets-in-Open-Cuts
returns-in_ok-minimal_sets-in-Open-Cuts c =
    let told = found_room (λ why. Station (Analysis why)) (minimal_sets Cut (stands c.args.self.now.book)) c.args.sets.now c.minimal_sets.new.places c.in_ok-minimal_sets-in-Open-Cuts.field-0 (λ _. c.minimal_sets.ensures.places) c.in_ok-minimal_sets-in-Open-Cuts.ensures.answer in
    record {
      executed = λ p stood.
          cuts_executed c.args.self.now c.in-Open-Cuts.is-0 p stood c.args.command c.args.sets.now c.args.numbers.now c.minimal_sets.new.places _
          c.in-Open-Cuts.is-1 (ap (answered cuts) told.0) c.minimal_sets.ensures.places;
      within = told.1;
    }
