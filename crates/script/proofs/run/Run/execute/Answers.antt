use Rattle.std.proofs.Common.{length, sym, ap, ◌∙◌, rules}
use Rattle.std.proofs.lemmas.Result.{err_from_is_err_and}
use Rattle.analysis.specs.Orders.{signature_of}
use Rattle.analysis.specs.PathNumbers.{path_numbers}
use Rattle.analysis.specs.Places.{laid, laid_whole, done_or_too_few}
use Rattle.script.specs.declared.fault.Fault.TheVariants.{Station}
use Rattle.script.specs.declared.fault.StationRefusal.TheVariants.{Analysis}
use Rattle.script.specs.Language.{cuts_of, station}
use Rattle.script.specs.Runs.{progress}
use Rattle.script.specs.Stages.{is_open}
use Rattle.script.proofs.Listed.{found_room, found_none, laid_whole_lem, rows_long}
use Rattle.script.proofs.Opened.{opened_cuts, opened_signature, opened_tally}
use Rattle.script.proofs.run.Run.execute.Goals as goal

pub returns-in_err-tally-in-Open-Tally-clause-numbers : goal.returns-in_err-tally-in-Open-Tally-clause-numbers
returns-in_err-tally-in-Open-Tally-clause-numbers c =
    let same = opened_tally c.args.self.now (ap is_open c.in-Open-Tally.is-0) in
    let held = c.tally.ensures.places ∙ ap (λ l. laid_whole l c.args.numbers.now) same in
    search rules

pub returns-in_ok-tally-in-Open-Tally-clause-numbers : goal.returns-in_ok-tally-in-Open-Tally-clause-numbers
returns-in_ok-tally-in-Open-Tally-clause-numbers c =
    let same = opened_tally c.args.self.now (ap is_open c.in-Open-Tally.is-0) in
    let held = c.tally.ensures.places ∙ ap (λ l. laid_whole l c.args.numbers.now) same in
    search rules

pub returns-in_err-tally-in-Open-Tally-clause-answer : goal.returns-in_err-tally-in-Open-Tally-clause-answer
returns-in_err-tally-in-Open-Tally-clause-answer c =
    let same = opened_tally c.args.self.now (ap is_open c.in-Open-Tally.is-0) in
    let out = err_from_is_err_and c.from_residual-in_err-tally-in-Open-Tally.result c.from_residual-in_err-tally-in-Open-Tally.ensures.1 in
    let told = found_none (λ why. Station (Analysis why)) (path_numbers (station (progress c.args.self.now))) c.args.numbers.now c.in_err-tally-in-Open-Tally.field-0.0 (c.in_err-tally-in-Open-Tally.ensures.answer ∙ ap (λ k. done_or_too_few k c.args.numbers.now) (sym (rows_long _ _) ∙ ap length same)) in
    rw (out.1, out.2) (search rules)

pub returns-in_ok-tally-in-Open-Tally-clause-answer : goal.returns-in_ok-tally-in-Open-Tally-clause-answer
returns-in_ok-tally-in-Open-Tally-clause-answer c =
    let same = opened_tally c.args.self.now (ap is_open c.in-Open-Tally.is-0) in
    let held = c.tally.ensures.places ∙ ap (λ l. laid_whole l c.args.numbers.now) same in
    let told = found_room (λ why. Station (Analysis why)) (path_numbers (station (progress c.args.self.now))) c.args.numbers.now c.tally.new.places c.in_ok-tally-in-Open-Tally.field-0 (λ fits. held ∙ laid_whole_lem _ _ fits) (c.in_ok-tally-in-Open-Tally.ensures.answer ∙ ap (λ k. done_or_too_few k c.args.numbers.now) (sym (rows_long _ _) ∙ ap length same)) in
    search rules

pub returns-in_err-signature-in-Open-Signature-clause-numbers : goal.returns-in_err-signature-in-Open-Signature-clause-numbers
returns-in_err-signature-in-Open-Signature-clause-numbers c =
    let same = opened_signature c.args.self.now (ap is_open c.in-Open-Signature.is-0) in
    let held = c.signature.ensures.places ∙ ap (λ l. laid_whole l c.args.numbers.now) same in
    search rules

pub returns-in_ok-signature-in-Open-Signature-clause-numbers : goal.returns-in_ok-signature-in-Open-Signature-clause-numbers
returns-in_ok-signature-in-Open-Signature-clause-numbers c =
    let same = opened_signature c.args.self.now (ap is_open c.in-Open-Signature.is-0) in
    let held = c.signature.ensures.places ∙ ap (λ l. laid_whole l c.args.numbers.now) same in
    search rules

pub returns-in_err-signature-in-Open-Signature-clause-answer : goal.returns-in_err-signature-in-Open-Signature-clause-answer
returns-in_err-signature-in-Open-Signature-clause-answer c =
    let same = opened_signature c.args.self.now (ap is_open c.in-Open-Signature.is-0) in
    let out = err_from_is_err_and c.from_residual-in_err-signature-in-Open-Signature.result c.from_residual-in_err-signature-in-Open-Signature.ensures.1 in
    let told = found_none (λ why. Station (Analysis why)) (signature_of (station (progress c.args.self.now))) c.args.numbers.now c.in_err-signature-in-Open-Signature.field-0.0 (c.in_err-signature-in-Open-Signature.ensures.answer ∙ ap (λ k. done_or_too_few k c.args.numbers.now) (sym (rows_long _ _) ∙ ap length same)) in
    rw (out.1, out.2) (search rules)

pub returns-in_ok-signature-in-Open-Signature-clause-answer : goal.returns-in_ok-signature-in-Open-Signature-clause-answer
returns-in_ok-signature-in-Open-Signature-clause-answer c =
    let same = opened_signature c.args.self.now (ap is_open c.in-Open-Signature.is-0) in
    let held = c.signature.ensures.places ∙ ap (λ l. laid_whole l c.args.numbers.now) same in
    let told = found_room (λ why. Station (Analysis why)) (signature_of (station (progress c.args.self.now))) c.args.numbers.now c.signature.new.places c.in_ok-signature-in-Open-Signature.field-0 (λ fits. held ∙ laid_whole_lem _ _ fits) (c.in_ok-signature-in-Open-Signature.ensures.answer ∙ ap (λ k. done_or_too_few k c.args.numbers.now) (sym (rows_long _ _) ∙ ap length same)) in
    search rules

pub returns-in_err-minimal_sets-in-Open-Cuts-clause-sets : goal.returns-in_err-minimal_sets-in-Open-Cuts-clause-sets
returns-in_err-minimal_sets-in-Open-Cuts-clause-sets c =
    let same = opened_cuts c.args.self.now (ap is_open c.in-Open-Cuts.is-0) in
    let held = c.minimal_sets.ensures.places ∙ ap (λ l. laid l c.args.sets.now) same in
    search rules

pub returns-in_ok-minimal_sets-in-Open-Cuts-clause-sets : goal.returns-in_ok-minimal_sets-in-Open-Cuts-clause-sets
returns-in_ok-minimal_sets-in-Open-Cuts-clause-sets c =
    let same = opened_cuts c.args.self.now (ap is_open c.in-Open-Cuts.is-0) in
    let held = c.minimal_sets.ensures.places ∙ ap (λ l. laid l c.args.sets.now) same in
    search rules

pub returns-in_err-minimal_sets-in-Open-Cuts-clause-answer : goal.returns-in_err-minimal_sets-in-Open-Cuts-clause-answer
returns-in_err-minimal_sets-in-Open-Cuts-clause-answer c =
    let same = opened_cuts c.args.self.now (ap is_open c.in-Open-Cuts.is-0) in
    let out = err_from_is_err_and c.from_residual-in_err-minimal_sets-in-Open-Cuts.result c.from_residual-in_err-minimal_sets-in-Open-Cuts.ensures.1 in
    let told = found_none (λ why. Station (Analysis why)) (cuts_of (progress c.args.self.now)) c.args.sets.now c.in_err-minimal_sets-in-Open-Cuts.field-0.0 (c.in_err-minimal_sets-in-Open-Cuts.ensures.answer ∙ ap (λ l. done_or_too_few (length l) c.args.sets.now) same) in
    rw (out.1, out.2) (search rules)

pub returns-in_ok-minimal_sets-in-Open-Cuts-clause-answer : goal.returns-in_ok-minimal_sets-in-Open-Cuts-clause-answer
returns-in_ok-minimal_sets-in-Open-Cuts-clause-answer c =
    let same = opened_cuts c.args.self.now (ap is_open c.in-Open-Cuts.is-0) in
    let held = c.minimal_sets.ensures.places ∙ ap (λ l. laid l c.args.sets.now) same in
    let told = found_room (λ why. Station (Analysis why)) (cuts_of (progress c.args.self.now)) c.args.sets.now c.minimal_sets.new.places c.in_ok-minimal_sets-in-Open-Cuts.field-0 (λ _. held) (c.in_ok-minimal_sets-in-Open-Cuts.ensures.answer ∙ ap (λ l. done_or_too_few (length l) c.args.sets.now) same) in
    search rules
