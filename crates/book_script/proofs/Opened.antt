-- A run that is open, with a book that has seen its past. Assumes nothing.
use Rattle.std.proofs.Common.{◌≡◌, ℕ, true, List, length, Some, None, Ok, Err, Option, Result, sym, refl, ap, ◌∙◌, subst, ap₂}
use Rattle.structure.specs.Drawings.{drawing}
use Rattle.structure.specs.Meanings.{Same}
use Rattle.structure.specs.LayersLemmas.{hold_monotone}
use Rattle.structure.specs.Monotony.{path_list_monotone}
use Rattle.analysis.specs.declared.role.Role.TheVariants.{Cut}
use Rattle.analysis.specs.Minimal.{minimal_sets}
use Rattle.analysis.specs.Orders.{signature_of}
use Rattle.analysis.specs.PathNumbers.{path_numbers}
use Rattle.analysis.specs.Places.{laid, laid_whole}
use Rattle.analysis.proofs.Agreement.{same_minimal_sets}
use Rattle.analysis.proofs.CountAgreement.{same_path_numbers, same_signature}
use Rattle.sheet.specs.declared.refusal.Refusal.{Refusal as BookRefusal}
use Rattle.sheet.specs.Sheets.{rated, priced, taken_out, put_back}
use Rattle.book.specs.declared.book.Book.{Book}
use Rattle.book.specs.declared.figure.Figure.{Figure as FigureAnswer}
use Rattle.book.specs.Answers.{Answer as BookAnswer, ruled as told_by}
use Rattle.book.specs.Books.{opened, entered, stands, book_figure}
use Rattle.book.specs.Entries.{altered, repriced}
use Rattle.book.specs.Following.{Saw, done_or}
use Rattle.book.specs.History.{Deed, Rate as rate, SetPrice as set_price, Withdraw as withdraw, PutBack as put_back_deed, verdict, next}
use Rattle.book.proofs.Following.{station_same}
use Rattle.book.proofs.Replaying.{sized, book_rated, book_priced, book_taken_out, book_put_back, book_figure_lem}
use Rattle.book_script.specs.declared.command.Command.{Command}
use Rattle.book_script.specs.declared.command.Command.TheVariants.{Rate, Price, Withdraw, PutBack, Figure, Tally, Signature, Cuts}
use Rattle.book_script.specs.declared.fault.Fault.{Fault}
use Rattle.book_script.specs.declared.fault.Fault.TheVariants.{Station}
use Rattle.book_script.specs.declared.fault.StationRefusal.TheVariants.{Book as of_book}
use Rattle.book_script.specs.declared.reply.Reply.{Reply}
use Rattle.book_script.specs.declared.reply.Reply.TheVariants.{Figure as figure_reply}
use Rattle.book_script.specs.declared.run.Run.{Run}
use Rattle.script.specs.declared.stage.Stage.TheVariants.{Open}
use Rattle.book_script.specs.Language.{Answer, Progress, silent, figure, tally, signature, cuts, called, ground, if_room, numbers_after, ruled, sets_after, station, step}
use Rattle.script.specs.Rooms.{answered, Room, room_of}
use Rattle.book_script.specs.Runs.{Executed, Inside, Stands, said, silent_or}
use Rattle.script.specs.Stages.{is_open}

-- what a script says of a book's answer to a call that only does something
abbrev spoken : BookAnswer ℕ → Result Answer Fault
spoken (Ok reply) = Ok silent
spoken (Err why) = Err (Station (of_book why))

spoken_done : (r : Result (Unit {0}) BookRefusal) (sets numbers : List ℕ) → said (silent_or r) sets numbers ≡ spoken (done_or r)
spoken_done (Ok done) sets numbers = refl
spoken_done (Err why) sets numbers = refl

-- such an answer counts no places
pub counts_none : (r : Result (Unit {0}) BookRefusal) (reply : Result Reply Fault) → reply ≡ silent_or r → (sets numbers : ℕ) → Inside reply sets numbers
counts_none (Ok done) reply told sets numbers = subst (λ x. Inside x sets numbers) (sym told) tt
counts_none (Err why) reply told sets numbers = subst (λ x. Inside x sets numbers) (sym told) tt

module _ (run : Run) (at_open : run.stage ≡ Open) (p : Progress) (stood : Stands run p) where
  -- the same, of which the stage and the drawing are the run's own
  abbrev own : Progress
  own = record { stage = Open; drawn = drawing run.drawn.list; past = p.past }

  is_own : own ≡ p
  is_own = ap₂ (λ s d. record { stage = s; drawn = d; past = p.past }) (sym at_open ∙ stood.stage) stood.drawn

  saw : Saw (ground own) p.past run.book
  saw = subst (λ (q : Progress). is_open q.stage ≡ true → Saw (ground q) q.past run.book) (sym is_own) stood.saw refl

  -- the book as a structure is the station as it stands
  same_station : Same (stands run.book) (station own)
  same_station = station_same saw (sized run.book saw) run.book.entries.sheet.whole

  same_signatures : signature_of (stands run.book) ≡ signature_of (station own)
  same_signatures =
      same_signature _ _ same_station (hold_monotone _ (opened run.book) run.book.table.monotone) (hold_monotone _ (ground own) (path_list_monotone (drawing run.drawn.list)))

  module _ (command : Command) (sets numbers : List ℕ) where
    -- ---- a call on the book

    module _ (after : Book) (same : opened after ≡ opened run.book) where
      abbrev then_run : Run
      then_run = record { stage = run.stage; drawn = run.drawn; book = after }

      module _ (r : Result (Unit {0}) BookRefusal) (reply : Result Reply Fault) (told : reply ≡ silent_or r) where
        noted_call : (made : Command) → command ≡ made → (deed : Deed) → ((room : Room) → step room made own ≡ called deed own) → sets ≡ sets_after made own sets → numbers ≡ numbers_after made own numbers → (◌≡◌ {A = BookAnswer ℕ} (done_or r) (told_by (verdict (ground own).order p.past deed))) × Saw (ground own) (next (ground own).order p.past deed) after → Executed command p sets numbers then_run reply sets numbers
        noted_call made e deed does keeps-sets keeps-numbers followed =
            subst (λ k. Executed k p sets numbers then_run reply sets numbers) (sym e) (subst (λ q. Executed made q sets numbers then_run reply sets numbers) is_own (record {
              answer = ap (λ x. said x sets numbers) told ∙ spoken_done r sets numbers ∙ ap spoken followed.0 ∙ by_verdict (verdict (ground own).order p.past deed) ∙ ap (λ x. x.0) (sym (does (room_of sets numbers)));
              stands = subst (Stands then_run) (ap (λ x. x.1) (sym (does (room_of sets numbers)))) (record { stage = at_open; drawn = refl; saw = λ _. followed.1 });
              sets = keeps-sets;
              numbers = keeps-numbers;
            }))
          where
            by_verdict : (why : Option BookRefusal) → spoken (told_by why) ≡ ruled why
            by_verdict None = refl
            by_verdict (Some why) = refl

        pub rate_executed : (part new : ℕ) → command ≡ Rate part new → (r, entered after) ≡ altered (rated part new (entered run.book).page) (entered run.book) → Executed command p sets numbers then_run reply sets numbers
        rate_executed part new e is = noted_call (Rate part new) e (rate part new) (λ _. refl) refl refl (book_rated run.book saw after r (done_or r) same refl part new is)

        pub price_executed : (part new : ℕ) → command ≡ Price part new → (r, entered after) ≡ repriced (priced part new (entered run.book).page) (entered run.book) → Executed command p sets numbers then_run reply sets numbers
        price_executed part new e is = noted_call (Price part new) e (set_price part new) (λ _. refl) refl refl (book_priced run.book saw after r (done_or r) same refl part new is)

        pub withdraw_executed : (part : ℕ) → command ≡ Withdraw part → (r, entered after) ≡ altered (taken_out part (entered run.book).page) (entered run.book) → Executed command p sets numbers then_run reply sets numbers
        withdraw_executed part e is = noted_call (Withdraw part) e (withdraw part) (λ _. refl) refl refl (book_taken_out run.book saw after r (done_or r) same refl part is)

        pub put_back_executed : (part : ℕ) → command ≡ PutBack part → (r, entered after) ≡ altered (put_back part (entered run.book).page) (entered run.book) → Executed command p sets numbers then_run reply sets numbers
        put_back_executed part e is = noted_call (PutBack part) e (put_back_deed part) (λ _. refl) refl refl (book_put_back run.book saw after r (done_or r) same refl part is)

      pub figure_executed : command ≡ Figure → (f : FigureAnswer) → (f, entered after) ≡ book_figure (opened run.book) (entered run.book) → Executed command p sets numbers then_run (Ok (figure_reply f)) sets numbers
      figure_executed e f is =
          let followed = book_figure_lem run.book saw after f same is in
          subst (λ k. Executed k p sets numbers then_run (Ok (figure_reply f)) sets numbers) (sym e) (subst (λ q. Executed Figure q sets numbers then_run (Ok (figure_reply f)) sets numbers) is_own (record {
            answer = ap (λ g. Ok (figure g)) followed.0;
            stands = record { stage = at_open; drawn = refl; saw = λ _. followed.1 };
            sets = refl;
            numbers = refl;
          }))

    -- ---- a question about the station as it stands

    module _ (left : List ℕ) (reply : Result Reply Fault) where
      still : Stands run own
      still = record { stage = at_open; drawn = refl; saw = λ _. saw }

      pub tally_executed : command ≡ Tally → said reply sets left ≡ answered tally (if_room (length numbers) (path_numbers (stands run.book))) → left ≡ laid_whole (path_numbers (stands run.book)) numbers → Executed command p sets numbers run reply sets left
      tally_executed e told places =
          let same = same_path_numbers _ _ same_station in
          subst (λ k. Executed k p sets numbers run reply sets left) (sym e) (subst (λ q. Executed Tally q sets numbers run reply sets left) is_own (record {
            answer = told ∙ ap (λ l. answered tally (if_room (length numbers) l)) same;
            stands = still;
            sets = refl;
            numbers = places ∙ ap (λ l. laid_whole l numbers) same;
          }))

      pub signature_executed : command ≡ Signature → said reply sets left ≡ answered signature (if_room (length numbers) (signature_of (stands run.book))) → left ≡ laid_whole (signature_of (stands run.book)) numbers → Executed command p sets numbers run reply sets left
      signature_executed e told places =
          subst (λ k. Executed k p sets numbers run reply sets left) (sym e) (subst (λ q. Executed Signature q sets numbers run reply sets left) is_own (record {
            answer = told ∙ ap (λ l. answered signature (if_room (length numbers) l)) same_signatures;
            stands = still;
            sets = refl;
            numbers = places ∙ ap (λ l. laid_whole l numbers) same_signatures;
          }))

      pub cuts_executed : command ≡ Cuts → said reply left numbers ≡ answered cuts (if_room (length sets) (minimal_sets Cut (stands run.book))) → left ≡ laid (minimal_sets Cut (stands run.book)) sets → Executed command p sets numbers run reply left numbers
      cuts_executed e told places =
          let same = same_minimal_sets _ _ same_station Cut in
          subst (λ k. Executed k p sets numbers run reply left numbers) (sym e) (subst (λ q. Executed Cuts q sets numbers run reply left numbers) is_own (record {
            answer = told ∙ ap (λ l. answered cuts (if_room (length sets) l)) same;
            stands = still;
            sets = places ∙ ap (λ l. laid l sets) same;
            numbers = refl;
          }))
