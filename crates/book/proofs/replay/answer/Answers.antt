use Rattle.std.proofs.Common.{◌≡◌, Ok, rules}
use Rattle.analysis.specs.Weighed.{weighed}
use Rattle.book.specs.declared.answer.Reply.TheVariants.{Weighed}
use Rattle.book.specs.Answers.{weighed_unless, weigh_refused_with}
use Rattle.book.specs.Books.{stands}
use Rattle.book.proofs.LentSlots.{lent_spared}
use Rattle.book.proofs.Replaying.{book_rated, book_priced, book_figure_lem, book_importance_lem, book_weighed, importance_said}
use Rattle.book.proofs.replay.answer.Goals as goal

pub returns-in-Rate-clause-follows : goal.returns-in-Rate-clause-follows
returns-in-Rate-clause-follows g c m past saw =
    let told = book_rated c.args.book.now saw c.rate.new.self c.rate.result c.done.result c.rate.ensures.opened c.done.ensures c.in-Rate.part c.in-Rate.rating c.rate.ensures.entered in
    search rules

pub returns-in-Price-clause-follows : goal.returns-in-Price-clause-follows
returns-in-Price-clause-follows g c m past saw =
    let told = book_priced c.args.book.now saw c.price.new.self c.price.result c.done-in-Price.result c.price.ensures.opened c.done-in-Price.ensures c.in-Price.part c.in-Price.price c.price.ensures.entered in
    search rules

pub returns-in-Figure-clause-follows : goal.returns-in-Figure-clause-follows
returns-in-Figure-clause-follows g c m past saw =
    let told = book_figure_lem c.args.book.now saw c.figure.new.self c.figure.result c.figure.ensures.opened c.figure.ensures.entered in
    search rules

pub returns-in-Importance-clause-follows : goal.returns-in-Importance-clause-follows
returns-in-Importance-clause-follows g c m past saw =
    let told = book_importance_lem c.args.book.now saw {W = g.row.W.Denot} c.in-Importance.part in
    let said : c.map.result ≡ importance_said c.importance.result = search rules in
    search rules

pub returns-in_ok-weigh-in-Weigh-clause-spared : goal.returns-in_ok-weigh-in-Weigh-clause-spared
returns-in_ok-weigh-in-Weigh-clause-spared g c =
    lent_spared g.W.Weight _ _ _ c.args.slots.now c.weigh.new.slots c.min-lent.result c.weigh.result c.weigh.auto.slots c.weigh.ensures

pub returns-in_ok-weigh-in-Weigh-clause-follows : goal.returns-in_ok-weigh-in-Weigh-clause-follows
returns-in_ok-weigh-in-Weigh-clause-follows g c m past saw =
    let book = c.args.book.now in
    let up = c.in-Weigh.weights.up.now in
    let down = c.in-Weigh.weights.down.now in
    let told = book_weighed book saw g.W.Weight up down c.in-Weigh.weights.slots in
    let said : Ok (Weighed c.index-slots-0.result) ≡ weighed_unless (weigh_refused_with (stands book).order up down c.in-Weigh.weights.slots) (weighed g.W.Weight (stands book) up down) = search rules in
    search rules
