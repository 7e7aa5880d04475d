use Rattle.std.proofs.Common.{◌≡◌, ◌∙◌, ◌++◌, ◌<◌, ap, map, length, subst, sym, arith, ℕ, slice_index_or, IfOk}
use Rattle.net_model.specs.Net.{Net}
use Rattle.net_model.specs.Rules.{IsNet}
use Rattle.decision_book.specs.Books.{BookView}
use Rattle.decision_book.specs.Right.{IsRight}
use Rattle.decision_desk.specs.Desks.{desk_id}
use Rattle.decision_desk.specs.Passes.{PassView}
use Rattle.live_study.specs.Asking.{SeatedAnalyst}
use Rattle.live_study.specs.Lives.{AreSeenLooks, AreTrueLooks}
use Rattle.live_study.specs.Showing.{TellsEach}
use Rattle.live_study.proofs.Counting.{AllDone-desk, AllDone-each, asked_in, finished_if}
use Rattle.live_study.proofs.Ending.{if_is_ok, if_stopped}
use Rattle.live_study.proofs.Told.{all_looked, looks_of, made_all, seen_all, told_if}
use Rattle.live_study.proofs.live.run_live.Goals as goal

-- ---- close

pub close-book-requires-clause-passes : goal.close-book-requires-clause-passes
close-book-requires-clause-passes g c k d less =
    let desk = desk_id c.args.ready.desk in
    let new = c.side_by_side-driven.result.1.items in
    let are : c.close_seats-reserve.result.passes.items ≡ map (λ (a : SeatedAnalyst). a.0.pass) new =
    c.close_seats-reserve.ensures.passes
    ∙ ap (λ l. l ++ map (λ (a : SeatedAnalyst). a.0.pass) new) c.requires.reserve.no_passes in
    let acted = c.side_by_side-driven.ensures.acted in
    let done = AllDone-each desk new (λ i d less. (acted.each i d (omega (arith, less, acted.len))).done) in
    subst (λ l. (k : ℕ) (d : PassView) → k < length l → (slice_index_or l k d).desk ≡ desk) (sym are)
    (AllDone-desk desk new done) k d less

-- ---- asked

pub returns-clause-asked : goal.returns-clause-asked
returns-clause-asked g c =
    let desk = desk_id c.args.ready.desk in
    let new = c.side_by_side-driven.result.1.items in
    let are : c.close_seats-reserve.result.passes.items ≡ map (λ (a : SeatedAnalyst). a.0.pass) new =
    c.close_seats-reserve.ensures.passes
    ∙ ap (λ l. l ++ map (λ (a : SeatedAnalyst). a.0.pass) new) c.requires.reserve.no_passes in
    let s = c.side_by_side-driven.ensures in
    asked_in desk c.args.ready.engine.helm c.side_by_side-driven.result.0.engine.helm c.args.ready.seated.items new
    c.close_seats-reserve.result.passes.items c.close-book.result s.driven.steers c.requires.fresh are
    c.close-book.ensures.closed
    (subst (λ (b : BookView). IsRight b.net b.events) c.book.ensures.value c.front-legal.ensures.right)
    c.book.ensures.fronts s.acted.len (λ i d less. (s.acted.each i d less).done)
    (λ i d less. (s.acted.each i d less).same) c.requires.at_most

-- ---- close_seats

pub close_seats-reserve-requires-clause-tells : goal.close_seats-reserve-requires-clause-tells
close_seats-reserve-requires-clause-tells g c done =
    let s = c.side_by_side-driven.ensures in
    let stock = c.side_by_side-driven.result.0.engine.stocker.stock in
    let told = if_is_ok c.side_by_side-driven.result.0.run c.is_ok.result
    (TellsEach c.args.ready.engine.stocker.stock.readers stock.has_published (length stock.spares.items))
    c.is_ok.ensures.value s.driven.tells done in
    (told.0, told.1 ∙ c.requires.readers ∙ sym s.acted.len)

-- ---- made, seen, looked

pub returns-clause-made : goal.returns-clause-made
returns-clause-made g c =
    let new = c.side_by_side-driven.result.1.items in
    let acted = c.side_by_side-driven.ensures.acted in
    let looks = c.close_seats-reserve.result.looks.items in
    let are : looks ≡ looks_of new =
    c.close_seats-reserve.ensures.looks ∙ ap (λ l. l ++ looks_of new) c.requires.reserve.no_looks in
    made_all c.args.model.now c.args.ready.seated.items new looks
    (all_looked c.args.model.now new (λ i d less. (acted.each i d (omega (arith, less, acted.len))).looked)) acted.len
    (λ i d less. (acted.each i d less).same) are

pub returns-clause-seen : goal.returns-clause-seen
returns-clause-seen g c =
    let net = c.args.model.now in
    let new = c.side_by_side-driven.result.1.items in
    let acted = c.side_by_side-driven.ensures.acted in
    let looks = c.close_seats-reserve.result.looks.items in
    let are : looks ≡ looks_of new =
    c.close_seats-reserve.ensures.looks ∙ ap (λ l. l ++ looks_of new) c.requires.reserve.no_looks in
    subst (λ (n : Net). AreSeenLooks n looks) (sym c.requires.net)
    (seen_all net new looks
    (all_looked net new (λ i d less. (acted.each i d (omega (arith, less, acted.len))).looked)) are)

pub returns-clause-looked : goal.returns-clause-looked
returns-clause-looked g c =
    let net = c.args.model.now in
    let helm = c.side_by_side-driven.result.0.engine.helm in
    let new = c.side_by_side-driven.result.1.items in
    let s = c.side_by_side-driven.ensures in
    let looks = c.close_seats-reserve.result.looks.items in
    let events = c.close-book.result.events in
    let are : looks ≡ looks_of new =
    c.close_seats-reserve.ensures.looks ∙ ap (λ l. l ++ looks_of new) c.requires.reserve.no_looks in
    subst (λ (n : Net). IfOk c.side_by_side-driven.result.0.run (λ w. AreTrueLooks n events looks)) (sym c.requires.net)
    (told_if net helm events c.side_by_side-driven.result.0.engine.stocker.stock.published new looks c.is_ok.result
    c.side_by_side-driven.result.0.run (s.driven.steers.net ∙ c.requires.net)
    c.close-book.ensures.closed.only_calls s.driven.in_step s.driven.shown c.is_ok.ensures.value
    c.close_seats-reserve.ensures.history
    (all_looked net new (λ i d less. (s.acted.each i d (omega (arith, less, s.acted.len))).looked)) are)

-- ---- finished, stopped

pub returns-clause-finished : goal.returns-clause-finished
returns-clause-finished g c =
    let driven = c.side_by_side-driven.ensures.driven in
    finished_if c.args.ready.engine.helm c.side_by_side-driven.result.0.engine.helm
    c.close_seats-reserve.result.passes.items c.close-book.result c.side_by_side-driven.result.0.run driven.steers c.close-book.ensures.closed
    (subst (λ (b : BookView). IsRight b.net b.events) c.book.ensures.value c.front-legal.ensures.right) driven.in_step

pub returns-clause-stopped : goal.returns-clause-stopped
returns-clause-stopped g c =
    let net = c.args.ready.engine.helm.net in
    let helm = c.side_by_side-driven.result.0.engine.helm in
    let book = c.close-book.result in
    let driven = c.side_by_side-driven.ensures.driven in
    let closed = c.close-book.ensures.closed in
    let right = subst (λ (b : BookView). IsRight b.net b.events) c.book.ensures.value c.front-legal.ensures.right in
    if_stopped net helm.net helm.helm book.events c.side_by_side-driven.result.0.run
    (subst (λ (n : Net). IsNet n) (sym c.requires.net) c.lookahead-valid.ensures.valid) driven.steers.net
    closed.only_calls (subst (λ (n : Net). IsRight n book.events) (closed.net ∙ driven.steers.net) right) driven.stops
