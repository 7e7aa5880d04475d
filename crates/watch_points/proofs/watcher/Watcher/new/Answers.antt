use Rattle.std.proofs.Common.{◌≡◌, ◌+◌, length, take, refl, sym, ap, ◌∙◌, subst}
use Rattle.std.proofs.lemmas.List.{length_push, take_all}
use Rattle.net_model.specs.Net.{Net}
use Rattle.net_model.specs.Rules.{IsNet}
use Rattle.watch_points.specs.Checking.{fit}
use Rattle.watch_points.specs.FittingWatches.{FitsAfter}
use Rattle.watch_points.specs.Starting.{AreStarted, IsStarted}
use Rattle.watch_points.specs.Watchers.{Follows}
use Rattle.watch_points.proofs.AcceptedWatches.{accepted_watches_fit}
use Rattle.watch_points.proofs.Elements.{slice_get-here}
use Rattle.watch_points.proofs.StartedWatches.{AreStarted-more, started-follows}
use Rattle.watch_points.proofs.watcher.Watcher.new.Goals as goal

pub start_watch-requires-clause-fits : goal.start_watch-requires-clause-fits
start_watch-requires-clause-fits c =
    let net = c.args.model.value in
    let cs = c.args.lists.now.clones in
    let ws = c.as_slice-items.result.now in
    let w = c.index-items-i.result in
    let same : ws ≡ c.args.w.now = c.as_slice-items.ensures.value ∙ c.w.view_is in
    let fits = accepted_watches_fit net cs ws (ap (fit net cs) same ∙ c.requires.fits) in
    subst (λ (n : Net). FitsAfter n cs (take c.watches.i ws) w) (sym c.deref-in-watches.ensures)
    (fits.each c.watches.i w (slice_get-here ws ws c.watches.i w refl c.watches-test.true c.index-items-i.is))

pub watches-preserved : goal.watches-preserved
watches-preserved c =
    let net = c.args.model.value in
    let cs = c.args.lists.now.clones in
    let ws = c.as_slice-items.result.now in
    let w = c.index-items-i.result in
    let a = c.start_watch.result in
    let items = c.in_ok-push.ensures.items in
    let many = c.watches.invariant.many in
    let started : IsStarted net cs (take c.watches.i ws) a =
    subst (λ (n : Net). IsStarted n cs (take c.watches.i ws) a) c.deref-in-watches.ensures
    c.start_watch.ensures.started in
    record {
      many = ap length items ∙ length_push c.watches.active.items a ∙ ap (λ n. n + 1) many;
      started = subst (AreStarted net cs (take (c.watches.i + 1) ws)) (sym items)
          (AreStarted-more net cs ws c.watches.active.items c.watches.i w a many
          (slice_get-here ws ws c.watches.i w refl c.watches-test.true c.index-items-i.is) c.watches.invariant.started
          c.start_watch.ensures.watch started);
    }

pub returns-clause-follows : goal.returns-clause-follows
returns-clause-follows c =
    let net = c.args.model.value in
    let cs = c.args.lists.now.clones in
    let ws = c.as_slice-items.result.now in
    let same : ws ≡ c.args.w.now = c.as_slice-items.ensures.value ∙ c.w.view_is in
    let fits = accepted_watches_fit net cs ws (ap (fit net cs) same ∙ c.requires.fits) in
    let started : AreStarted net cs ws c.watches.active.items =
    subst (λ l. AreStarted net cs l c.watches.active.items) (take_all c.watches.i ws c.watches-test.false)
    c.watches.invariant.started in
    subst (λ n. Follows (record { net = net; script_len = n; front = 0; active = c.watches.active.items }) net cs 0)
    (sym c.len.ensures.value)
    (started-follows net cs ws fits c.watches.active.items started
    (subst IsNet c.deref.ensures c.len-stations.ensures.valid))
