use Rattle.std.proofs.Common.{◌≡◌, ◌<◌, ◌≤◌, ◌+◌, length, arith, sym, ap, ◌∙◌, subst}
use Rattle.std.proofs.lemmas.Option.{slice_get_within}
use Rattle.net_model.specs.Net.{HasStation, Net}
use Rattle.world_core.specs.Worlds.{WorldView}
use Rattle.watch_points.specs.Watchers.{WatcherView}
use Rattle.watch_points.proofs.MadeBranch.{late-passing, late-step, made-passing, made-step}
use Rattle.watch_points.proofs.PassingWatcher.{due-below, due-is_station, due-not_late, due-room, due-unused}
use Rattle.watch_points.proofs.watcher.Watcher.make_branch.Goals as goal

pub overflow_add-at : goal.overflow_add-at
overflow_add-at c =
    let d = c.requires.is_due in
    let below : c.args.due < c.args.world.front =
    due-below c.args.self.now c.args.world c.args.i c.args.active c.args.clone c.args.due c.requires.is_due in
    let within = d.passing.with_window.within in
    let soon = d.passing.valid.horizon_max in
    let ahead = c.lookahead.ensures.value in
    let near = c.lookahead.ensures.valid.lookahead_max in
    omega (arith, below, within, soon, ahead, near)

pub set_progress-requires : goal.set_progress-requires
set_progress-requires c = record {
  in_range = slice_get_within c.args.self.now.active c.args.i c.args.active c.requires.is_due.is_watch;
}

pub returns-then-at-horizon-clause-passing : goal.returns-then-at-horizon-clause-passing
returns-then-at-horizon-clause-passing c =
    let net_is : c.deref.result.now ≡ c.args.world.net =
    c.deref.ensures ∙ ap (λ (w : WatcherView). w.net) c.self.view_is ∙ c.requires.is_due.passing.same_net in
    let ahead : c.lookahead.result ≡ c.args.world.net.lookahead =
    c.lookahead.ensures.value ∙ ap (λ (n : Net). n.lookahead) net_is in
    let horizon : c.horizon.result ≡ c.args.world.net.horizon =
    c.horizon.ensures.value ∙ ap (λ (n : Net). n.horizon)
    (c.deref-2.ensures ∙ ap (λ (w : WatcherView). w.net) c.self.view_is ∙ c.requires.is_due.passing.same_net) in
    let late : c.args.world.net.horizon ≤ c.args.due + c.args.world.net.lookahead =
    omega (arith, c.if-at-horizon.true, ahead, horizon) in
    late-passing c.args.self.now c.args.world c.args.i c.args.active c.args.clone c.args.due c.requires.is_due
    c.set_progress.new.self (c.set_progress.ensures.value c.args.active c.requires.is_due.is_watch) late

pub returns-then-at-horizon-clause-step : goal.returns-then-at-horizon-clause-step
returns-then-at-horizon-clause-step c =
    late-step c.args.self.now c.args.world c.args.i c.args.active c.args.clone c.args.due c.requires.is_due
    c.set_progress.new.self (c.set_progress.ensures.value c.args.active c.requires.is_due.is_watch)

pub with_fork-requires-clause-unused : goal.with_fork-requires-clause-unused
with_fork-requires-clause-unused c =
    due-unused c.args.self.now c.args.world c.args.i c.args.active c.args.clone c.args.due c.requires.is_due

pub with_fork-requires-clause-at_most : goal.with_fork-requires-clause-at_most
with_fork-requires-clause-at_most c =
    due-room c.args.self.now c.args.world c.args.i c.args.active c.args.clone c.args.due c.requires.is_due

pub with_set-requires-clause-is_station : goal.with_set-requires-clause-is_station
with_set-requires-clause-is_station c =
    let net_is : c.deref.result.now ≡ c.args.world.net =
    c.deref.ensures ∙ ap (λ (w : WatcherView). w.net) c.self.view_is ∙ c.requires.is_due.passing.same_net in
    let ahead : c.lookahead.result ≡ c.args.world.net.lookahead =
    c.lookahead.ensures.value ∙ ap (λ (n : Net). n.lookahead) net_is in
    let horizon : c.horizon.result ≡ c.args.world.net.horizon =
    c.horizon.ensures.value ∙ ap (λ (n : Net). n.horizon)
    (c.deref-2.ensures ∙ ap (λ (w : WatcherView). w.net) c.self.view_is ∙ c.requires.is_due.passing.same_net) in
    let in_time : c.args.due + c.args.world.net.lookahead < c.args.world.net.horizon =
    omega (arith, c.if-at-horizon.false, ahead, horizon) in
    subst (λ n. HasStation n c.args.active.target) (sym (ap (λ (w : WorldView). w.net) c.in_ok-world.ensures.value))
    (due-is_station c.args.self.now c.args.world c.args.i c.args.active c.args.clone c.args.due c.requires.is_due
    in_time)

pub with_set-requires-clause-not_late : goal.with_set-requires-clause-not_late
with_set-requires-clause-not_late c =
    let net_is : c.deref.result.now ≡ c.args.world.net =
    c.deref.ensures ∙ ap (λ (w : WatcherView). w.net) c.self.view_is ∙ c.requires.is_due.passing.same_net in
    let ahead : c.lookahead.result ≡ c.args.world.net.lookahead =
    c.lookahead.ensures.value ∙ ap (λ (n : Net). n.lookahead) net_is in
    let horizon : c.horizon.result ≡ c.args.world.net.horizon =
    c.horizon.ensures.value ∙ ap (λ (n : Net). n.horizon)
    (c.deref-2.ensures ∙ ap (λ (w : WatcherView). w.net) c.self.view_is ∙ c.requires.is_due.passing.same_net) in
    let in_time : c.args.due + c.args.world.net.lookahead < c.args.world.net.horizon =
    omega (arith, c.if-at-horizon.false, ahead, horizon) in
    let not_late : c.args.world.front ≤ c.args.due + c.args.world.net.lookahead =
    due-not_late c.args.self.now c.args.world c.args.i c.args.active c.args.clone c.args.due c.requires.is_due in_time
    in
    let front : c.in_ok-world.world.front ≡ c.args.world.front =
    ap (λ (w : WorldView). w.front) c.in_ok-world.ensures.value in
    omega (arith, not_late, front, ahead)

pub set_progress-requires-2 : goal.set_progress-requires-2
set_progress-requires-2 c = record {
  in_range = slice_get_within c.args.self.now.active c.args.i c.args.active c.requires.is_due.is_watch;
}

pub returns-clause-passing : goal.returns-clause-passing
returns-clause-passing c =
    let net_is : c.deref.result.now ≡ c.args.world.net =
    c.deref.ensures ∙ ap (λ (w : WatcherView). w.net) c.self.view_is ∙ c.requires.is_due.passing.same_net in
    let ahead : c.lookahead.result ≡ c.args.world.net.lookahead =
    c.lookahead.ensures.value ∙ ap (λ (n : Net). n.lookahead) net_is in
    let horizon : c.horizon.result ≡ c.args.world.net.horizon =
    c.horizon.ensures.value ∙ ap (λ (n : Net). n.horizon)
    (c.deref-2.ensures ∙ ap (λ (w : WatcherView). w.net) c.self.view_is ∙ c.requires.is_due.passing.same_net) in
    let in_time : c.args.due + c.args.world.net.lookahead < c.args.world.net.horizon =
    omega (arith, c.if-at-horizon.false, ahead, horizon) in
    made-passing c.args.self.now c.args.world c.args.i c.args.active c.args.clone c.args.due c.requires.is_due
    c.set_progress-2.new.self c.lookahead.result c.len-place.result c.in_ok-world.world c.in_ok-world-2.world ahead
    (c.len-place.ensures.value ∙ ap length c.lists.ensures.clones)
    (c.set_progress-2.ensures.value c.args.active c.requires.is_due.is_watch) c.in_ok-world.ensures.value
    c.in_ok-world-2.ensures.value in_time

pub returns-clause-step : goal.returns-clause-step
returns-clause-step c =
    let net_is : c.deref.result.now ≡ c.args.world.net =
    c.deref.ensures ∙ ap (λ (w : WatcherView). w.net) c.self.view_is ∙ c.requires.is_due.passing.same_net in
    let ahead : c.lookahead.result ≡ c.args.world.net.lookahead =
    c.lookahead.ensures.value ∙ ap (λ (n : Net). n.lookahead) net_is in
    let horizon : c.horizon.result ≡ c.args.world.net.horizon =
    c.horizon.ensures.value ∙ ap (λ (n : Net). n.horizon)
    (c.deref-2.ensures ∙ ap (λ (w : WatcherView). w.net) c.self.view_is ∙ c.requires.is_due.passing.same_net) in
    let in_time : c.args.due + c.args.world.net.lookahead < c.args.world.net.horizon =
    omega (arith, c.if-at-horizon.false, ahead, horizon) in
    made-step c.args.self.now c.args.world c.args.i c.args.active c.args.clone c.args.due c.requires.is_due
    c.set_progress-2.new.self c.lookahead.result c.len-place.result c.in_ok-world.world c.in_ok-world-2.world ahead
    (c.len-place.ensures.value ∙ ap length c.lists.ensures.clones)
    (c.set_progress-2.ensures.value c.args.active c.requires.is_due.is_watch) c.in_ok-world.ensures.value
    c.in_ok-world-2.ensures.value in_time
