-- A run with watches from its beginning to the horizon.
use Rattle.std.proofs.Common.{◌≡◌, ℕ, ◌+◌, Err, IfErr, IfOk, List, Ok, Result, arith, ap, length, refl, subst, sym}
use Rattle.std.proofs.Common.{take, ◌∙◌}
use Rattle.std.proofs.lemmas.List.{take_all}
use Rattle.sim_base.specs.Clones.{Clone}
use Rattle.net_model.specs.Net.{Net}
use Rattle.run_laws.specs.Handlers.{AllAreForStations}
use Rattle.stations.specs.Runs.{simulation}
use Rattle.run_laws.specs.Orders.{IsPlaceOrder, in_order}
use Rattle.world_core.specs.Overs.{NoneBeyond}
use Rattle.world_core.specs.Worlds.{WorldView, total_handled}
use Rattle.study_run.specs.Limits.{AreWithin}
use Rattle.study_run.specs.declared.fault.StudyFault.{StudyFault}
use Rattle.study_run.specs.declared.fault.StudyFault.TheVariants.{NoMemory}
use Rattle.study_run.proofs.Worlds.{none_handled}
use Rattle.watch_points.specs.Laws.{watch_order}
use Rattle.watch_points.specs.Triggers.{clones_with_branches}
use Rattle.watch_points.specs.Watchers.{Follows, WatcherView, watches_of}
use Rattle.watch_points.proofs.FollowedClones.{followed_clones_are_in_order, order_has_all_clones, total_is_the_same}
use Rattle.watch_points.specs.declared.watch.Watch.{Watch}
use Rattle.study_run.specs.Watching.{BeginsWithWatches, HasStopped, HasWatched, IsWatchedRun}
use Rattle.study_run.specs.declared.watched_study.WatchedWorld.{WatchedWorld}

-- ---- the beginning

-- a watcher that follows the script's clones at front 0
pub begins_with_watches : (w : WatcherView) (world : WorldView) (net : Net) (cs : List Clone) → world.net ≡ net →
    world.front ≡ 0 → cs ≡ world.clones → Follows w net cs 0 → w.script_len ≡ length cs →
    AllAreForStations (simulation world.net) world.clones → BeginsWithWatches w world
begins_with_watches w world net cs net_is first same follows script all =
    let many : w.script_len ≡ length world.clones = script ∙ ap length same in
    record {
      same_net = refl;
      follows = subst (λ (n : Net). Follows w n world.clones world.front) (sym net_is)
          (subst (λ ls. Follows w net ls world.front) same (subst (Follows w net cs) (sym first) follows));
      for_stations = all;
      script_len = many;
      script_is = ap (λ n. take n world.clones) many ∙ take_all (length world.clones) world.clones (omega arith);
      watches = refl;
    }

-- nothing was handled at first
pub HasWatched-first : (w : WatcherView) (world : WorldView) (s : ℕ) → world.front ≡ 0 →
    BeginsWithWatches w world → HasWatched w world s w world s
HasWatched-first w world s first has =
    let none : total_handled world.net world.clones world.front ≡ 0 =
    ap (total_handled world.net world.clones) first ∙ none_handled world.net world.clones (length world.net.sites) in
    record { has_watches = has; steps = omega (arith, none) }

-- ---- the end

-- the run at the horizon
pub record IsWatchedEnd (net : Net) (script : List Clone) (ws : List Watch) (s t : ℕ) (world : WorldView)
    (order : List ℕ) : Type 0 where
  pub net_is : world.net ≡ net
  pub front : world.front ≡ net.horizon
  pub order_is : IsPlaceOrder (length world.clones) order
  pub clones : in_order world.clones order ≡ clones_with_branches net script ws
  pub within : AreWithin net world.clones
  pub steps : t ≡ s + total_handled net (clones_with_branches net script ws) net.horizon

module _ (first : WatcherView) (old : WorldView) (s : ℕ) (w : WatcherView) (now : WorldView) (t : ℕ)
    (gone : HasWatched first old s w now t) (last : now.front ≡ now.net.horizon) where
  -- the clones in the order of the watches
  end-clones : in_order now.clones (watch_order w)
      ≡ clones_with_branches now.net (take w.script_len now.clones) (watches_of w.active)
  end-clones = followed_clones_are_in_order w now.net now.clones
      (subst (Follows w now.net now.clones) last gone.has_watches.follows)

  -- the run at its end
  end-here : NoneBeyond now.net now.clones now.front →
      IsWatchedEnd now.net (take w.script_len now.clones) (watches_of w.active) s t now (watch_order w)
  end-here short =
      let order = order_has_all_clones w now.net now.clones now.front gone.has_watches.follows in
      let total = ap (λ cs. total_handled now.net cs now.net.horizon) (sym end-clones)
      ∙ total_is_the_same now.net now.clones (watch_order w) now.net.horizon order in
      let front = ap (total_handled now.net now.clones) last in
      let steps = gone.steps in
      record {
        net_is = refl;
        front = last;
        order_is = order;
        clones = end-clones;
        within = subst (NoneBeyond now.net now.clones) last short;
        steps = omega (arith, total, front, steps);
      }

  pub watched_end : NoneBeyond now.net now.clones now.front →
      IsWatchedEnd old.net old.clones (watches_of first.active) s t now (watch_order w)
  watched_end short =
      let g = gone.has_watches in
      subst (λ ws. IsWatchedEnd old.net old.clones ws s t now (watch_order w)) g.watches
      (subst (λ cs. IsWatchedEnd old.net cs (watches_of w.active) s t now (watch_order w)) g.script_is
      (subst (λ (m : Net). IsWatchedEnd m (take w.script_len now.clones) (watches_of w.active) s t now (watch_order w))
      g.same_net (end-here short)))

-- ---- IsWatchedRun

-- the run if it stops
pub IsWatchedRun-stopped : (first : WatcherView) (old : WorldView) (s t : ℕ) (e : StudyFault) →
    HasStopped first old s t e → IsWatchedRun old.net old.clones (watches_of first.active) s t (Err e)
IsWatchedRun-stopped first old s t e h = record {
  net_is = tt;
  front = tt;
  order = tt;
  clones = tt;
  within = tt;
  steps = tt;
  fault = h;
}

-- the run if its world at the horizon is put in order
pub IsWatchedRun-ended : (first : WatcherView) (old : WorldView) (s : ℕ) (w : WatcherView) (now : WorldView) (t : ℕ)
    (run : Result WatchedWorld StudyFault) → HasWatched first old s w now t → now.front ≡ now.net.horizon →
    IfOk run (λ r. r.world ≡ now) → IfOk run (λ r. r.order.items ≡ watch_order w) →
    IfOk run (λ r. NoneBeyond now.net now.clones now.front) → IfErr run (λ e. e ≡ NoMemory) →
    IsWatchedRun old.net old.clones (watches_of first.active) s t run
IsWatchedRun-ended first old s w now t (Err e) gone last world order short memory =
    subst (λ f. IsWatchedRun old.net old.clones (watches_of first.active) s t (Err f)) (sym memory)
    (IsWatchedRun-stopped first old s t NoMemory tt)
IsWatchedRun-ended first old s w now t (Ok r) gone last world order short memory =
    let end = subst (λ (x : WorldView). IsWatchedEnd old.net old.clones (watches_of first.active) s t x r.order.items)
    (sym world) (subst (IsWatchedEnd old.net old.clones (watches_of first.active) s t now) (sym order)
    (watched_end first old s w now t gone last short)) in
    record {
      net_is = end.net_is;
      front = end.front;
      order = end.order_is;
      clones = end.clones;
      within = end.within;
      steps = end.steps;
      fault = tt;
    }
