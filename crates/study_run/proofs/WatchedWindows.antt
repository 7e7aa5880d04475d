-- One more window of a run with watches.
use Rattle.std.proofs.Common.{◌≡◌, ℕ, ◌+◌, ◌-◌, ◌*◌, ◌<◌, ◌≤◌, List, Err, IfErr, IfOk, Ok, Result, arith, ap, length}
use Rattle.std.proofs.Common.{subst, sym, take, ◌∙◌}
use Rattle.std.proofs.lemmas.List.{length-map, length-take-le}
use Rattle.std.proofs.lemmas.Nat.{mul-le}
use Rattle.sim_base.specs.Clones.{Clone, clone_at}
use Rattle.net_model.specs.Net.{Net}
use Rattle.run_laws.specs.Fronts as fronts
use Rattle.run_laws.proofs.Gaining.{IsBeyond-later}
use Rattle.run_laws.proofs.NextFronts.{window_end-within}
use Rattle.run_laws.proofs.Stands.{clone_in}
use Rattle.stations.specs.Runs.{simulation}
use Rattle.stations.proofs.GoodLaws.{lawful-stations}
use Rattle.world_core.specs.Overs.{IsFault}
use Rattle.world_core.specs.Worlds.{WorldView, total_handled}
use Rattle.world_core.specs.declared.world.WorldFault.{WorldFault}
use Rattle.world_core.specs.declared.world.WorldFault.TheVariants as window
use Rattle.world_core.specs.declared.world.WorldFault.TheVariants.{EventLimit}
use Rattle.study_run.specs.Windows.{IsWindow, front_after}
use Rattle.study_run.specs.declared.fault.StudyFault.{StudyFault}
use Rattle.study_run.specs.declared.fault.StudyFault.TheVariants.{LimitMet, NoMemory}
use Rattle.study_run.proofs.OverLaws.{rises}
use Rattle.study_run.proofs.Windows.{IsWindow-left}
use Rattle.watch_points.specs.CloneNumbers.{IsPlaceOf, clone_number}
use Rattle.watch_points.specs.Triggers.{clones_with_branches}
use Rattle.watch_points.specs.Watchers.{Follows, WatcherView, watches_of}
use Rattle.watch_points.specs.declared.watcher.ActiveWatch.{ActiveWatch}
use Rattle.watch_points.proofs.CloneNumbers.{numbers_name_clones}
use Rattle.watch_points.proofs.FollowedClones.{followed_clones_stay}
use Rattle.study_run.specs.Stops.{HasPlace, StopsWatched, numbered_fault}
use Rattle.study_run.specs.Watching.{HasBranches, HasStopped, HasWatched}
use Rattle.study_run.proofs.FewerClones.{fewer_clones}

-- after a window less time is left, also with the branches
pub left-made : (w v : WatcherView) (now : WorldView) (s t : ℕ) (world : WorldView) (run : Result WorldView StudyFault)
    → IsWindow now s (Ok world) t → IfOk run (λ n. HasBranches w v world n)
    → IfOk run (λ n. n.net.horizon - n.front < now.net.horizon - now.front)
left-made w v now s t world (Ok n) h made =
    let left = IsWindow-left now s t world h in
    let front : n.front ≡ world.front = ap (λ (x : WorldView). x.front) made.world in
    let horizon : n.net.horizon ≡ world.net.horizon = ap (λ (x : WorldView). x.net.horizon) made.world in
    omega (arith, left, front, horizon)
left-made w v now s t world (Err e) h made = tt

module _ (first : WatcherView) (old : WorldView) (s0 : ℕ) (w : WatcherView) (now : WorldView) (s t : ℕ)
    (gone : HasWatched first old s0 w now s) where
  -- ---- the next window

  -- the watcher follows its world
  pub window-follows : (world : WorldView) → IsWindow now s (Ok world) t → Follows w world.net world.clones w.front
  window-follows world h =
      let f = gone.has_watches.follows in
      subst (λ (x : WorldView). Follows w x.net x.clones w.front) (sym h.at_front)
      (subst (Follows w now.net now.clones) (sym f.same_front) f)

  -- it is a window from the watcher's front on
  pub window-is : (world : WorldView) → IsWindow now s (Ok world) t →
      fronts.IsWindow (simulation world.net) world.clones w.front world.front
  window-is world h =
      let later = rises now.net now.clones h.valid now.front h.below in
      subst (λ (x : WorldView). fronts.IsWindow (simulation x.net) x.clones w.front x.front) (sym h.at_front)
      (subst (λ f. fronts.IsWindow (simulation now.net) now.clones f (front_after now))
      (sym gone.has_watches.follows.same_front) (record { later = omega (arith, later); within = omega arith }))

  -- ---- HasWatched

  -- the run has reached this world with its branches
  pub HasWatched-window : (world n : WorldView) (v : WatcherView) → IsWindow now s (Ok world) t →
      HasBranches w v world n → HasWatched first old s0 v n t
  HasWatched-window world n v h made =
      let g = gone.has_watches in
      let net : n.net ≡ now.net = ap (λ (x : WorldView). x.net) made.world ∙ ap (λ (x : WorldView). x.net) h.at_front in
      let clones : world.clones ≡ now.clones = ap (λ (x : WorldView). x.clones) h.at_front in
      let front : n.front ≡ front_after now =
      ap (λ (x : WorldView). x.front) made.world ∙ ap (λ (x : WorldView). x.front) h.at_front in
      let total : total_handled n.net n.clones n.front ≡ total_handled now.net now.clones (front_after now) =
      made.handled ∙ ap (λ (m : Net). total_handled m world.clones n.front) net
      ∙ ap (λ cs. total_handled now.net cs n.front) clones ∙ ap (total_handled now.net now.clones) front in
      let grown : t + total_handled now.net now.clones now.front
      ≡ s + total_handled now.net now.clones (front_after now) = h.steps in
      let before = gone.steps in
      record {
        has_watches = record {
          same_net = net ∙ g.same_net;
          follows = made.follows;
          for_stations = made.for_stations;
          script_len = made.script_len ∙ g.script_len;
          script_is = ap (λ m. take m n.clones) made.script_len ∙ made.script ∙ ap (take w.script_len) clones
              ∙ g.script_is;
          watches = made.watches ∙ g.watches;
        };
        steps = omega (arith, total, before, grown);
      }

  -- a world after the window, or out of memory
  pub after_window : (world : WorldView) (v : WatcherView) (run : Result WorldView StudyFault) →
      IsWindow now s (Ok world) t → IfOk run (λ n. HasBranches w v world n) → IfErr run (λ e. e ≡ NoMemory) →
      IfOk run (λ n. HasWatched first old s0 v n t) × IfErr run (λ e. HasStopped first old s0 t e)
  after_window world v (Ok n) h made memory = (HasWatched-window world n v h made, tt)
  after_window world v (Err e) h made memory = (tt, subst (HasStopped first old s0 t) (sym memory) tt)

  -- ---- HasStopped

  module _ (station who kept : ℕ) (h : IsWindow now s (Err (EventLimit station who kept)) t) where
    -- the fault of the window
    fault : IsFault now.net now.clones now.front (front_after now) s t (EventLimit station who kept)
    fault = h.fault

    -- the clone has a place
    limit-place : IsPlaceOf w who
    limit-place = record {
      net = now.net;
      clones = now.clones;
      front = now.front;
      follows = gone.has_watches.follows;
      in_range = fault.0.clone;
    }

    -- the script's clones
    abbrev script : List Clone
    script = take w.script_len now.clones

    -- the steps are no more than the limit allows
    few : t ≤ s0 + length now.net.sites * (length (clones_with_branches now.net script (watches_of w.active))
        * now.net.limit)
    few =
        let g = gone.has_watches in
        let below = h.below in
        let fewer = fewer_clones w now.net now.clones now.front g.follows (omega (arith, below)) g.for_stations in
        let most : t + total_handled now.net now.clones now.front
        ≤ s + length now.net.sites * (length now.clones * now.net.limit) = fault.2 in
        let before = gone.steps in
        let clones = mul-le (length now.clones) now.net.limit
        (length (clones_with_branches now.net script (watches_of w.active))) now.net.limit fewer (omega arith) in
        let all = mul-le (length now.net.sites) (length now.clones * now.net.limit) (length now.net.sites)
        (length (clones_with_branches now.net script (watches_of w.active)) * now.net.limit) (omega arith) clones in
        omega (arith, most, before, all)

    stops-here : StopsWatched now.net script (watches_of w.active) s0 t station (clone_number w who)
    stops-here =
        let g = gone.has_watches in
        let f = g.follows in
        let below = h.below in
        let over = fault.0 in
        let named = numbers_name_clones w now.net now.clones now.front who f over.clone in
        let low = named.in_range in
        let many = length-take-le w.script_len now.clones f.script_max in
        let watches = length-map w.active (λ (a : ActiveWatch). a.watch) in
        record {
          clone = clone_at now.clones who;
          is_one = followed_clones_stay w now.net now.clones now.front f (omega (arith, below)) g.for_stations
              (clone_at now.clones who) (clone_in now.clones who over.clone);
          in_range = omega (arith, low, many, watches);
          name = named.name;
          is_station = over.is_station;
          beyond = IsBeyond-later (lawful-stations now.net h.valid) (clone_at now.clones who) station (front_after now)
              now.net.horizon (window_end-within (simulation now.net)
              (fronts.least (simulation now.net) now.clones now.front))
              over.beyond;
          at_most = few;
        }

    -- the run stops at the limit, with the clone's number
    HasStopped-limit : HasStopped first old s0 t (LimitMet station (clone_number w who))
    HasStopped-limit =
        let g = gone.has_watches in
        subst (λ ws. StopsWatched old.net old.clones ws s0 t station (clone_number w who)) g.watches
        (subst (λ cs. StopsWatched old.net cs (watches_of w.active) s0 t station (clone_number w who)) g.script_is
        (subst (λ (m : Net). StopsWatched m script (watches_of w.active) s0 t station (clone_number w who)) g.same_net
        stops-here))

  -- a window's fault names a place
  pub fault-place : (e : WorldFault) → IsWindow now s (Err e) t → HasPlace w e
  fault-place window.NoMemory h = tt
  fault-place (EventLimit station who kept) h = limit-place station who kept h

  -- the run stops with it
  pub HasStopped-window : (e : WorldFault) → IsWindow now s (Err e) t → HasStopped first old s0 t (numbered_fault w e)
  HasStopped-window window.NoMemory h = tt
  HasStopped-window (EventLimit station who kept) h = HasStopped-limit station who kept h
