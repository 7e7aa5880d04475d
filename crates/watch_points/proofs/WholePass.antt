-- A whole pass of a watcher: its beginning, its end, and what all its steps leave.
use Rattle.std.proofs.Common.{◌≡◌, ℕ, ◌≤◌, List, refl, sym, ap, ◌∙◌, subst, arith, length, take}
use Rattle.std.proofs.lemmas.List.{length-map}
use Rattle.run_laws.specs.Fronts.{IsWindow}
use Rattle.run_laws.specs.Handlers.{AllAreForStations}
use Rattle.stations.specs.Runs.{simulation}
use Rattle.world_core.specs.Worlds.{WorldView, total_handled}
use Rattle.watch_points.specs.Passes.{AreFollowed, CanBeFollowed, HavePassed}
use Rattle.watch_points.specs.Triggers.{trigger_of}
use Rattle.watch_points.specs.Watchers.{Follows, IsPassing, IsStep, WatcherView, active_triggers, progress_of}
use Rattle.watch_points.specs.Watchers.{sources_of, watches_of}
use Rattle.watch_points.specs.declared.watcher.ActiveWatch.{ActiveWatch}
use Rattle.watch_points.proofs.FollowedClones.{for_stations-take}
use Rattle.watch_points.proofs.Following.{followed-held, pass_starts, pass_stops}

-- ---- IsPassing

-- before the first watch: the watcher followed the world to the window's front, and the window is over
pub passing-start : (w : WatcherView) (world : WorldView) → Follows w world.net world.clones w.front →
    IsWindow (simulation world.net) world.clones w.front world.front → world.front ≤ world.net.horizon →
    AllAreForStations (simulation world.net) world.clones → IsPassing w world 0
passing-start w world f window within all = record {
  valid = f.valid;
  same_net = f.same_net;
  clones_max = f.clones_max;
  stations = f.stations;
  script = take w.script_len world.clones;
  is_script = refl;
  script_max = f.script_max;
  can_be_followed = f.can_be_followed;
  window_clones = world.clones;
  with_window = record {
    window = window;
    within = within;
    for_stations = for_stations-take world.net w.script_len world.clones f.script_max all;
    held = followed-held (simulation world.net) (take w.script_len world.clones) (active_triggers world.net w.active)
        w.front (progress_of w.active) world.clones f.are_followed;
  };
  have_passed = pass_starts (simulation world.net) (take w.script_len world.clones)
      (active_triggers world.net w.active) w.front world.front (progress_of w.active) world.clones f.are_followed;
}

-- ---- IsStep

-- no step
pub IsStep-none : (w : WatcherView) (world : WorldView) → IsStep w w world world
IsStep-none w world = record { world = refl; watcher = refl; watches = refl; script = refl; handled = refl }

-- one step after another
pub IsStep-more : (u v w : WatcherView) (a b c : WorldView) → IsStep u v a b → IsStep v w b c → IsStep u w a c
IsStep-more u v w a b c s t =
    let same_net : b.net ≡ a.net = ap (λ (x : WorldView). x.net) s.world in
    let same_front : b.front ≡ a.front = ap (λ (x : WorldView). x.front) s.world in
    let same_len : v.script_len ≡ u.script_len = ap (λ (x : WatcherView). x.script_len) s.watcher in
    record {
      world = t.world ∙ ap (λ (x : WorldView). record x { clones = c.clones }) s.world;
      watcher = t.watcher ∙ ap (λ (x : WatcherView). record x { active = w.active }) s.watcher;
      watches = t.watches ∙ s.watches;
      script = subst (λ n. take n c.clones ≡ take n b.clones) same_len t.script ∙ s.script;
      handled = subst (λ n. total_handled n c.clones a.front ≡ total_handled n b.clones a.front) same_net
          (subst (λ f. total_handled b.net c.clones f ≡ total_handled b.net b.clones f) same_front t.handled)
          ∙ s.handled;
    }

-- a step that changes the watches and the clones
pub IsStep-of : (old new : WatcherView) (before after : WorldView) (active : List ActiveWatch) →
    new ≡ record old { active = active } → watches_of active ≡ watches_of old.active →
    after ≡ record before { clones = after.clones } →
    take old.script_len after.clones ≡ take old.script_len before.clones →
    total_handled before.net after.clones before.front ≡ total_handled before.net before.clones before.front →
    IsStep old new before after
IsStep-of old new before after active is same world script handled = record {
  world = world;
  watcher = is ∙ ap (λ l. record old { active = l }) (sym (ap (λ (w : WatcherView). w.active) is));
  watches = ap (λ (w : WatcherView). watches_of w.active) is ∙ same;
  script = script;
  handled = handled;
}

-- ---- the end of a pass

-- after the last watch: the watcher follows the world to the window's end
passing-last : (w : WatcherView) (world : WorldView) → IsPassing w world (length w.active) →
    Follows (record w { front = world.front }) world.net world.clones world.front
passing-last w world p =
    let many : length w.active ≡ length (active_triggers world.net w.active) =
    sym (length-map (watches_of w.active) (trigger_of world.net)
    ∙ length-map w.active (λ (a : ActiveWatch). a.watch)) in
    record {
      valid = p.valid;
      same_net = p.same_net;
      same_front = refl;
      script_max = p.script_max;
      clones_max = p.clones_max;
      stations = p.stations;
      can_be_followed = subst (λ ls. CanBeFollowed (simulation world.net) ls (active_triggers world.net w.active)
          (sources_of w.active)) (sym p.is_script) p.can_be_followed;
      are_followed = subst (λ ls. AreFollowed (simulation world.net) ls (active_triggers world.net w.active) world.front
          (progress_of w.active) world.clones) (sym p.is_script)
          (pass_stops (simulation world.net) p.script (active_triggers world.net w.active) w.front world.front
          (progress_of w.active) world.clones
          (subst (λ n. HavePassed (simulation world.net) p.script (active_triggers world.net w.active) w.front
          world.front
          n (progress_of w.active) world.clones) many p.have_passed));
    }

-- so after all steps, which a loop over the watches makes
pub passing-end : (v w : WatcherView) (old world : WorldView) (i n front : ℕ) → IsPassing w world i →
    IsStep v w old world → n ≡ length v.active → i ≤ n → n ≤ i → front ≡ old.front →
    Follows (record w { front = front }) world.net world.clones world.front
passing-end v w old world i n front p s is l m at =
    let same : length v.active ≡ length w.active =
    sym (length-map v.active (λ (a : ActiveWatch). a.watch)) ∙ ap length (sym s.watches)
    ∙ length-map w.active (λ (a : ActiveWatch). a.watch) in
    let last : i ≡ length w.active = omega (arith, is, l, m, same) in
    let front_is : world.front ≡ front = ap (λ (x : WorldView). x.front) s.world ∙ sym at in
    subst (λ f. Follows (record w { front = f }) world.net world.clones world.front) front_is
    (passing-last w world (subst (IsPassing w world) last p))
