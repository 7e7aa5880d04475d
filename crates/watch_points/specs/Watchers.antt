-- A watcher: the watches of a network on the way to the horizon, and the world that has their branches.
use Rattle.std.specs.Prelude.{◌≡◌, ℕ, ◌+◌, ◌<◌, ◌≤◌, List, length, map, take, Some, slice_get}
use Rattle.sim_base.specs.Clones.{Clone}
use Rattle.sim_base.specs.declared.entry.Line.{Line}
use Rattle.sim_base.specs.declared.lists.TheConstants.{MAX_CLONES}
use Rattle.net_model.specs.Net.{Net, station_named}
use Rattle.net_model.specs.Rules.{IsNet}
use Rattle.stations.specs.Runs.{simulation}
use Rattle.watch_points.specs.Branches.{Branch, Trigger, due_time}
use Rattle.world_core.specs.Worlds.{WorldView, total_handled}
use Rattle.watch_points.specs.Passes.{AreFollowed, CanBeFollowed, HavePassed, IsFound, IsWindowWith}
use Rattle.watch_points.specs.Triggers.{trigger_of, triggers_of}
use Rattle.watch_points.specs.declared.watch.Watch.{Watch}
use Rattle.watch_points.specs.declared.watcher.ActiveWatch.{ActiveWatch}
use Rattle.watch_points.specs.declared.watcher.Progress.{Progress}
use Rattle.watch_points.specs.declared.watcher.Progress.TheVariants.{Waiting}
use Rattle.watch_points.specs.declared.watcher.Source.{Source}

-- what contracts see of a watcher: its network, the number of the script's clones, the front up to which it has read
-- the logs, and the watches in the order of their lines
pub record WatcherView : Type 0 where
  pub net : Net
  pub script_len : ℕ
  pub front : ℕ
  pub active : List ActiveWatch

-- the watches as the text states them
abbrev pub watches_of : List ActiveWatch → List Watch
watches_of active = map (λ (a : ActiveWatch). a.watch) active

-- the clones that they watch
abbrev pub sources_of : List ActiveWatch → List Source
sources_of active = map (λ (a : ActiveWatch). a.source) active

-- how far they have come
abbrev pub progress_of : List ActiveWatch → List Progress
progress_of active = map (λ (a : ActiveWatch). a.progress) active

-- the watches as triggers
abbrev pub active_triggers : Net → List ActiveWatch → List (Trigger Line)
active_triggers net active = triggers_of net (watches_of active)

-- a watch has the numbers of its stations
pub record HasStations (net : Net) (a : ActiveWatch) : Type 0 where
  pub station : station_named a.watch.station net ≡ Some a.station
  pub target : station_named a.watch.target net ≡ Some a.target

-- each watch has the numbers of its stations
abbrev pub HaveStations : Net → List ActiveWatch → Type 0
HaveStations net active = (j : ℕ) (a : ActiveWatch) → slice_get active j ≡ Some a → HasStations net a

-- a watcher follows a world of these clones at a front: the clones are those of the script and the branches that the
-- logs before the front bring, and the watcher knows how far each watch has come
pub record Follows (w : WatcherView) (net : Net) (cs : List Clone) (front : ℕ) : Type 0 where
  pub valid : IsNet net
  pub same_net : w.net ≡ net
  pub same_front : w.front ≡ front
  pub script_max : w.script_len ≤ length cs
  pub clones_max : 0 < length w.active → w.script_len + length w.active ≤ MAX_CLONES
  pub stations : HaveStations net w.active
  pub can_be_followed : CanBeFollowed (simulation net) (take w.script_len cs) (active_triggers net w.active)
      (sources_of w.active)
  pub are_followed : AreFollowed (simulation net) (take w.script_len cs) (active_triggers net w.active) front
      (progress_of w.active) cs

-- a watcher passes through its watches at the end of a window, and has come to the watch at place i
pub record IsPassing (w : WatcherView) (world : WorldView) (i : ℕ) : Type 0 where
  pub valid : IsNet world.net
  pub same_net : w.net ≡ world.net
  pub clones_max : 0 < length w.active → w.script_len + length w.active ≤ MAX_CLONES
  pub stations : HaveStations world.net w.active
  -- the clones of the script
  pub script : List Clone
  pub is_script : take w.script_len world.clones ≡ script
  pub script_max : w.script_len ≤ length world.clones
  pub can_be_followed : CanBeFollowed (simulation world.net) script (active_triggers world.net w.active)
      (sources_of w.active)
  -- the window, with the clones that it had
  pub window_clones : List Clone
  pub with_window : IsWindowWith (simulation world.net) script (active_triggers world.net w.active) w.front world.front
      window_clones
  -- the pass so far
  pub have_passed : HavePassed (simulation world.net) script (active_triggers world.net w.active) w.front world.front i
      (progress_of w.active) world.clones

-- in a pass the watch a at place i waits, and it is due in its clone, which is at this place
pub record IsDueInPass (w : WatcherView) (world : WorldView) (i : ℕ) (a : ActiveWatch) (clone due : ℕ) : Type 0 where
  pub passing : IsPassing w world i
  pub is_watch : slice_get w.active i ≡ Some a
  pub seen : ℕ
  pub waits : a.progress ≡ Waiting seen
  pub start : ℕ
  pub branch : Branch
  pub is_found : IsFound (simulation world.net) passing.script (active_triggers world.net w.active) world.front i
      (trigger_of world.net a.watch) world.clones clone start branch
  pub is_due : due_time (simulation world.net) world.front (trigger_of world.net a.watch) branch ≡ Some due

-- a step of a pass leaves the watches, the script's clones and the number of messages that were handled
pub record IsStep (old new : WatcherView) (before after : WorldView) : Type 0 where
  pub world : after ≡ record before { clones = after.clones }
  pub watcher : new ≡ record old { active = new.active }
  pub watches : watches_of new.active ≡ watches_of old.active
  pub script : take old.script_len after.clones ≡ take old.script_len before.clones
  pub handled : total_handled before.net after.clones before.front ≡ total_handled before.net before.clones before.front
