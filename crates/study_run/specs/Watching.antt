-- Runs with watches: all clones advance from window to window, and branches of watches are created between windows.
use Rattle.std.specs.Prelude.{◌≡◌, ℕ, ◌+◌, List, Result, IfOk, IfErr, length, take}
use Rattle.sim_base.specs.Clones.{Clone}
use Rattle.net_model.specs.Net.{Net}
use Rattle.run_laws.specs.Handlers.{AllAreForStations}
use Rattle.stations.specs.Runs.{simulation}
use Rattle.run_laws.specs.Orders.{IsPlaceOrder, in_order}
use Rattle.world_core.specs.Worlds.{WorldView, total_handled}
use Rattle.study_run.specs.Limits.{AreWithin}
use Rattle.study_run.specs.declared.fault.StudyFault.{StudyFault}
use Rattle.watch_points.specs.Triggers.{clones_with_branches}
use Rattle.watch_points.specs.Watchers.{Follows, WatcherView, watches_of}
use Rattle.watch_points.specs.declared.watch.Watch.{Watch}
use Rattle.study_run.specs.Stops.{IsFaultOfWatched}
use Rattle.study_run.specs.declared.watched_study.WatchedWorld.{WatchedWorld}

-- the watcher w has these watches and follows a world of this network, whose first clones are the script's
pub record HasWatches (net : Net) (script : List Clone) (ws : List Watch) (w : WatcherView) (world : WorldView) :
    Type 0 where
  pub same_net : world.net ≡ net
  pub follows : Follows w world.net world.clones world.front
  pub for_stations : AllAreForStations (simulation world.net) world.clones
  pub script_len : w.script_len ≡ length script
  pub script_is : take w.script_len world.clones ≡ script
  pub watches : watches_of w.active ≡ ws

-- after a window the world has the branches that are due and is otherwise unchanged; the watcher follows the new world
pub record HasBranches (old new : WatcherView) (before after : WorldView) : Type 0 where
  pub follows : Follows new after.net after.clones after.front
  pub world : after ≡ record before { clones = after.clones }
  pub script : take old.script_len after.clones ≡ take old.script_len before.clones
  pub script_len : new.script_len ≡ old.script_len
  pub watches : watches_of new.active ≡ watches_of old.active
  pub handled : total_handled after.net after.clones after.front ≡ total_handled after.net before.clones after.front
  pub for_stations : AllAreForStations (simulation after.net) after.clones

-- a run begins with these watches and this world
abbrev pub BeginsWithWatches : WatcherView → WorldView → Type 0
BeginsWithWatches w world = HasWatches world.net world.clones (watches_of w.active) w world

-- a run that began with these watches over the first world has reached the second; each shared message was counted once
pub record HasWatched (first : WatcherView) (old : WorldView) (old_steps : ℕ) (w : WatcherView) (new : WorldView)
    (new_steps : ℕ) : Type 0 where
  pub has_watches : HasWatches old.net old.clones (watches_of first.active) w new
  pub steps : new_steps ≡ old_steps + total_handled new.net new.clones new.front

-- or it stopped
abbrev pub HasStopped : WatcherView → WorldView → ℕ → ℕ → StudyFault → Type 0
HasStopped first old old_steps new_steps e =
    IsFaultOfWatched old.net old.clones (watches_of first.active) old_steps new_steps e

-- the run of a script's clones with watches from front 0: a world of this network at the horizon, whose clones in the
-- order of the watches are those of the whole run; no log is beyond the limit, and shared messages were handled once;
-- or out of memory, or the limit is met
pub record IsWatchedRun (net : Net) (script : List Clone) (ws : List Watch) (old_steps new_steps : ℕ)
    (run : Result WatchedWorld StudyFault) : Type 0 where
  pub net_is : IfOk run (λ r. r.world.net ≡ net)
  pub front : IfOk run (λ r. r.world.front ≡ net.horizon)
  pub order : IfOk run (λ r. IsPlaceOrder (length r.world.clones) r.order.items)
  pub clones : IfOk run (λ r. in_order r.world.clones r.order.items ≡ clones_with_branches net script ws)
  pub within : IfOk run (λ r. AreWithin net r.world.clones)
  pub steps : IfOk run (λ r.
      new_steps ≡ old_steps + total_handled net (clones_with_branches net script ws) net.horizon)
  pub fault : IfErr run (λ e. IsFaultOfWatched net script ws old_steps new_steps e)
