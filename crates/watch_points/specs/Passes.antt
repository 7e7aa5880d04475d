-- Triggers that are followed on the way to the horizon, from front to front, and passes through them at a window's end.
use Rattle.std.specs.Prelude.{◌≡◌, ℕ, ◌<◌, ◌≤◌, nat_lt, if◌then◌else◌, List, length, map, Some, None}
use Rattle.sim_base.specs.Clones.{Clone, clone_at}
use Rattle.run_laws.specs.Fronts.{IsWindow}
use Rattle.run_laws.specs.Handlers.{AllAreForStations, AreForStations}
use Rattle.run_laws.specs.Queue.{In}
use Rattle.run_laws.specs.Simulation.{Simulation}
use Rattle.watch_points.specs.Branches.{Branch, Trigger, HaveNewNames, TargetsAreStations, branches_at}
use Rattle.watch_points.specs.Branches.{initial_branch}
use Rattle.watch_points.specs.Keeping.{HoldsAfter, HoldsBranches}
use Rattle.watch_points.specs.PassLaws.{source_at}
use Rattle.watch_points.specs.Progress.{HaveProgress, HaveSources, places_of}
use Rattle.watch_points.specs.declared.watcher.Progress.{Progress}
use Rattle.watch_points.specs.declared.watcher.Source.{Source}

module _ {S M N : Type 0} (sim : Simulation S M N) (script : List Clone) (ts : List (Trigger N)) where
  -- the triggers may be followed: their branches have new names, their targets are stations, and each has its source
  pub record CanBeFollowed (sources : List Source) : Type 0 where
    pub new_names : HaveNewNames (map (λ (c : Clone). c.name) script) ts
    pub targets : TargetsAreStations sim.stations ts
    pub have_sources : HaveSources script ts sources

  -- at a front the clones are those of the script and the branches that the logs before the front bring, and each
  -- trigger has come so far
  pub record AreFollowed (front : ℕ) (progress : List Progress) (cs : List Clone) : Type 0 where
    pub holds : HoldsBranches sim front script ts cs (places_of progress)
    pub have_progress : HaveProgress sim script ts (λ j. front) progress

  -- a window from a front to a bound, and the branches at the front are among its clones
  pub record IsWindowWith (front bound : ℕ) (window_clones : List Clone) : Type 0 where
    pub window : IsWindow sim window_clones front bound
    pub within : bound ≤ sim.horizon
    pub for_stations : AllAreForStations sim script
    pub held : (b : Branch) → In b (branches_at sim front (map initial_branch script) ts) → In b.clone window_clones

  -- a pass at the end of the window has gone through the first i triggers: they have come so far in the logs before the
  -- bound, and the others in the logs before the front
  pub record HavePassed (front bound i : ℕ) (progress : List Progress) (cs : List Clone) : Type 0 where
    pub holds : HoldsAfter sim front bound script ts i cs (places_of progress)
    pub have_progress : HaveProgress sim script ts (λ j. if nat_lt j i then bound else front) progress

  -- the trigger t at place i watches the branch b, which is the clone at this place
  pub record IsFound (bound i : ℕ) (t : Trigger N) (cs : List Clone) (clone start : ℕ) (b : Branch) : Type 0 where
    pub source : source_at sim bound script ts i t ≡ Some b
    pub in_range : clone < length cs
    pub is_clone : clone_at cs clone ≡ b.clone
    pub start_is : b.start ≡ start
    pub no_end : b.clone.end ≡ None
    pub for_stations : AreForStations sim b.clone.plans
