-- The engine's part: a world that goes on as the helm's journal does.
use Rattle.std.specs.Prelude.{◌≡◌, ℕ, ◌<◌, ◌≤◌, List}
use Rattle.net_model.specs.Net.{Net}
use Rattle.run_laws.specs.Queue.{In}
use Rattle.stations.specs.Runs.{next_front}
use Rattle.decision_book.specs.Journal.{Event, after, fronts_of, front_of}
use Rattle.decision_desk.specs.Passes.{HelmView}
use Rattle.world_core.specs.Overs.{IsFirstBeyond, NoneBeyond}
use Rattle.world_core.specs.Worlds.{WorldView}
use Rattle.study_run.specs.declared.fault.StudyFault.{StudyFault}
use Rattle.study_run.specs.declared.fault.StudyFault.TheVariants.{NoMemory, LimitMet}

-- the world is where the helm's journal has led
pub record InStep (h : HelmView) (w : WorldView) : Type 0 where
  pub net : w.net ≡ h.net
  pub clones : w.clones ≡ (after h.net h.helm).clones
  pub front : w.front ≡ front_of h.helm

-- the helm has raised the front to this bound, and the world has taken what was accepted before: the window comes next;
-- at the fronts before it no log is beyond the limit
pub record IsAhead (h : HelmView) (w : WorldView) (bound : ℕ) : Type 0 where
  pub net : w.net ≡ h.net
  pub clones : w.clones ≡ (after h.net h.helm).clones
  pub bound_is : bound ≡ front_of h.helm
  pub above : w.front < bound
  pub within : bound ≤ next_front w.net w.clones w.front
  pub time_max : bound ≤ w.net.horizon
  pub length_max : (f : ℕ) → In f (fronts_of h.helm) → f < bound → NoneBeyond w.net w.clones f

-- what the engine leaves of its helm as it was
pub record Steers (old new : HelmView) : Type 0 where
  pub desk : new.desk ≡ old.desk
  pub net : new.net ≡ old.net
  pub parts : new.parts ≡ old.parts
  pub made : new.made ≡ old.made
  pub accounts : new.accounts ≡ old.accounts

-- the limit is met at the last front of a journal: the station is the least that has a log beyond the limit there, and
-- the clone the least of those; at no earlier front of the journal is a log beyond it
pub record MeetsLimitLast (net : Net) (events : List Event) (station who : ℕ) : Type 0 where
  pub first : IsFirstBeyond net (after net events).clones (front_of events) station who
  pub none_before : (f : ℕ) → In f (fronts_of events) → f < front_of events → NoneBeyond net (after net events).clones f

-- why the engine stopped, over its journal: out of memory needs no cause; a limit is met at the last front
abbrev pub StopsEngine : Net → List Event → StudyFault → Type 0
StopsEngine net events NoMemory = Unit {0}
StopsEngine net events (LimitMet station who) = MeetsLimitLast net events station who
