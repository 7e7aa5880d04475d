-- Laws of the limit and of the report; `src/laws.rt` proves them.
use Rattle.std.specs.Prelude.{◌≡◌, ◌↔◌, ◌⊎◌, ℕ, ◌<◌, ◌≤◌, List, [], length, Some, None, sum_by}
use Rattle.sim_base.specs.Clones.{Clone}
use Rattle.sim_base.specs.declared.message.Msg.{Msg}
use Rattle.sim_base.specs.declared.entry.Entry.{Entry}
use Rattle.sim_base.specs.declared.entry.Line.{Line}
use Rattle.net_model.specs.Net.{Net}
use Rattle.net_model.specs.Rules.{IsNet}
use Rattle.run_laws.specs.Handlers.{AreForStations}
use Rattle.run_laws.specs.World.{log_of}
use Rattle.stations.specs.Runs.{simulation}
use Rattle.solo_run.specs.Limit.{receiver, first_beyond}
use Rattle.world_core.specs.Overs.{most_handled}
use Rattle.world_core.specs.Worlds.{total_handled}
use Rattle.study_run.specs.Limits.{AreWithin, IsWithin, MeetsLimit, IsFirstFull, MeetsLimitAlone}
use Rattle.study_run.specs.Overs.{first_overrun_of}
use Rattle.trace_report.specs.Outputs.{figures_to}

-- a run meets the limit at no more than one station and clone
abbrev pub MeetingIsOne : Type 0
MeetingIsOne = (net : Net) (clones : List Clone) (s who t other : ℕ) → MeetsLimit net clones s who
    → MeetsLimit net clones t other →
    (s ≡ t) × (who ≡ other)

-- it meets the limit exactly where a search through the windows finds it
abbrev pub MeetingIsFound : Type 0
MeetingIsFound = (net : Net) → IsNet net → (clones : List Clone) (s who : ℕ) →
    MeetsLimit net clones s who ↔ (first_overrun_of net clones ≡ Some (s, who))

-- the search finds nothing exactly if all logs of the whole run are within the limit
abbrev pub WithinIsNotFound : Type 0
WithinIsNotFound = (net : Net) → IsNet net → (clones : List Clone) → AreWithin net clones
    ↔ (first_overrun_of net clones ≡ None)

-- all logs are within the limit, or the run meets it
abbrev pub WithinOrMet : Type 0
WithinOrMet = (net : Net) → IsNet net → (clones : List Clone) →
    AreWithin net clones ⊎ ((s : ℕ) × ((who : ℕ) × MeetsLimit net clones s who))

-- never both
abbrev pub NotWithinAndMet : Type 0
NotWithinAndMet = (net : Net) → IsNet net → (clones : List Clone) (s who : ℕ) → AreWithin net clones
    → MeetsLimit net clones s who → ⊥

-- at most one station's log is the first full one in a trace
abbrev pub FullIsOne : Type 0
FullIsOne = (limit : ℕ) (trace : List (Entry Msg Line)) (s t : ℕ) → IsFirstFull limit trace s
    → IsFirstFull limit trace t → s ≡ t

-- at the end of the trace that log is longer than the limit
abbrev pub FullIsLonger : Type 0
FullIsLonger = (limit : ℕ) (trace : List (Entry Msg Line)) (s : ℕ) → IsFirstFull limit trace s
    → limit < length (log_of receiver s trace)

-- it is exactly the log that a pass over the entries finds
abbrev pub FullIsFound : Type 0
FullIsFound = (limit : ℕ) (trace : List (Entry Msg Line)) (s : ℕ) → IsFirstFull limit trace s
    ↔ (first_beyond limit [] trace ≡ Some s)

-- the pass finds nothing exactly if all logs are within the limit
abbrev pub WithinIsNotFull : Type 0
WithinIsNotFull = (limit : ℕ) (trace : List (Entry Msg Line)) →
    ((s : ℕ) → length (log_of receiver s trace) ≤ limit) ↔ (first_beyond limit [] trace ≡ None)

-- the logs of one clone's run, with decisions for stations, are within the limit, or the run meets it
abbrev pub WithinOrMetAlone : Type 0
WithinOrMetAlone = (net : Net) → IsNet net → (c : Clone) → AreForStations (simulation net) c.plans →
    IsWithin net c ⊎ ((s : ℕ) × MeetsLimitAlone net c s)

-- never both for a clone's run
abbrev pub NotWithinAndMetAlone : Type 0
NotWithinAndMetAlone = (net : Net) (c : Clone) (s : ℕ) → IsWithin net c → MeetsLimitAlone net c s → ⊥

-- the report's total is the number of messages handled once at all stations
abbrev pub TotalIsOfReport : Type 0
TotalIsOfReport = (net : Net) (clones : List Clone) →
    sum_by (λ f. f.handled) (figures_to net clones (length net.sites)) ≡ total_handled net clones net.horizon

-- the report's total is no more than the limit allows
abbrev pub TotalIsFew : Type 0
TotalIsFew = (net : Net) (clones : List Clone) → AreWithin net clones
    → total_handled net clones net.horizon ≤ most_handled net (length clones)
