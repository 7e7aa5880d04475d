-- What is proved of saved runs.
use Rattle.std.specs.Prelude.{◌≡◌, ℕ, ◌+◌, ◌<◌, ◌≤◌, List, length}
use Rattle.sim_base.specs.Clones.{Clone, clone_at}
use Rattle.sim_base.specs.declared.limits.TheConstants.{MAX_FILE_BYTES}
use Rattle.net_model.specs.Net.{Net}
use Rattle.stations.specs.Runs.{trace_of}
use Rattle.decision_book.specs.Plans.{ArePlanned}
use Rattle.study_run.specs.Limits.{IsWithin, MeetsLimitAlone, last_time, until}
use Rattle.checkpoint.specs.Laws.{StaysOnward}
use Rattle.checkpoint.specs.RunSnapshots.{snapshot_of}
use Rattle.checkpoint.specs.Snapshots.{onward}
use Rattle.snapshot_text.specs.Laws.{IsReadFrom}
use Rattle.study_run.specs.SayableRuns.{AreSayable}
use Rattle.study_run.specs.Saving.{MeetsLimitOnward, saved_text}

-- what the text of a clone that was stopped at a time leads to: it is read back as the clone's snapshot. The run from
-- it has the text of the clone's whole run. The two parts handle as many messages as the whole. The run from it meets
-- the limit where the whole run meets it, or neither does
pub record IsResumed (net : Net) (time : ℕ) (c : Clone) : Type 0 where
  pub back : IsReadFrom net c (last_time net time c) (saved_text net time c)
  pub count : length (trace_of net (until net time c)) + length (onward net (snapshot_of net c (last_time net time c)))
      ≡ length (trace_of net c)
  pub within : StaysOnward net (snapshot_of net c (last_time net time c)) → IsWithin net c
  pub meets : (station : ℕ) → MeetsLimitOnward net (snapshot_of net c (last_time net time c)) station
      → MeetsLimitAlone net c station

-- this holds for each clone that a book may have and that words can say, if the run until the time is within the limit
-- and its text is not too long
abbrev pub SavedRunsAreResumed : Net → Type 0
SavedRunsAreResumed net = (clones : List Clone) (k time : ℕ) → ArePlanned net clones → AreSayable clones
    → k < length clones → IsWithin net (until net time (clone_at clones k))
    → length (saved_text net time (clone_at clones k)) ≤ MAX_FILE_BYTES → IsResumed net time (clone_at clones k)
