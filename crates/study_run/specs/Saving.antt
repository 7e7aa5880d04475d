-- What is saved of a clone, and why nothing is.
use Rattle.std.specs.Prelude.{◌≡◌, ℕ, ◌+◌, ◌<◌, ◌≤◌, List, length, Some}
use Rattle.sim_base.specs.Clones.{Clone}
use Rattle.sim_base.specs.declared.limits.TheConstants.{MAX_FILE_BYTES}
use Rattle.net_model.specs.Net.{HasStation, Net}
use Rattle.stations.specs.Runs.{trace_of}
use Rattle.study_run.specs.Limits.{IsWithin, MeetsLimitAlone, last_time, until}
use Rattle.study_run.specs.Work.{IsFew}
use Rattle.solo_run.specs.Limit.{first_beyond}
use Rattle.solo_run.specs.SoloView.{Entries}
use Rattle.checkpoint.specs.Laws.{IsPastOf}
use Rattle.checkpoint.specs.RunSnapshots.{snapshot_of}
use Rattle.checkpoint.specs.Snapshots.{SnapshotView, onward}
use Rattle.snapshot_text.specs.SnapshotTexts.{text_of}
use Rattle.study_run.specs.declared.saving.SaveFault.{SaveFault}
use Rattle.study_run.specs.declared.saving.SaveFault.TheVariants.{NoMemory, TooLong, LimitMet}

-- the text of a clone that is stopped at a time: that of its snapshot there, or at its end or the horizon if they are
-- earlier
abbrev pub saved_text : Net → ℕ → Clone → List ℕ
saved_text net time c = text_of net (snapshot_of net c (last_time net time c))

-- the clone was run until then, one step for each message, and no log is beyond the limit
pub record HasRunUntil (net : Net) (time : ℕ) (c : Clone) (old_steps new_steps : ℕ) : Type 0 where
  pub within : IsWithin net (until net time c)
  pub steps : new_steps ≡ old_steps + length (trace_of net (until net time c))

-- the clone was run until then, and this is its text
pub record IsSaved (net : Net) (time : ℕ) (c : Clone) (old_steps new_steps : ℕ) (text : List ℕ) : Type 0 where
  pub has_run : HasRunUntil net time c old_steps new_steps
  pub text_is : text ≡ saved_text net time c
  pub at_most : length text ≤ MAX_FILE_BYTES

-- the clone was run until then, and its text is longer than a file may be
pub record IsTooLong (net : Net) (time : ℕ) (c : Clone) (old_steps new_steps : ℕ) : Type 0 where
  pub has_run : HasRunUntil net time c old_steps new_steps
  pub too_long : MAX_FILE_BYTES < length (saved_text net time c)

-- the clone's run until then meets the limit at a station, and no more was handled than the limit allows
pub record StopsUntil (net : Net) (time : ℕ) (c : Clone) (old_steps new_steps station : ℕ) : Type 0 where
  pub meets : MeetsLimitAlone net (until net time c) station
  pub at_most : IsFew net 1 old_steps new_steps

-- the causes of a fault: out of memory has none
abbrev pub IsFault : Net → ℕ → Clone → ℕ → ℕ → SaveFault → Type 0
IsFault net time c old_steps new_steps NoMemory = Unit {0}
IsFault net time c old_steps new_steps TooLong = IsTooLong net time c old_steps new_steps
IsFault net time c old_steps new_steps (LimitMet station) = StopsUntil net time c old_steps new_steps station

-- the run from a snapshot meets the limit at a station, where the messages that were handled before count too
pub record MeetsLimitOnward (net : Net) (x : SnapshotView) (station : ℕ) : Type 0 where
  pub is_station : HasStation net station
  pub first : (past : Entries) → IsPastOf net x past → first_beyond net.limit past (onward net x) ≡ Some station
