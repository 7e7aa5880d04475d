-- What is proved of snapshots, in words that contracts cite.
use Rattle.std.specs.Prelude.{◌≡◌, ◌⊎◌, ℕ, ◌+◌, ◌<◌, ◌≤◌, ◌*◌, List, ◌++◌, length, slice_get, Some, None}
use Rattle.std.specs.List.{sum_by}
use Rattle.sim_base.specs.Clones.{Clone}
use Rattle.run_laws.specs.Runs.{run}
use Rattle.run_laws.specs.World.{log_of}
use Rattle.net_model.specs.Net.{Net, HasStation}
use Rattle.solo_run.specs.Limit.{receiver, first_beyond}
use Rattle.solo_run.specs.SoloView.{Entries, IsSoloAfter}
use Rattle.solo_run.specs.declared.turn.SoloFault.{SoloFault}
use Rattle.solo_run.specs.declared.turn.SoloFault.TheVariants.{NoMemory, Limit}
use Rattle.stations.specs.Handling.{StateView}
use Rattle.stations.specs.Runs.{simulation, trace_of}
use Rattle.trace_report.specs.Outputs.{clone_text}
use Rattle.checkpoint.specs.Accepted.{IsAccepted}
use Rattle.checkpoint.specs.RunSnapshots.{HasSnapshot, snapshot_of}
use Rattle.checkpoint.specs.Snapshots.{SnapshotView, onward, opened, restored_from, resumed_text}

-- past entries in which each station has handled as many messages as its state counts
pub record HasHandled (states : List StateView) (past : Entries) : Type 0 where
  pub each : (i : ℕ) (st : StateView) → slice_get states i ≡ Some st →
      st.handled ≡ length (log_of receiver (i + 1) past)
  pub none : (s : ℕ) → (s ≡ 0) ⊎ (length states < s) → length (log_of receiver s past) ≡ 0
  pub total : length past ≡ sum_by (λ st. st.handled) states

module _ (net : Net) where
  -- past entries that the states of a snapshot count
  abbrev pub IsPastOf : SnapshotView → Entries → Type 0
  IsPastOf x past = HasHandled (restored_from net 1 x.saved) past

  -- a run may go on from an accepted snapshot, whatever was handled before
  abbrev pub AcceptedMayGoOn : Type 0
  AcceptedMayGoOn = (x : SnapshotView) (past : Entries) → IsAccepted net x → IsPastOf x past →
      IsSoloAfter net past (opened net x)

  -- the snapshot of a run is accepted
  abbrev pub RunIsAccepted : Type 0
  RunIsAccepted = (c : Clone) (front : ℕ) → HasSnapshot net c front → IsAccepted net (snapshot_of net c front)

  -- and the trace of its clone is the trace of the run so far, followed by the entries of the run from the snapshot
  abbrev pub ResumedRunIsUnbroken : Type 0
  ResumedRunIsUnbroken = (c : Clone) (front : ℕ) → HasSnapshot net c front →
      trace_of net c ≡ (run (simulation net) c.plans front).at.trace ++ onward net (snapshot_of net c front)

  -- so the text of the resumed run is the trace text of the clone
  abbrev pub ResumedTextIsWhole : Type 0
  ResumedTextIsWhole = (c : Clone) (front : ℕ) → HasSnapshot net c front →
      resumed_text net (snapshot_of net c front) ≡ clone_text net c

  -- why a run from a snapshot stops. Out of memory needs no cause. At the limit, the station is that of the first
  -- message beyond it, where the counts of handled messages go on from the snapshot's
  abbrev pub StopsOnward : SnapshotView → ℕ → ℕ → SoloFault → Type 0
  StopsOnward x old_steps new_steps NoMemory = Unit {0}
  StopsOnward x old_steps new_steps (Limit station kept) =
      (kept ≡ net.limit) × HasStation net station × (new_steps ≤ old_steps + length net.sites * net.limit)
      × ((past : Entries) → IsPastOf x past → first_beyond net.limit past (onward net x) ≡ Some station)

  -- no station handles more messages than the limit, those before the snapshot included
  abbrev pub StaysOnward : SnapshotView → Type 0
  StaysOnward x = (past : Entries) → IsPastOf x past → first_beyond net.limit past (onward net x) ≡ None
