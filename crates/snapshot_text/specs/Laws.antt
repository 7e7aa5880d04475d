-- What is proved of the text of a snapshot.
use Rattle.std.specs.Prelude.{◌≡◌, ℕ, ◌≤◌, List, length, Ok}
use Rattle.std.specs.List.{flat_map}
use Rattle.sim_base.specs.Clones.{Clone}
use Rattle.sim_base.specs.declared.limits.TheConstants.{MAX_FILE_BYTES}
use Rattle.run_laws.specs.Runs.{run}
use Rattle.net_model.specs.Net.{Net}
use Rattle.stations.specs.Runs.{simulation}
use Rattle.trace_report.specs.Outputs.{clone_text}
use Rattle.trace_report.specs.TraceText.{entry_line}
use Rattle.checkpoint.specs.Accepted.{IsAccepted}
use Rattle.checkpoint.specs.RunSnapshots.{HasSnapshot, snapshot_of}
use Rattle.checkpoint.specs.Snapshots.{SnapshotView, resumed_text}
use Rattle.snapshot_text.specs.SnapshotTexts.{text_of}
use Rattle.snapshot_text.specs.Reading.{snapshot}

module _ (net : Net) where
  -- the text of a snapshot from which a run may go on is read as that snapshot, if it is not too long
  abbrev pub TextIsReadBack : Type 0
  TextIsReadBack = (x : SnapshotView) → IsAccepted net x → length (text_of net x) ≤ MAX_FILE_BYTES
      → snapshot net (text_of net x) ≡ Ok x

  -- a text is that of such a snapshot
  pub record IsTextOf (x : SnapshotView) (text : List ℕ) : Type 0 where
    pub text_is : text ≡ text_of net x
    pub accepted : IsAccepted net x
    pub at_most : length text ≤ MAX_FILE_BYTES

  -- and no other text is read as it
  abbrev pub OnlyTextsAreRead : Type 0
  OnlyTextsAreRead = (x : SnapshotView) (text : List ℕ) → snapshot net text ≡ Ok x → IsTextOf x text

  -- the text of a run's snapshot has all lines of the trace, so it is at least as long as these
  abbrev pub LinesAreOfText : Type 0
  LinesAreOfText = (c : Clone) (front : ℕ)
      → length (flat_map (entry_line net) (run (simulation net) c.plans front).at.trace)
      ≤ length (text_of net (snapshot_of net c front))

  -- what is read from the text of a run's snapshot
  pub record IsReadFrom (c : Clone) (front : ℕ) (text : List ℕ) : Type 0 where
    pub read : snapshot net text ≡ Ok (snapshot_of net c front)
    pub resumed : resumed_text net (snapshot_of net c front) ≡ clone_text net c

  -- the text of a run's snapshot is read, and the run from it has the trace text of the clone
  abbrev pub SavedRunIsResumed : Type 0
  SavedRunIsResumed = (c : Clone) (front : ℕ) → HasSnapshot net c front
      → length (text_of net (snapshot_of net c front)) ≤ MAX_FILE_BYTES
      → IsReadFrom c front (text_of net (snapshot_of net c front))
