-- Snapshots of a clone's run, and the run from a snapshot.
use Rattle.std.specs.Prelude.{ℕ, suc, List, [], ◌∷◌, ◌++◌, codes, min, Option, unwrap_or}
use Rattle.std.specs.List.{flat_map}
use Rattle.sim_base.specs.declared.message.Msg.{Msg}
use Rattle.net_model.specs.Net.{Net}
use Rattle.stations.specs.Handling.{StateView}
use Rattle.stations.specs.Opening.{setup}
use Rattle.stations.specs.Saving.{restored}
use Rattle.stations.specs.declared.saved.Saved.{Saved}
use Rattle.solo_run.specs.SoloView.{Entries, SoloView}
use Rattle.solo_run.specs.Turns.{run_from}
use Rattle.trace_report.specs.TraceText.{entry_line}
use Rattle.checkpoint.specs.TraceLines.{lines_text}

-- a snapshot: the clone's name, the front of its run, the clone's end, the saved data of the stations in order, the
-- pending messages in order, and the lines of the trace so far
pub record SnapshotView : Type 0 where
  pub who : List ℕ
  pub front : ℕ
  pub end : Option ℕ
  pub saved : List Saved
  pub due : List Msg
  pub lines : List (List ℕ)

-- the states that saved data restores, from station s on. Data that restores none counts as an opening state
abbrev pub restored_from : Net → ℕ → List Saved → List StateView
restored_from net s [] = []
restored_from net s (x ∷ xs) = unwrap_or (restored net s x) (setup net s).state ∷ restored_from net (suc s) xs

-- the run that a snapshot opens: its states and its pending messages, with an empty trace
abbrev pub opened : Net → SnapshotView → SoloView
opened net x = record { states = restored_from net 1 x.saved; pending = x.due; trace = [] }

-- the time at which a run from a snapshot ends: the horizon, or the clone's end if that is earlier
abbrev pub last_of : Net → SnapshotView → ℕ
last_of net x = min net.horizon (unwrap_or x.end net.horizon)

-- the entries of the run from a snapshot
abbrev pub onward : Net → SnapshotView → Entries
onward net x = (run_from net (opened net x) (last_of net x)).at.trace

-- the text of a resumed run: the clone's name, the lines of the snapshot, and the lines of the run from it
abbrev pub resumed_text : Net → SnapshotView → List ℕ
resumed_text net x =
    codes "clone " ++ x.who ++ codes "\n" ++ lines_text x.lines ++ flat_map (entry_line net) (onward net x)
