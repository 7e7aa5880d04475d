-- The text of a run's snapshot.
use Rattle.std.proofs.Common.{ℕ, ◌≤◌, length, ap, arith}
use Rattle.std.specs.List.{flat_map}
use Rattle.sim_base.specs.Clones.{Clone}
use Rattle.sim_base.specs.declared.limits.TheConstants.{MAX_FILE_BYTES}
use Rattle.run_laws.specs.Runs.{run}
use Rattle.net_model.specs.Net.{Net}
use Rattle.net_model.specs.Rules.{IsNet}
use Rattle.stations.specs.Runs.{simulation}
use Rattle.trace_report.specs.TraceText.{entry_line}
use Rattle.checkpoint.specs.RunSnapshots.{HasSnapshot, snapshot_of}
use Rattle.checkpoint.proofs.ResumedTexts.{lines_text-trace_lines, resumed_text_is_whole}
use Rattle.checkpoint.proofs.RunSnapshots.{run_is_accepted}
use Rattle.snapshot_text.specs.Laws.{IsReadFrom}
use Rattle.snapshot_text.specs.SnapshotTexts.{text_of}
use Rattle.snapshot_text.proofs.TextLaws.{read_back}
use Rattle.snapshot_text.proofs.TextParts.{lines_of_text}

-- its text has the lines of the trace
pub trace-of_text : (net : Net) → IsNet net → (c : Clone) (front : ℕ)
    → length (flat_map (entry_line net) (run (simulation net) c.plans front).at.trace)
    ≤ length (text_of net (snapshot_of net c front))
trace-of_text net valid c front =
    let same = ap length (lines_text-trace_lines net valid (run (simulation net) c.plans front).at.trace) in
    let part = lines_of_text net (snapshot_of net c front) in
    omega (arith, same, part)

pub resumed_run : (net : Net) → IsNet net → (c : Clone) (front : ℕ) → HasSnapshot net c front
    → length (text_of net (snapshot_of net c front)) ≤ MAX_FILE_BYTES
    → IsReadFrom net c front (text_of net (snapshot_of net c front))
resumed_run net valid c front has at_most = record {
  read = read_back net valid (snapshot_of net c front) (run_is_accepted net valid c front has) at_most;
  resumed = resumed_text_is_whole net valid c front has;
}
