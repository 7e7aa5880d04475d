use Rattle.std.proofs.Common.{◌≡◌, ◌+◌, ◌*◌, ◌^◌, ◌≤◌, drop, length}
use Rattle.std.specs.List.{flat_map}
use Rattle.snapshot_lines.specs.Texts.{ended}
use Rattle.snapshot_text.specs.SnapshotTexts.{station_lines}
use Rattle.snapshot_text.proofs.write.stations_len.Given as goal

abbrev pub invariant-loop-s : goal.invariant-loop-s
invariant-loop-s l =
    (l.len + length (flat_map ended (station_lines l.model (1 + l.s) (drop l.s l.saved)))
    ≡ length (flat_map ended (station_lines l.model 1 l.saved)))
    × (l.len ≤ l.s * 2 ^ 73)
