use Rattle.std.proofs.Common.{◌≡◌, ◌+◌, ◌≤◌, length, None}
use Rattle.std.specs.List.{slice_split}
use Rattle.snapshot_lines.specs.Texts.{is_newline, read_parts, read_text}
use Rattle.snapshot_text.specs.Reading.{ends, step}
use Rattle.snapshot_text.proofs.read.read_lines.Given as goal

abbrev pub invariant-lines : goal.invariant-lines
invariant-lines l = record {
  same : read_parts (step l.model) ends l.line l.reader (slice_split is_newline l.rest)
      ≡ read_text (step l.model) ends None l.text;
  at_most : l.line + length l.rest ≤ length l.text + 1;
}

abbrev pub decreases-lines : goal.decreases-lines
decreases-lines l = length l.rest
