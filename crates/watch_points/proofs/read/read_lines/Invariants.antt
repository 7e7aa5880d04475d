use Rattle.std.proofs.Common.{◌≡◌, length, []}
use Rattle.decision_script.specs.Lines.{lines}
use Rattle.watch_points.specs.Reading.{after_lines}
use Rattle.watch_points.proofs.read.read_lines.Given as goal

abbrev pub invariant-lines : goal.invariant-lines
invariant-lines l = after_lines l.left.line l.watches l.left.texts ≡ after_lines 1 [] (lines l.text)

abbrev pub decreases-lines : goal.decreases-lines
decreases-lines l = length l.left.texts
