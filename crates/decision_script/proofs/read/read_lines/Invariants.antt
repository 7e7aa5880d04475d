use Rattle.std.proofs.Common.{◌≡◌, length}
use Rattle.decision_script.specs.Lines.{lines}
use Rattle.decision_script.specs.Reading.{after_lines, new_reader}
use Rattle.decision_script.proofs.read.read_lines.Given as goal

abbrev pub invariant-lines : goal.invariant-lines
invariant-lines l = after_lines l.left.line l.reader l.left.texts ≡ after_lines 1 new_reader (lines l.text)

abbrev pub decreases-lines : goal.decreases-lines
decreases-lines l = length l.left.texts
