use Rattle.snapshot_lines.proofs.ExactTexts.{lines-are_read, text-of_lines, first-bad_line}
use Rattle.snapshot_lines.proofs.exact_laws.texts_are_exact.Goals as goal

pub returns-clause-read : goal.returns-clause-read
returns-clause-read g c = lines-are_read g.T.LineReader.step g.T.LineReader.ends

pub returns-clause-exact : goal.returns-clause-exact
returns-clause-exact g c = text-of_lines g.T.LineReader.step g.T.LineReader.ends

pub returns-clause-bad : goal.returns-clause-bad
returns-clause-bad g c = first-bad_line g.T.LineReader.step g.T.LineReader.ends
