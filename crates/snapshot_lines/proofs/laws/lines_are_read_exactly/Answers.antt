use Rattle.snapshot_lines.proofs.ExactLines.{line-head, line-message, line-pending, line-station, line-trace}
use Rattle.snapshot_lines.proofs.laws.lines_are_read_exactly.Goals as goal

pub returns-clause-head : goal.returns-clause-head
returns-clause-head c = line-head.joined

pub returns-clause-station : goal.returns-clause-station
returns-clause-station c = λ station links small. (line-station station links small).joined

pub returns-clause-pending : goal.returns-clause-pending
returns-clause-pending c = line-pending.joined

pub returns-clause-message : goal.returns-clause-message
returns-clause-message c = line-message.joined

pub returns-clause-trace : goal.returns-clause-trace
returns-clause-trace c = line-trace.joined
