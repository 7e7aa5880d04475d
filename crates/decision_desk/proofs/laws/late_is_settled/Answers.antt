use Rattle.decision_desk.proofs.Lates.{late_is_settled}
use Rattle.decision_desk.proofs.laws.late_is_settled.Goals as goal

pub returns : goal.returns
returns c = record { settled = λ net. late_is_settled net }
