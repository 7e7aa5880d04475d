use Rattle.clone_sets.proofs.SetLaws.{has-union, common_none, common_some}
use Rattle.clone_sets.proofs.laws.sets_are_marks.Goals as goal

pub returns-clause-join : goal.returns-clause-join
returns-clause-join c = record { joined = has-union }

pub returns-clause-meet : goal.returns-clause-meet
returns-clause-meet c = record { none = common_none; some = common_some }
