use Rattle.study_run.proofs.Meeting.{meeting_is_found, meeting_is_one, not_both, within_is_not_found, within_or_met}
use Rattle.study_run.proofs.laws.limit_is_met_once.Goals as goal

pub returns-clause-one : goal.returns-clause-one
returns-clause-one c = meeting_is_one

pub returns-clause-found : goal.returns-clause-found
returns-clause-found c = meeting_is_found

pub returns-clause-within : goal.returns-clause-within
returns-clause-within c = within_is_not_found

pub returns-clause-either : goal.returns-clause-either
returns-clause-either c = within_or_met

pub returns-clause-not_both : goal.returns-clause-not_both
returns-clause-not_both c = not_both
