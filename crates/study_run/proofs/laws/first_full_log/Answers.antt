use Rattle.study_run.proofs.Fulls.{full_is_found, full_is_longer, full_is_one, not_both_alone}
use Rattle.study_run.proofs.Fulls.{within_is_not_full, within_or_met_alone}
use Rattle.study_run.proofs.laws.first_full_log.Goals as goal

pub returns-clause-one : goal.returns-clause-one
returns-clause-one c = full_is_one

pub returns-clause-found : goal.returns-clause-found
returns-clause-found c = full_is_found

pub returns-clause-within : goal.returns-clause-within
returns-clause-within c = within_is_not_full

pub returns-clause-either : goal.returns-clause-either
returns-clause-either c = within_or_met_alone

pub returns-clause-not_both : goal.returns-clause-not_both
returns-clause-not_both c = not_both_alone

pub returns-clause-longer : goal.returns-clause-longer
returns-clause-longer c = full_is_longer
