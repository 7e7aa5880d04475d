use Rattle.live_study.proofs.Staying.{logs_stay}
use Rattle.live_study.proofs.StayingLooks.{glances_stay_true, looks_stay_true}
use Rattle.live_study.proofs.laws.looks_stay_true.Goals as goal

pub returns-clause-logs : goal.returns-clause-logs
returns-clause-logs c net valid = logs_stay net valid

pub returns-clause-looks : goal.returns-clause-looks
returns-clause-looks c net valid = looks_stay_true net valid

pub returns-clause-glances : goal.returns-clause-glances
returns-clause-glances c net valid = glances_stay_true net valid
