use Rattle.checkpoint.proofs.Firsts.{first_bad_is_first, first_unfit_is_first}
use Rattle.checkpoint.proofs.laws.refusals_name_the_first.Goals as goal

pub returns-clause-unfit : goal.returns-clause-unfit
returns-clause-unfit c = λ net. first_unfit_is_first net

pub returns-clause-bad : goal.returns-clause-bad
returns-clause-bad c = λ net. first_bad_is_first net
