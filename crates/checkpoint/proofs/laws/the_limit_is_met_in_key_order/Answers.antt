use Rattle.checkpoint.proofs.FirstBeyond.{first_beyond_is_first}
use Rattle.checkpoint.proofs.laws.the_limit_is_met_in_key_order.Goals as goal

pub returns : goal.returns
returns c = λ net valid. first_beyond_is_first net valid
