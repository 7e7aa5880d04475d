use Rattle.decision_book.proofs.OwnScripts.{own_script_suffices as law}
use Rattle.decision_book.proofs.laws.own_script_suffices.Goals as goal

pub returns : goal.returns
returns c = law
