use Rattle.decision_book.proofs.Scripts.{situation_of_script, script_is_right, accepted_adds}
use Rattle.decision_book.proofs.Scripts.{refused_first, accepted_leaves_no_refusal, refused_is_first}
use Rattle.decision_book.proofs.laws.scripts_are_decided.Goals as goal

pub returns-clause-situation : goal.returns-clause-situation
returns-clause-situation c = situation_of_script

pub returns-clause-right : goal.returns-clause-right
returns-clause-right c = script_is_right

pub returns-clause-accepted : goal.returns-clause-accepted
returns-clause-accepted c = accepted_adds

pub returns-clause-refused : goal.returns-clause-refused
returns-clause-refused c = refused_first

pub returns-clause-none : goal.returns-clause-none
returns-clause-none c = accepted_leaves_no_refusal

pub returns-clause-first : goal.returns-clause-first
returns-clause-first c = refused_is_first
