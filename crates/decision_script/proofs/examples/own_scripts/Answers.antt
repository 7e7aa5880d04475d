use Rattle.std.proofs.Common.{refl}
use Rattle.std.specs.Fmt.{digits}
use Rattle.decision_script.specs.Printing.{canonical_text}
use Rattle.decision_script.proofs.examples.own_scripts.Goals as goal

pub returns-clause-second : goal.returns-clause-second
unfolding canonical_text digits
returns-clause-second c = refl

pub returns-clause-inherited : goal.returns-clause-inherited
unfolding canonical_text digits
returns-clause-inherited c = refl

pub returns-clause-base : goal.returns-clause-base
unfolding canonical_text
returns-clause-base c = refl
