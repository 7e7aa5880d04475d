use Rattle.std.proofs.Common.{refl}
use Rattle.std.specs.Fmt.{digits}
use Rattle.decision_script.specs.Printing.{canonical_text}
use Rattle.decision_script.proofs.examples.canonical_texts.Goals as goal

pub returns-clause-clones : goal.returns-clause-clones
unfolding canonical_text digits
returns-clause-clones c = refl

pub returns-clause-planners : goal.returns-clause-planners
unfolding canonical_text
returns-clause-planners c = refl
