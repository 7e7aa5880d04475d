use Rattle.snapshot_text.proofs.TextLaws.{only_texts, read_back}
use Rattle.snapshot_text.proofs.laws.texts_are_exact.Goals as goal

pub returns-clause-back : goal.returns-clause-back
returns-clause-back c = λ net valid x ok at_most. read_back net valid x ok at_most

pub returns-clause-only : goal.returns-clause-only
returns-clause-only c = λ net valid x text e. only_texts net valid x text e
