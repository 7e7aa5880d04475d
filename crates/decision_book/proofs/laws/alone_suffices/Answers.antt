use Rattle.decision_book.proofs.AloneLaw.{alone_suffices as law}
use Rattle.decision_book.proofs.laws.alone_suffices.Goals as goal

pub returns : goal.returns
returns c = law
