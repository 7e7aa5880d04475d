use Rattle.decision_desk.proofs.Restings.{only_one}
use Rattle.decision_desk.proofs.pass.take_book.Goals as goal

pub exchange-requires : goal.exchange-requires
exchange-requires c = (c.requires.table.table, (_, only_one _ _ c.requires.held))
