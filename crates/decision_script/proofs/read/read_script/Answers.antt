use Rattle.decision_script.proofs.Readings.{read_is_script}
use Rattle.decision_script.proofs.read.read_script.Goals as goal

pub into_script-requires : goal.into_script-requires
into_script-requires c = record { valid = read_is_script c.args.text.now c.in-Ok.reader c.in-Ok.ensures.ok }
