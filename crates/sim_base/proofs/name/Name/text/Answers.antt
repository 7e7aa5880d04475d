use Rattle.sim_base.proofs.NameBytes.{name_is_text}
use Rattle.sim_base.proofs.name.Name.text.Goals as goal

pub unreachable-requires : goal.unreachable-requires
unreachable-requires c = c.in-Err.ensures.cases.0 (name_is_text c.as_bytes.result.now c.as_bytes.ensures.named)
