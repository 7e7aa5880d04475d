-- The order of messages, as the laws of ordered lists require it.
use Rattle.sim_base.specs.Order.{msg_cmp}
use Rattle.sim_base.proofs.OrderEqual.{msg_same}
use Rattle.sim_base.proofs.OrderLaws.{msg_total}
use Rattle.run_laws.specs.Handlers.{IsOrder}

-- the order of messages separates any two
pub messages_ordered : IsOrder msg_cmp
messages_ordered = record { total = msg_total; same = msg_same }
