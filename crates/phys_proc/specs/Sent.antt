-- Sent messages.
use Rattle.sim_base.specs.declared.message.Msg.{Msg}
use Rattle.phys_proc.specs.declared.sent.SentMsg.{SentMsg}
use Rattle.phys_proc.specs.declared.sent.SentMsg.TheVariants.{Packed, Whole}

-- the message
abbrev pub msg_in : SentMsg → Msg
msg_in (Packed m) = m
msg_in (Whole m) = m
