-- Entries of a log: their order by key.
use Rattle.std.specs.Prelude.{ℕ}
use Rattle.std.specs.declared.cmp.Ordering.{Ordering}
use Rattle.sim_base.specs.declared.entry.Entry.{Entry}
use Rattle.sim_base.specs.declared.entry.Line.{Line}
use Rattle.sim_base.specs.declared.message.Msg.{Msg}
use Rattle.sim_base.specs.Order.{key_order}

-- entries by the keys of their messages
abbrev pub entry_order : {M N : Type 0} → (M → ℕ) → (M → ℕ) → (M → ℕ) → Entry M N → Entry M N → Ordering
entry_order time sender number e f = key_order time sender number e.msg f.msg

-- entries by time, sender and number
abbrev pub by_key : Entry Msg Line → Entry Msg Line → Ordering
by_key = entry_order (λ (m : Msg). m.key.time) (λ m. m.key.sender) (λ m. m.key.number)
