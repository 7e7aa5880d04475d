-- An entry as a log stores it.
use Rattle.sim_base.specs.declared.entry.Entry.{Entry}
use Rattle.sim_base.specs.declared.entry.Line.{Line}
use Rattle.sim_base.specs.declared.message.Msg.{Msg}
use Rattle.log_chain.specs.Packing.{unpacked_entry}
use Rattle.log_chain.specs.declared.stored.StoredEntry.{StoredEntry}
use Rattle.log_chain.specs.declared.stored.StoredEntry.TheVariants.{Packed, Whole}

-- the entry
abbrev pub entry_in : StoredEntry → Entry Msg Line
entry_in (Packed p) = unpacked_entry p.now
entry_in (Whole e) = e.now
