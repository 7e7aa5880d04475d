-- Whether two entries of a log are equal, including a job's time of birth.
use Rattle.std.specs.Prelude.{◌≡◌, Bool, false, ◌&&◌, ◌==◌}
use Rattle.std.specs.Bool.{Decides}
use Rattle.std.specs.Ordering.{is_eq}
use Rattle.sim_base.specs.Order.{msg_cmp}
use Rattle.sim_base.specs.declared.message.Msg.{Msg}
use Rattle.sim_base.specs.declared.entry.Entry.{Entry}
use Rattle.sim_base.specs.declared.entry.Line.{Line}
use Rattle.sim_base.specs.declared.entry.Line.TheVariants.{Source, Server, Passed, Sink}

-- the same counts
abbrev pub same_line : Line → Line → Bool
same_line (Source sent) (Source sent') = sent == sent'
same_line (Server busy wait done lost) (Server busy' wait' done' lost') =
    (busy == busy' && wait == wait') && (done == done' && lost == lost')
same_line (Passed passed) (Passed passed') = passed == passed'
same_line (Sink got stay) (Sink got' stay') = got == got' && stay == stay'
same_line _ _ = false

-- the same message with the same counts
abbrev pub same_entry : Entry Msg Line → Entry Msg Line → Bool
same_entry e f = is_eq (msg_cmp e.msg f.msg) && same_line e.line f.line

-- two entries are the same exactly when they are equal
abbrev pub EntriesAreToldApart : Type 0
EntriesAreToldApart = (e f : Entry Msg Line) → Decides (same_entry e f) (e ≡ f)
