-- The first log that goes beyond the limit.
use Rattle.std.specs.Prelude.{ℕ, List, [], ◌∷◌, ◌++◌, length, nat_le, if◌then◌else◌, Option, Some, None}
use Rattle.sim_base.specs.declared.message.Msg.{Msg}
use Rattle.sim_base.specs.declared.entry.Entry.{Entry}
use Rattle.sim_base.specs.declared.entry.Line.{Line}
use Rattle.run_laws.specs.World.{log_of}

-- the station that a message is for
abbrev pub receiver : Msg → ℕ
receiver m = m.to

-- the station of the first entry whose log already has as many entries as it may have; `seen` has the entries before
abbrev pub first_beyond : ℕ → List (Entry Msg Line) → List (Entry Msg Line) → Option ℕ
first_beyond limit seen [] = None
first_beyond limit seen (e ∷ es) =
    if nat_le limit (length (log_of receiver e.msg.to seen)) then Some e.msg.to
    else first_beyond limit (seen ++ e ∷ []) es
