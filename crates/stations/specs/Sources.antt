-- Sources: where jobs come from. This is the definition of a source, step by step.
use Rattle.std.specs.Prelude.{ℕ, ◌+◌, nat_lt, if◌then◌else◌}
use Rattle.sim_base.specs.declared.message.Job.{Job as JobOf}
use Rattle.sim_base.specs.declared.message.Change.{Change}
use Rattle.sim_base.specs.declared.message.Payload.{Payload}
use Rattle.sim_base.specs.declared.message.Payload.TheVariants.{Tick, Job, Done, Set}
use Rattle.net_model.specs.Net.{Site}
use Rattle.stations.specs.declared.kind_state.SourceState.{SourceState}
use Rattle.stations.specs.Sending.{Outgoing, Reaction, reaction, send_later, route}
use Rattle.stations.specs.Changes.{is_accepted}

-- the next job is due after a time from the source's range, if one is left
abbrev pub next_tick : ℕ → SourceState → Outgoing → Outgoing
next_tick now s o = if nat_lt s.sent s.jobs then send_later now s.lo s.hi Tick o else o

-- a source makes its next job and sends it on
abbrev pub source_ticks : Site → ℕ → SourceState → Outgoing → Reaction SourceState
source_ticks site now s o =
    let job : JobOf = record { source = o.sender.station; count = s.sent; born = now } in
    let t : SourceState = record s { sent = s.sent + 1 } in
    reaction t (next_tick now t (route site.links now job o))

-- the times between jobs change; a pending tick does not
abbrev pub source_set : Site → Change → SourceState → SourceState
source_set site c s = if is_accepted site c then record s { lo = c.a; hi = c.b } else s

-- a source handles a message: a tick makes a job, a change is made, and everything else is ignored
abbrev pub source_on : Site → ℕ → Payload → SourceState → Outgoing → Reaction SourceState
source_on site now Tick s o = source_ticks site now s o
source_on site now (Set c) s o = reaction (source_set site c s) o
source_on site now (Job j) s o = reaction s o
source_on site now (Done j) s o = reaction s o
