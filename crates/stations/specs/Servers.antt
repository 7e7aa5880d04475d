-- Servers: jobs in service, and waiting jobs. This is the definition of a server, step by step. `queue_stats` proves
-- from it that a server's log is the history of a queue.
use Rattle.std.specs.Prelude.{ℕ, zero, suc, ◌+◌, ◌-◌, ◌==◌, nat_lt, min, if◌then◌else◌, List}
use Rattle.std.specs.Prelude.{[], ◌∷◌, ◌++◌, length, remove, slice_get, Option, Some, None}
use Rattle.std.specs.List.{position_or_len}
use Rattle.sim_base.specs.declared.message.Job.{Job as JobOf}
use Rattle.sim_base.specs.declared.message.Change.{Change}
use Rattle.sim_base.specs.declared.message.Param.{Param}
use Rattle.sim_base.specs.declared.message.Param.TheVariants.{Service, Servers, Room}
use Rattle.sim_base.specs.declared.message.Payload.{Payload}
use Rattle.sim_base.specs.declared.message.Payload.TheVariants.{Tick, Job, Done, Set}
use Rattle.net_model.specs.Net.{Net, Site, class_from, serves_by_class}
use Rattle.stations.specs.declared.kind_state.ServerState.{ServerState}
use Rattle.stations.specs.Sending.{Outgoing, Reaction, reaction, send_later, route}
use Rattle.stations.specs.Changes.{is_accepted}

-- the class of a job is that of its source
abbrev pub class_of : Net → JobOf → ℕ
class_of net job = class_from net job.source

-- the least of a class and the classes of jobs
abbrev pub least_class : Net → ℕ → List JobOf → ℕ
least_class net n [] = n
least_class net n (j ∷ js) = least_class net (min n (class_of net j)) js

-- the place of the first job of a class, or the length of the line
abbrev pub place_of_class : Net → ℕ → List JobOf → ℕ
place_of_class net n jobs = position_or_len (λ job. class_of net job == n) jobs

-- the least class in a waiting line
abbrev pub least_in : Net → List JobOf → ℕ
least_in net [] = 1
least_in net (j ∷ js) = least_class net (class_of net j) js

-- the place of the next job in the waiting line: the first, or the first of the least class
abbrev pub next_place : Net → Site → List JobOf → ℕ
next_place net site jobs = if serves_by_class site.kind then place_of_class net (least_in net jobs) jobs else 0

-- the service of a job starts, and ends after a time from the server's range
abbrev pub start : ℕ → JobOf → ServerState → Outgoing → Reaction ServerState
start now job s o = reaction (record s { busy = s.busy + 1 }) (send_later now s.lo s.hi (Done job) o)

-- the job at a place of the waiting line leaves it, and its service starts
abbrev pub start_at : ℕ → ℕ → Option JobOf → ServerState → Outgoing → Reaction ServerState
start_at now place None s o = reaction s o
start_at now place (Some job) s o = start now job (record s { waiting = remove s.waiting place }) o

-- if a server is free, the service of the next waiting job starts
abbrev pub start_next : Net → Site → ℕ → ServerState → Outgoing → Reaction ServerState
start_next net site now s o =
    let place = next_place net site s.waiting in
    if nat_lt s.busy s.servers then start_at now place (slice_get s.waiting place) s o else reaction s o

-- the same `n` times
abbrev pub start_times : ℕ → Net → Site → ℕ → Reaction ServerState → Reaction ServerState
start_times zero net site now r = r
start_times (suc n) net site now r = start_times n net site now (start_next net site now r.state r.out)

-- a job arrives: into service, into the waiting line, or lost if the line is full
abbrev pub server_job : ℕ → JobOf → ServerState → Outgoing → Reaction ServerState
server_job now job s o =
    if nat_lt s.busy s.servers then start now job s o
    else if nat_lt (length s.waiting) s.room then reaction (record s { waiting = s.waiting ++ job ∷ [] }) o
    else reaction (record s { lost = s.lost + 1 }) o

-- a service ends: the job moves on, and the service of the next one starts
abbrev pub server_done : Net → Site → ℕ → JobOf → ServerState → Outgoing → Reaction ServerState
server_done net site now job s o =
    if nat_lt 0 s.busy
    then start_next net site now (record s { busy = s.busy - 1; done = s.done + 1 }) (route site.links now job o)
    else reaction s o

-- a parameter changes. Present services do not change, and no waiting job is turned away. If servers are added, waiting
-- jobs are served until all servers are busy or no job waits
abbrev pub server_change : Net → Site → ℕ → Param → ℕ → ℕ → ServerState → Outgoing → Reaction ServerState
server_change net site now Service a b s o = reaction (record s { lo = a; hi = b }) o
server_change net site now Room a b s o = reaction (record s { room = a }) o
server_change net site now Servers a b s o =
    start_times (a - s.busy) net site now (reaction (record s { servers = a }) o)
server_change net site now _ a b s o = reaction s o

-- a change is made if the server accepts it
abbrev pub server_set : Net → Site → ℕ → Change → ServerState → Outgoing → Reaction ServerState
server_set net site now c s o =
    if is_accepted site c then server_change net site now c.param c.a c.b s o else reaction s o

-- a server handles a message: a job arrives, a service ends, a change is made, and a tick is ignored
abbrev pub server_on : Net → Site → ℕ → Payload → ServerState → Outgoing → Reaction ServerState
server_on net site now (Job j) s o = server_job now j s o
server_on net site now (Done j) s o = server_done net site now j s o
server_on net site now (Set c) s o = server_set net site now c s o
server_on net site now Tick s o = reaction s o
