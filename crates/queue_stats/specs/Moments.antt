-- A server's log as the history of its queue: when jobs arrived, were lost or departed, and the numbers in service and
-- waiting after each event.
use Rattle.std.specs.Prelude.{ℕ, ◌+◌, ◌&&◌, ◌==◌, List, [], ◌∷◌, Bool, true, false, nat_lt, if◌then◌else◌}
use Rattle.sim_base.specs.declared.message.Job.{Job as JobOf}
use Rattle.sim_base.specs.declared.message.Msg.{Msg}
use Rattle.sim_base.specs.declared.message.Payload.{Payload}
use Rattle.sim_base.specs.declared.message.Payload.TheVariants.{Tick, Job, Done, Set}
use Rattle.sim_base.specs.declared.entry.Entry.{Entry}
use Rattle.sim_base.specs.declared.entry.Line.{Line}
use Rattle.sim_base.specs.declared.entry.Line.TheVariants.{Server}

-- the number of jobs in service in a line, 0 if it is not a server's
abbrev pub busy_in : Line → ℕ
busy_in (Server busy wait done lost) = busy
busy_in _ = 0

-- the number of waiting jobs
abbrev pub wait_in : Line → ℕ
wait_in (Server busy wait done lost) = wait
wait_in _ = 0

-- the number of jobs lost so far
abbrev pub lost_in : Line → ℕ
lost_in (Server busy wait done lost) = lost
lost_in _ = 0

-- an event at a queue: an admitted or a lost arrival, a departure at the end of a service, a change of a parameter, or
-- an unrelated event
pub data Event : Type 0 where
  visit : JobOf → Event
  loss : Event
  departure : JobOf → Event
  change : Event
  other : Event

-- the time of an event, and the numbers of jobs in service and waiting after it
pub record Moment : Type 0 where
  pub time : ℕ
  pub event : Event
  pub busy : ℕ
  pub wait : ℕ

-- the number of jobs in the system after an event
abbrev pub in_system : Moment → ℕ
in_system m = m.busy + m.wait

-- the event of a message, from the counts of lost jobs before and after it: an arriving job is lost if the count rises
abbrev pub event_of : Payload → ℕ → ℕ → Event
event_of (Job job) before after = if nat_lt before after then loss else visit job
event_of (Done job) before after = departure job
event_of (Set c) before after = change
event_of Tick before after = other

-- the moment of an entry, from the count of lost jobs before it
abbrev pub moment_of : ℕ → Entry Msg Line → Moment
moment_of before e = record {
  time = e.msg.key.time;
  event = event_of e.msg.payload before (lost_in e.line);
  busy = busy_in e.line;
  wait = wait_in e.line;
}

-- the moments of some entries, from the count of lost jobs before them
abbrev pub moments_after : ℕ → List (Entry Msg Line) → List Moment
moments_after before [] = []
moments_after before (e ∷ es) = moment_of before e ∷ moments_after (lost_in e.line) es

-- the moments of a whole log
abbrev pub moments : List (Entry Msg Line) → List Moment
moments log = moments_after 0 log

-- the count of lost jobs in the last entry, or the count before if there is no entry
abbrev pub last_lost : ℕ → List (Entry Msg Line) → ℕ
last_lost before [] = before
last_lost before (e ∷ es) = last_lost (lost_in e.line) es

-- ---- tests of events

-- whether an event is a visit of a job that passes a test
abbrev pub is_visit_by : (JobOf → Bool) → Event → Bool
is_visit_by p (visit job) = p job
is_visit_by p _ = false

-- whether an event is a departure of a job that passes a test
abbrev pub is_departure_by : (JobOf → Bool) → Event → Bool
is_departure_by p (departure job) = p job
is_departure_by p _ = false

-- whether an event is a visit
abbrev pub is_visit : Event → Bool
is_visit e = is_visit_by (λ j. true) e

-- whether an event is a loss
abbrev pub is_loss : Event → Bool
is_loss loss = true
is_loss _ = false

-- whether an event is a departure
abbrev pub is_departure : Event → Bool
is_departure e = is_departure_by (λ j. true) e

-- whether an event is a change of a parameter
abbrev pub is_change : Event → Bool
is_change change = true
is_change _ = false

-- whether two jobs are the same job
abbrev pub same_job : JobOf → JobOf → Bool
same_job j k = (j.source == k.source && j.count == k.count) && j.born == k.born

-- whether an event is a visit of this job
abbrev pub is_visit_of : JobOf → Event → Bool
is_visit_of j e = is_visit_by (same_job j) e

-- whether an event is a departure of this job
abbrev pub is_departure_of : JobOf → Event → Bool
is_departure_of j e = is_departure_by (same_job j) e
