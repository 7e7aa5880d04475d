-- The invariant of a network's runs, in addition to that of every state of a station. Snapshots of runs rest on it.
use Rattle.std.specs.Prelude.{◌≡◌, ℕ, ◌+◌, ◌*◌, ◌<◌, ◌≤◌, ◌==◌, true, if◌then◌else◌}
use Rattle.std.specs.List.{AllByRecursion}
use Rattle.sim_base.specs.declared.message.Msg.{Msg}
use Rattle.sim_base.specs.declared.message.Payload.{Payload}
use Rattle.sim_base.specs.declared.message.Payload.TheVariants.{Tick, Job, Done, Set}
use Rattle.sim_base.specs.declared.entry.Line.{Line}
use Rattle.run_laws.specs.Machine.{Config}
use Rattle.run_laws.specs.World.{World}
use Rattle.net_model.specs.declared.station.Kind.{Kind}
use Rattle.net_model.specs.declared.station.Kind.TheVariants as kind
use Rattle.net_model.specs.Net.{Net, site_of}
use Rattle.stations.specs.declared.kind_state.KindState.{KindState}
use Rattle.stations.specs.declared.kind_state.KindState.TheVariants.{Source, Server, Delay, Router, Sink}
use Rattle.stations.specs.declared.sender.TheConstants.{MAX_EVENT_TIMES}
use Rattle.stations.specs.Fitting.{is_job_of}
use Rattle.stations.specs.Handling.{StateView}
use Rattle.checkpoint.specs.Tally.{tally}

-- a source of the network may have made the job that a message carries, before the horizon
abbrev pub CarriesJobOf : Net → Payload → Type 0
CarriesJobOf net (Job j) = is_job_of net j ≡ true
CarriesJobOf net (Done j) = is_job_of net j ≡ true
CarriesJobOf net Tick = Unit {0}
CarriesJobOf net (Set c) = Unit {0}

-- 1 for a tick, and 0 for any other message
abbrev pub ticks_in : Payload → ℕ
ticks_in Tick = 1
ticks_in (Job j) = 0
ticks_in (Done j) = 0
ticks_in (Set c) = 0

-- 1 for a service completion, and 0 for any other message
abbrev pub completions_in : Payload → ℕ
completions_in (Done j) = 1
completions_in Tick = 0
completions_in (Job j) = 0
completions_in (Set c) = 0

-- 1 for a tick to station s, and 0 for any other message
abbrev pub ticks_to : ℕ → Msg → ℕ
ticks_to s m = if m.to == s then ticks_in m.payload else 0

-- 1 for a service completion to station s, and 0 for any other message
abbrev pub completions_to : ℕ → Msg → ℕ
completions_to s m = if m.to == s then completions_in m.payload else 0

-- the number of jobs that a source has sent, and 0 for any other kind
abbrev pub sent_of : KindState → ℕ
sent_of (Source s) = s.sent
sent_of _ = 0

-- the number of jobs that a source may send in all, and 0 for any other kind
abbrev pub jobs_of : KindState → ℕ
jobs_of (Source s) = s.jobs
jobs_of _ = 0

-- the number of jobs that a server has in service, and 0 for any other kind
abbrev pub busy_of : KindState → ℕ
busy_of (Server s) = s.busy
busy_of _ = 0

-- the invariant of a kind's state in a run. A source may send the model's number of jobs. Sources of the network may
-- have made the waiting jobs, before the horizon. The sum of stays at a sink is at most `MAX_EVENT_TIMES` for each
-- message
abbrev pub RunKeepsKind : Net → Kind → ℕ → KindState → Type 0
RunKeepsKind net (kind.Source lo hi jobs class) handled (Source s) = s.jobs ≡ jobs
RunKeepsKind net (kind.Server servers room lo hi by_class) handled (Server s) =
    AllByRecursion (λ j. is_job_of net j ≡ true) s.waiting
RunKeepsKind net (kind.Delay lo hi) handled (Delay s) = Unit {0}
RunKeepsKind net (kind.Router turn) handled (Router s) = Unit {0}
RunKeepsKind net kind.Sink handled (Sink s) = s.stay ≤ MAX_EVENT_TIMES * handled
RunKeepsKind net _ handled _ = ⊥

-- the invariant of the state of station s in a run: it draws from the model's stream with the model's seed
pub record RunKeepsState (net : Net) (s : ℕ) (st : StateView) : Type 0 where
  pub seed : st.sender.draws.seed ≡ net.seed
  pub stream : st.sender.draws.stream ≡ (site_of net s).stream
  pub kind : RunKeepsKind net (site_of net s).kind st.handled st.kind

-- the invariant of a pending message in a run
pub record RunKeepsMessage (net : Net) (m : Msg) : Type 0 where
  pub job : CarriesJobOf net m.payload
  pub time_max : m.key.time < MAX_EVENT_TIMES

-- the invariant of a run's world. A source has at most one pending tick, and only if a job is left to send. A server
-- has no more pending completions than jobs in service
pub record RunKeepsWorld (net : Net) (w : Config (World StateView Msg Line) Msg) : Type 0 where
  pub states : (s : ℕ) → RunKeepsState net s (w.at.states s)
  pub pending : AllByRecursion (RunKeepsMessage net) w.pending
  pub ticks : (s : ℕ) → tally (ticks_to s) w.pending ≤ 1
  pub jobs : (s : ℕ) → sent_of (w.at.states s).kind + tally (ticks_to s) w.pending ≤ jobs_of (w.at.states s).kind
  pub busy : (s : ℕ) → tally (completions_to s) w.pending ≤ busy_of (w.at.states s).kind
