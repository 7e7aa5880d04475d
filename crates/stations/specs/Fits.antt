-- The invariant of every state of a station, and the states of a network's stations.
use Rattle.std.specs.Prelude.{◌≡◌, ℕ, ◌+◌, ◌*◌, ◌≤◌, ◌⊎◌, List, length, Some}
use Rattle.std.specs.List.{AllByRecursion}
use Rattle.sim_base.specs.Weights.{IsWeight}
use Rattle.sim_draw.specs.Drawing.{AreWeights}
use Rattle.net_model.specs.declared.station.Kind.{Kind}
use Rattle.net_model.specs.declared.station.Kind.TheVariants as kind
use Rattle.net_model.specs.declared.station.Link.{Link}
use Rattle.net_model.specs.declared.limits.TheConstants.{MAX_JOBS, MAX_LINKS, MAX_ROOM}
use Rattle.net_model.specs.declared.limits.TheConstants.{MAX_SERVERS, MAX_TIME}
use Rattle.net_model.specs.Net.{Net, Site, site_at}
use Rattle.net_model.specs.Rules.{IsRange, IsServer}
use Rattle.stations.specs.declared.sender.Sender.{Sender}
use Rattle.stations.specs.declared.kind_state.KindState.{KindState}
use Rattle.stations.specs.declared.kind_state.KindState.TheVariants.{Source, Server, Delay, Router, Sink}
use Rattle.stations.specs.declared.kind_state.SourceState.{SourceState}
use Rattle.stations.specs.declared.kind_state.ServerState.{ServerState}
use Rattle.stations.specs.declared.kind_state.DelayState.{DelayState}
use Rattle.stations.specs.declared.kind_state.RouterState.{RouterState}
use Rattle.stations.specs.declared.kind_state.SinkState.{SinkState}
use Rattle.stations.specs.Handling.{StateView}
use Rattle.stations.specs.declared.sender.TheConstants.{MAX_STAY_SUM, MAX_EVENT_TIMES, MAX_SENDS}

-- links over which jobs may travel
pub record AreLinks (links : List Link) : Type 0 where
  pub nonempty : 1 ≤ length links
  pub at_most : length links ≤ MAX_LINKS
  pub weights : AllByRecursion (λ l. IsWeight l.weight) links
  pub delay_max : AllByRecursion (λ l. l.delay ≤ MAX_TIME) links

-- a station that sends has links
abbrev pub HasLinks : KindState → List Link → Type 0
HasLinks (Sink s) links = Unit {0}
HasLinks _ links = AreLinks links

-- a source has a range of times from 1 on and at most `MAX_JOBS` jobs. It may be restored with up to `MAX_JOBS` jobs
-- sent, and sends at most one job for each message that it handles
pub record FitsSource (handled : ℕ) (s : SourceState) : Type 0 where
  pub range : IsRange 1 s.lo s.hi
  pub jobs : s.jobs ≤ MAX_JOBS
  pub sent : s.sent ≤ MAX_JOBS + handled

-- a server's parameters keep the rules, and no job waits while a server is free
pub record FitsServer (handled : ℕ) (s : ServerState) : Type 0 where
  pub rules : IsServer s.servers s.room s.lo s.hi
  pub busy : s.busy ≤ MAX_SERVERS
  pub line : (length s.waiting ≡ 0) ⊎ (s.servers ≤ s.busy)
  pub length_max : length s.waiting ≤ MAX_ROOM
  pub done : s.done ≤ handled
  pub lost : s.lost ≤ handled

-- a delay has a range of times from 0 on, and has passed on no more jobs than it handled messages
pub record FitsDelay (handled : ℕ) (s : DelayState) : Type 0 where
  pub range : IsRange 0 s.lo s.hi
  pub passed : s.passed ≤ handled

-- a router has weights to pick by, and has passed on no more jobs than it handled messages
pub record FitsRouter (handled : ℕ) (s : RouterState) : Type 0 where
  pub weights : AreWeights s.weights.items
  pub passed : s.passed ≤ handled

-- a sink got no more jobs than it handled messages. It may be restored with any sum of stays below `MAX_STAY_SUM`, and
-- each message adds at most `MAX_EVENT_TIMES`
pub record FitsSink (handled : ℕ) (s : SinkState) : Type 0 where
  pub got : s.got ≤ handled
  pub stay : s.stay ≤ MAX_STAY_SUM + MAX_EVENT_TIMES * handled

-- the invariant of each kind's state, after `handled` messages
abbrev pub FitsKind : ℕ → KindState → Type 0
FitsKind handled (Source s) = FitsSource handled s
FitsKind handled (Server s) = FitsServer handled s
FitsKind handled (Delay s) = FitsDelay handled s
FitsKind handled (Router s) = FitsRouter handled s
FitsKind handled (Sink s) = FitsSink handled s

-- the invariant of a kind for any times of messages: the stays of a sink are then unbounded
abbrev pub GoodKind : ℕ → KindState → Type 0
GoodKind handled (Sink s) = Unit {0}
GoodKind handled s = FitsKind handled s

-- the sender is a station, and has used at most `MAX_SENDS` numbers and draws for each message
-- and for the opening
pub record FitsSender (handled : ℕ) (s : Sender) : Type 0 where
  pub station : 1 ≤ s.station
  pub next : s.next ≤ MAX_SENDS * (handled + 1)
  pub draws : s.draws.count ≤ MAX_SENDS * (handled + 1)

-- the invariants of the sender and of the kind, after the handled messages
pub record FitsState (st : StateView) : Type 0 where
  pub sender : FitsSender st.handled st.sender
  pub kind : FitsKind st.handled st.kind

-- a state is of a station's kind; a router has a weight for each link
abbrev pub IsOfKind : Site → Kind → KindState → Type 0
IsOfKind site (kind.Source lo hi jobs class) (Source s) = Unit {0}
IsOfKind site (kind.Server servers room lo hi by_class) (Server s) = Unit {0}
IsOfKind site (kind.Delay lo hi) (Delay s) = Unit {0}
IsOfKind site (kind.Router turn) (Router s) = length s.weights.items ≡ length site.links
IsOfKind site kind.Sink (Sink s) = Unit {0}
IsOfKind _ _ _ = ⊥

-- the state is that of a station of the network
pub record SuitsNet (net : Net) (st : StateView) : Type 0 where
  pub site : Site
  pub is_there : site_at net st.sender.station ≡ Some site
  pub kind : IsOfKind site site.kind st.kind
