-- What a station sends for a message other than a change, as packed messages.
use Rattle.std.specs.Prelude.{ℕ, ◌+◌, ◌*◌, ◌<◌, ◌≤◌, List, [], ◌∷◌, ◌++◌, Option, Some, None}
use Rattle.std.specs.List.{AllByRecursion}
use Rattle.sim_base.specs.declared.message.Msg.{Msg}
use Rattle.sim_base.specs.declared.message.TheConstants.{WORD_NUMBERS}
use Rattle.msg_heap.specs.Jobs.{FitsJob}
use Rattle.msg_heap.specs.declared.line.TheConstants.{STAY_SUMS}
use Rattle.msg_heap.specs.declared.content.Content.{Content}
use Rattle.msg_heap.specs.declared.content.Content.TheVariants as content
use Rattle.net_model.specs.declared.station.Link.{Link}
use Rattle.net_model.specs.declared.limits.TheConstants.{MAX_HORIZON, MAX_STATIONS}
use Rattle.stations.specs.declared.sender.Sender.{Sender}
use Rattle.stations.specs.declared.sender.TheConstants.{MAX_COUNTS}
use Rattle.stations.specs.declared.kind_state.KindState.{KindState}
use Rattle.stations.specs.declared.kind_state.KindState.TheVariants.{Server, Sink}
use Rattle.stations.specs.declared.quick_sends.QuickSends.{QuickSends}
use Rattle.stations.specs.Fits.{AreLinks}
use Rattle.stations.specs.Handling.{StateView}

-- a message or none as a list
abbrev pub as_list : Option Msg → List Msg
as_list None = []
as_list (Some m) = m ∷ []

-- the sends in order: over a link, and then to the station itself
abbrev pub sends_of : QuickSends → List Msg
sends_of sends = as_list sends.link ++ as_list sends.own

-- a station that got a message at `now` may send `more` packed messages
pub record MayPack (more now : ℕ) (sender : Sender) : Type 0 where
  pub station_min : 1 ≤ sender.station
  pub station_max : sender.station ≤ MAX_STATIONS
  pub next : sender.next + more ≤ WORD_NUMBERS
  pub draws : sender.draws.count + 2 * more ≤ MAX_COUNTS
  pub time_max : now ≤ MAX_HORIZON

-- links over which packed jobs may travel
pub record AreShortLinks (links : List Link) : Type 0 where
  pub are : AreLinks links
  pub to_min : AllByRecursion (λ l. 1 ≤ l.to) links
  pub to_max : AllByRecursion (λ l. l.to ≤ MAX_STATIONS) links

-- a station that sends has such links
abbrev pub HasShortLinks : KindState → List Link → Type 0
HasShortLinks (Sink s) links = Unit {0}
HasShortLinks _ links = AreShortLinks links

-- the sum of stays of a sink; 0 for other kinds
abbrev pub stay_of : KindState → ℕ
stay_of (Sink s) = s.stay
stay_of _ = 0

-- the waiting jobs of a server fit one word each
abbrev pub HasShortJobs : KindState → Type 0
HasShortJobs (Server s) = AllByRecursion FitsJob s.waiting
HasShortJobs _ = Unit {0}

-- the job of a content fits one word
abbrev pub IsShort : Content → Type 0
IsShort (content.Job j) = FitsJob j
IsShort (content.Done j) = FitsJob j
IsShort content.Tick = Unit {0}

-- the state of a station that may handle `more` packed messages: its numbers, the stays and the waiting jobs are small
pub record IsQuick (more : ℕ) (st : StateView) : Type 0 where
  pub next : st.sender.next + 2 * more ≤ WORD_NUMBERS
  pub stay : stay_of st.kind + MAX_HORIZON * more < STAY_SUMS
  pub jobs : HasShortJobs st.kind
