-- How a station handles a message.
use Rattle.std.specs.Prelude.{ℕ, ◌+◌, [], length}
use Rattle.sim_base.specs.declared.message.Msg.{Msg}
use Rattle.sim_base.specs.declared.message.Payload.{Payload}
use Rattle.sim_base.specs.declared.entry.Line.{Line}
use Rattle.sim_base.specs.declared.entry.Line.TheVariants as line
use Rattle.run_laws.specs.Simulation.{Outcome}
use Rattle.net_model.specs.Net.{Net, Site, site_of}
use Rattle.stations.specs.declared.sender.Sender.{Sender}
use Rattle.stations.specs.declared.kind_state.KindState.{KindState}
use Rattle.stations.specs.declared.kind_state.KindState.TheVariants.{Source, Server, Delay, Router, Sink}
use Rattle.stations.specs.Sending.{Outgoing, Reaction, reaction, reaction_as}
use Rattle.stations.specs.Sources.{source_on}
use Rattle.stations.specs.Servers.{server_on}
use Rattle.stations.specs.Delays.{delay_on}
use Rattle.stations.specs.Routers.{router_on}
use Rattle.stations.specs.Sinks.{sink_on}

-- the state of a station: its sender, the number of messages handled, and the state of its kind
pub record StateView : Type 0 where
  pub sender : Sender
  pub handled : ℕ
  pub kind : KindState

-- a message that a kind does not handle changes nothing and sends nothing
abbrev pub kind_on : Net → Site → ℕ → Payload → KindState → Outgoing → Reaction KindState
kind_on net site now p (Source s) o = reaction_as Source (source_on site now p s o)
kind_on net site now p (Server s) o = reaction_as Server (server_on net site now p s o)
kind_on net site now p (Delay s) o = reaction_as Delay (delay_on site now p s o)
kind_on net site now p (Router s) o = reaction_as Router (router_on site now p s o)
kind_on net site now p (Sink s) o = reaction (Sink (sink_on now p s)) o

-- the counts of a station, as in its log
abbrev pub line_of : KindState → Line
line_of (Source s) = line.Source s.sent
line_of (Server s) = line.Server s.busy (length s.waiting) s.done s.lost
line_of (Delay s) = line.Passed s.passed
line_of (Router s) = line.Passed s.passed
line_of (Sink s) = line.Sink s.got s.stay

-- the outcome of a handling, from a reaction: the state with this count of messages, the sends, the counts
abbrev pub handled_as : ℕ → Reaction KindState → Outcome StateView Msg Line
handled_as count r = record {
  state = record { sender = r.out.sender; handled = count; kind = r.state };
  sends = r.out.sends;
  line = line_of r.state;
}

-- a station handles a message
unfoldable pub handle : Net → StateView → Msg → Outcome StateView Msg Line
handle net st m =
    handled_as (st.handled + 1) (kind_on net (site_of net st.sender.station) m.key.time m.payload st.kind
    (record { sender = st.sender; sends = [] }))
