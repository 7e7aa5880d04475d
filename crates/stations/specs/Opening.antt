-- How a station opens.
use Rattle.std.specs.Prelude.{ℕ, [], slice_get}
use Rattle.sim_base.specs.declared.message.Msg.{Msg}
use Rattle.run_laws.specs.Simulation.{Opening as OpeningOf}
use Rattle.net_model.specs.declared.station.Kind.{Kind}
use Rattle.net_model.specs.declared.station.Kind.TheVariants as kind
use Rattle.net_model.specs.Net.{Net, Site, site_of}
use Rattle.stations.specs.declared.kind_state.KindState.{KindState}
use Rattle.stations.specs.declared.kind_state.KindState.TheVariants.{Source, Server, Delay, Router, Sink}
use Rattle.stations.specs.Sending.{Outgoing, weights_of}
use Rattle.stations.specs.Sources.{next_tick}
use Rattle.stations.specs.Handling.{StateView}

-- the state of a kind before any message
abbrev pub opening_kind : Site → Kind → KindState
opening_kind site (kind.Source lo hi jobs class) = Source (record { lo = lo; hi = hi; jobs = jobs; sent = 0 })
opening_kind site (kind.Server servers room lo hi by_class) =
    Server (record { servers = servers; room = room; lo = lo; hi = hi; busy = 0; waiting = []; done = 0; lost = 0 })
opening_kind site (kind.Delay lo hi) = Delay (record { lo = lo; hi = hi; passed = 0 })
opening_kind site (kind.Router turn) =
    Router (record { weights = record { items = weights_of site.links }; passed = 0 })
opening_kind site kind.Sink = Sink (record { got = 0; stay = 0 })

-- a source sends itself its first tick
abbrev pub first_tick : KindState → Outgoing → Outgoing
first_tick (Source s) o = next_tick 0 s o
first_tick _ o = o

-- an opening with this state, and with the first message, if there is one
abbrev pub opening_of : KindState → Outgoing → OpeningOf StateView Msg
opening_of first_state o = record {
  state = record { sender = o.sender; handled = 0; kind = first_state };
  first = slice_get o.sends 0;
}

-- a station opens: its state, and a source's first tick
abbrev pub station_opening : ℕ → ℕ → Site → OpeningOf StateView Msg
station_opening seed s site =
    let first_state = opening_kind site site.kind in
    opening_of first_state (first_tick first_state
    (record {
      sender = record {
        station = s;
        next = 0;
        draws = record { seed = seed; stream = site.stream; count = 0 };
      };
      sends = [];
    }))

-- the opening of the station with this number in a network
abbrev pub setup : Net → ℕ → OpeningOf StateView Msg
setup net s = station_opening net.seed s (site_of net s)
