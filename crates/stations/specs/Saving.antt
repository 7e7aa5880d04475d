-- The state of a station as plain data, and the state restored from such data.
use Rattle.std.specs.Prelude.{ℕ, Option, Some, None, option_map}
use Rattle.net_model.specs.declared.station.Kind.{Kind}
use Rattle.net_model.specs.declared.station.Kind.TheVariants as kind
use Rattle.net_model.specs.Net.{Net, site_of}
use Rattle.stations.specs.declared.kind_state.KindState.{KindState}
use Rattle.stations.specs.declared.kind_state.KindState.TheVariants.{Source, Server, Delay, Router, Sink}
use Rattle.stations.specs.declared.kind_state.ServerState.{ServerState}
use Rattle.stations.specs.Handling.{StateView}
use Rattle.stations.specs.declared.saved.Saved.{Saved}
use Rattle.stations.specs.declared.saved.Shape.{Shape}
use Rattle.stations.specs.declared.saved.Shape.TheVariants as shape

-- the shape of a kind's state
abbrev pub shape_of : KindState → Shape
shape_of (Source s) = shape.Source s.lo s.hi s.sent
shape_of (Server s) = shape.Server s.servers s.room s.lo s.hi s.busy s.done s.lost s.waiting
shape_of (Delay s) = shape.Delay s.lo s.hi s.passed
shape_of (Router s) = shape.Router s.passed s.weights
shape_of (Sink s) = shape.Sink s.got s.stay

-- a state as plain data
abbrev pub saved_of : StateView → Saved
saved_of st = record {
  next = st.sender.next;
  drawn = st.sender.draws.count;
  handled = st.handled;
  shape = shape_of st.kind;
}

-- the server state with this shape; None if the shape is of another kind
abbrev pub restored_server : Shape → Option ServerState
restored_server (shape.Server servers room lo hi busy done lost line) = Some (record {
  servers = servers;
  room = room;
  lo = lo;
  hi = hi;
  busy = busy;
  waiting = line;
  done = done;
  lost = lost;
})
restored_server _ = None

-- the state of a kind with this shape; None if the shape is of another kind
abbrev pub restored_kind : Kind → Shape → Option KindState
restored_kind (kind.Source lo hi jobs class) (shape.Source low high sent) =
    Some (Source (record { lo = low; hi = high; jobs = jobs; sent = sent }))
restored_kind (kind.Server servers room lo hi by_class) h = option_map Server (restored_server h)
restored_kind (kind.Delay lo hi) (shape.Delay low high passed) =
    Some (Delay (record { lo = low; hi = high; passed = passed }))
restored_kind (kind.Router turn) (shape.Router passed weights) =
    Some (Router (record { weights = weights; passed = passed }))
restored_kind kind.Sink (shape.Sink got stay) = Some (Sink (record { got = got; stay = stay }))
restored_kind _ _ = None

-- the state of station s restored from plain data; its draws continue where they were
abbrev pub restored : Net → ℕ → Saved → Option StateView
restored net s saved = option_map (λ (k : KindState). let st : StateView = record {
  sender = record {
    station = s;
    next = saved.next;
    draws = record { seed = net.seed; stream = (site_of net s).stream; count = saved.drawn };
  };
  handled = saved.handled;
  kind = k;
} in st) (restored_kind (site_of net s).kind saved.shape)
