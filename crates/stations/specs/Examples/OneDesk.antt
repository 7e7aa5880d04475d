-- A source `gate`, a server `desk` and a sink `out`, in a row.
use Rattle.std.specs.Prelude.{ℕ, List, [], ◌∷◌, codes, false, Some}
use Rattle.sim_base.specs.Clones.{Clone, base}
use Rattle.sim_base.specs.declared.message.Msg.{Msg}
use Rattle.sim_base.specs.declared.message.Param.TheVariants.{Service}
use Rattle.sim_base.specs.declared.entry.Entry.{Entry}
use Rattle.sim_base.specs.declared.entry.Line.{Line}
use Rattle.net_model.specs.declared.station.Kind.TheVariants.{Source, Server, Sink}
use Rattle.net_model.specs.declared.limits.TheConstants.{USUAL_LIMIT}
use Rattle.net_model.specs.Net.{Net, link}
use Rattle.net_model.specs.Examples.{small}
use Rattle.stations.specs.declared.kind_state.KindState.TheVariants.{Server as KindServer}
use Rattle.stations.specs.Handling.{StateView}
use Rattle.stations.specs.Examples.{at, analyst, tick, job, done, set, source, server, sink, set_at, clone}

-- the number of the source
abbrev pub gate : ℕ
gate = 1

-- of the server
abbrev pub desk : ℕ
desk = 2

-- and of the sink
abbrev pub out : ℕ
out = 3

-- net_model's small model: a job every 3, two in all; one server, which serves for 4; room for 5
abbrev pub one_desk : Net
one_desk = small

-- one job at a time: the second waits until the first is done
abbrev pub one_desk_trace : List (Entry Msg Line)
one_desk_trace =
    at 3 gate gate 0 tick (source 1)
    ∷ at 5 desk gate 1 (job gate 0 3) (server 1 0 0 0)
    ∷ at 6 gate gate 2 tick (source 2)
    ∷ at 8 desk gate 3 (job gate 1 6) (server 1 1 0 0)
    ∷ at 9 desk desk 0 (done gate 0 3) (server 1 0 1 0)
    ∷ at 11 out desk 1 (job gate 0 3) (sink 1 8)
    ∷ at 13 desk desk 2 (done gate 1 6) (server 0 0 2 0)
    ∷ at 15 out desk 3 (job gate 1 6) (sink 2 17) ∷ []

-- from 8 on the desk serves for 2; the present service does not change
abbrev pub fast : Clone
fast = clone (codes "fast") (set_at 8 desk Service 2 2 ∷ [])

-- so the second job, whose service starts at 9, is done at 11
abbrev pub fast_trace : List (Entry Msg Line)
fast_trace =
    at 3 gate gate 0 tick (source 1)
    ∷ at 5 desk gate 1 (job gate 0 3) (server 1 0 0 0)
    ∷ at 6 gate gate 2 tick (source 2)
    ∷ at 8 desk analyst 0 (set Service 2 2) (server 1 0 0 0)
    ∷ at 8 desk gate 3 (job gate 1 6) (server 1 1 0 0)
    ∷ at 9 desk desk 0 (done gate 0 3) (server 1 0 1 0)
    ∷ at 11 out desk 1 (job gate 0 3) (sink 1 8)
    ∷ at 11 desk desk 2 (done gate 1 6) (server 0 0 2 0)
    ∷ at 13 out desk 3 (job gate 1 6) (sink 2 15) ∷ []

-- a set at time 0 comes before everything else
abbrev pub set_at_start : Clone
set_at_start = clone (codes "base") (set_at 0 desk Service 4 4 ∷ [])

-- and so its entry is the first
abbrev pub first_set : Entry Msg Line
first_set = at 0 desk analyst 0 (set Service 4 4) (server 0 0 0 0)

-- a clone that ends at 9 handles nothing at 9 or later
abbrev pub brief : Clone
brief = record { name = codes "brief"; plans = []; end = Some 9 }

-- so its trace is that of the base before 9
abbrev pub brief_trace : List (Entry Msg Line)
brief_trace =
    at 3 gate gate 0 tick (source 1)
    ∷ at 5 desk gate 1 (job gate 0 3) (server 1 0 0 0)
    ∷ at 6 gate gate 2 tick (source 2)
    ∷ at 8 desk gate 3 (job gate 1 6) (server 1 1 0 0) ∷ []

-- the clones of the report: one without decisions, and the faster one
abbrev pub two_branches : List Clone
two_branches = base ∷ fast ∷ []

-- the same stations with times shorter than the lookahead: several messages to itself in a window
abbrev pub quick_desk : Net
quick_desk = record {
  format = 1;
  lookahead = 5;
  horizon = 30;
  seed = 0;
  limit = USUAL_LIMIT;
  sites =
      record { name = codes "gate"; kind = Source 1 1 3 1; stream = 1; links = link desk 5 ∷ [] }
      ∷ record { name = codes "desk"; kind = Server 1 5 1 1 false; stream = 2; links = link out 5 ∷ [] }
      ∷ record { name = codes "out"; kind = Sink; stream = 3; links = [] } ∷ [];
}

-- jobs made at 1, 2 and 3 are done at 7, 8 and 9
abbrev pub quick_desk_trace : List (Entry Msg Line)
quick_desk_trace =
    at 1 gate gate 0 tick (source 1)
    ∷ at 2 gate gate 2 tick (source 2)
    ∷ at 3 gate gate 4 tick (source 3)
    ∷ at 6 desk gate 1 (job gate 0 1) (server 1 0 0 0)
    ∷ at 7 desk gate 3 (job gate 1 2) (server 1 1 0 0)
    ∷ at 7 desk desk 0 (done gate 0 1) (server 1 0 1 0)
    ∷ at 8 desk gate 5 (job gate 2 3) (server 1 1 1 0)
    ∷ at 8 desk desk 2 (done gate 1 2) (server 1 0 2 0)
    ∷ at 9 desk desk 4 (done gate 2 3) (server 0 0 3 0)
    ∷ at 12 out desk 1 (job gate 0 1) (sink 1 11)
    ∷ at 13 out desk 3 (job gate 1 2) (sink 2 22)
    ∷ at 14 out desk 5 (job gate 2 3) (sink 3 33) ∷ []

-- the same network with a limit of 3 entries for a log
abbrev pub short_logs : Net
short_logs = record one_desk { limit = 3 }

-- the desk of the faster branch at the horizon: it sent four messages and drew two words
abbrev pub fast_desk : StateView
fast_desk = record {
  sender = record { station = desk; next = 4; draws = record { seed = 0; stream = 2; count = 2 } };
  handled = 5;
  kind = KindServer (record { servers = 1; room = 5; lo = 2; hi = 2; busy = 0; waiting = []; done = 2; lost = 0 });
}
