-- A source, a server and a delay with several links each, of unequal weights. Each draws the word for its link first,
-- and then the word for its time.
use Rattle.std.specs.Prelude.{ℕ, List, [], ◌∷◌, codes, false}
use Rattle.sim_base.specs.declared.message.Msg.{Msg}
use Rattle.sim_base.specs.declared.entry.Entry.{Entry}
use Rattle.sim_base.specs.declared.entry.Line.{Line}
use Rattle.net_model.specs.declared.station.Kind.TheVariants.{Source, Server, Delay, Sink}
use Rattle.net_model.specs.declared.station.Link.{Link}
use Rattle.net_model.specs.declared.limits.TheConstants.{USUAL_LIMIT}
use Rattle.net_model.specs.Net.{Net}
use Rattle.stations.specs.Examples.{at, tick, job, done, source, server, passed, sink}

-- the number of the source
abbrev pub gate : ℕ
gate = 1

-- of the server
abbrev pub desk : ℕ
desk = 2

-- of the delay
abbrev pub hold : ℕ
hold = 3

-- and of the sink
abbrev pub out : ℕ
out = 4

-- a link to a station, with this delay and weight
abbrev pub weighted_link : ℕ → ℕ → ℕ → Link
weighted_link to delay weight = record { to = to; delay = delay; weight = weight }

-- all three draw from stream 54; the delay has a link back to itself
abbrev pub several_links : Net
several_links = record {
  format = 1;
  lookahead = 2;
  horizon = 25;
  seed = 42;
  limit = USUAL_LIMIT;
  sites =
      record {
        name = codes "gate";
        kind = Source 1 10 6 1;
        stream = 54;
        links = weighted_link desk 2 4 ∷ weighted_link hold 3 6 ∷ [];
      }
      ∷ record {
        name = codes "desk";
        kind = Server 1 5 1 10 false;
        stream = 54;
        links = weighted_link hold 2 4 ∷ weighted_link out 2 6 ∷ [];
      }
      ∷ record {
        name = codes "hold";
        kind = Delay 0 10;
        stream = 54;
        links = weighted_link desk 2 4 ∷ weighted_link out 2 6 ∷ weighted_link hold 4 3 ∷ [];
      }
      ∷ record { name = codes "out"; kind = Sink; stream = 4; links = [] } ∷ [];
}

-- four jobs are made before the horizon, all go to the delay first, and two reach the sink
abbrev pub several_links_trace : List (Entry Msg Line)
several_links_trace =
    at 4 gate gate 0 tick (source 1)
    ∷ at 7 hold gate 1 (job gate 0 4) (passed 1)
    ∷ at 9 gate gate 2 tick (source 2)
    ∷ at 12 hold gate 3 (job gate 1 9) (passed 2)
    ∷ at 13 desk hold 0 (job gate 0 4) (server 1 0 0 0)
    ∷ at 15 gate gate 4 tick (source 3)
    ∷ at 17 desk desk 0 (done gate 0 4) (server 0 0 1 0)
    ∷ at 18 hold gate 5 (job gate 2 15) (passed 3)
    ∷ at 19 out desk 1 (job gate 0 4) (sink 1 15)
    ∷ at 21 gate gate 6 tick (source 4)
    ∷ at 22 desk hold 1 (job gate 1 9) (server 1 0 1 0)
    ∷ at 24 hold gate 7 (job gate 3 21) (passed 4)
    ∷ at 24 out hold 2 (job gate 2 15) (sink 2 24) ∷ []
