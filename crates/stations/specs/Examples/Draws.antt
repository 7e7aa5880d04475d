-- A source whose times between jobs are drawn from 1 to 10: the draws are 4, 8 and 5.
use Rattle.std.specs.Prelude.{ℕ, List, [], ◌∷◌, codes}
use Rattle.sim_base.specs.declared.message.Msg.{Msg}
use Rattle.sim_base.specs.declared.entry.Entry.{Entry}
use Rattle.sim_base.specs.declared.entry.Line.{Line}
use Rattle.net_model.specs.declared.station.Kind.TheVariants.{Source, Sink}
use Rattle.net_model.specs.declared.limits.TheConstants.{USUAL_LIMIT}
use Rattle.net_model.specs.Net.{Net, link}
use Rattle.stations.specs.Examples.{at, tick, job, source, sink}

-- the number of the source
abbrev pub gate : ℕ
gate = 1

-- and of the sink
abbrev pub out : ℕ
out = 2

-- three jobs, whose times are drawn from stream 54 of the seed 42
abbrev pub drawn_gate : Net
drawn_gate = record {
  format = 1;
  lookahead = 2;
  horizon = 20;
  seed = 42;
  limit = USUAL_LIMIT;
  sites =
      record { name = codes "gate"; kind = Source 1 10 3 1; stream = 54; links = link out 2 ∷ [] }
      ∷ record { name = codes "out"; kind = Sink; stream = 2; links = [] } ∷ [];
}

-- so the jobs are made at 4, 12 and 17
abbrev pub drawn_gate_trace : List (Entry Msg Line)
drawn_gate_trace =
    at 4 gate gate 0 tick (source 1)
    ∷ at 6 out gate 1 (job gate 0 4) (sink 1 2)
    ∷ at 12 gate gate 2 tick (source 2)
    ∷ at 14 out gate 3 (job gate 1 12) (sink 2 4)
    ∷ at 17 gate gate 4 tick (source 3)
    ∷ at 19 out gate 5 (job gate 2 17) (sink 3 6) ∷ []
