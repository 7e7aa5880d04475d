-- Two sources of different classes before one desk: waiting jobs are served by class, or in the order of arrival.
use Rattle.std.specs.Prelude.{ℕ, List, [], ◌∷◌, ◌++◌, codes, Bool}
use Rattle.sim_base.specs.declared.message.Msg.{Msg}
use Rattle.sim_base.specs.declared.entry.Entry.{Entry}
use Rattle.sim_base.specs.declared.entry.Line.{Line}
use Rattle.net_model.specs.declared.station.Kind.TheVariants.{Source, Server, Sink}
use Rattle.net_model.specs.declared.limits.TheConstants.{USUAL_LIMIT}
use Rattle.net_model.specs.Net.{Net, link}
use Rattle.stations.specs.Examples.{at, tick, job, done, source, server, sink}

-- the number of the source of class 2
abbrev pub low : ℕ
low = 1

-- and of the source of class 1, whose jobs are served first if the desk serves by class
abbrev pub high : ℕ
high = 2

-- the number of the server
abbrev pub desk : ℕ
desk = 3

-- and of the sink
abbrev pub out : ℕ
out = 4

-- a job of class 2 at 3, and three of class 1, one every 2; one server, which serves for 4, by class or not
abbrev pub two_classes : Bool → Net
two_classes by_class = record {
  format = 2;
  lookahead = 2;
  horizon = 20;
  seed = 0;
  limit = USUAL_LIMIT;
  sites =
      record { name = codes "low"; kind = Source 3 3 1 2; stream = 1; links = link desk 2 ∷ [] }
      ∷ record { name = codes "high"; kind = Source 2 2 3 1; stream = 2; links = link desk 2 ∷ [] }
      ∷ record { name = codes "desk"; kind = Server 1 5 4 4 by_class; stream = 3; links = link out 2 ∷ [] }
      ∷ record { name = codes "out"; kind = Sink; stream = 4; links = [] } ∷ [];
}

-- at 8 three jobs wait: one of class 2, which came first, and two of class 1
abbrev pub until_ten : List (Entry Msg Line)
until_ten =
    at 2 high high 0 tick (source 1)
    ∷ at 3 low low 0 tick (source 1)
    ∷ at 4 desk high 1 (job high 0 2) (server 1 0 0 0)
    ∷ at 4 high high 2 tick (source 2)
    ∷ at 5 desk low 1 (job low 0 3) (server 1 1 0 0)
    ∷ at 6 desk high 3 (job high 1 4) (server 1 2 0 0)
    ∷ at 6 high high 4 tick (source 3)
    ∷ at 8 desk high 5 (job high 2 6) (server 1 3 0 0)
    ∷ at 8 desk desk 0 (done high 0 2) (server 1 2 1 0)
    ∷ at 10 out desk 1 (job high 0 2) (sink 1 8) ∷ []

-- by class, the jobs of class 1 are served before the earlier one, in the order of arrival
abbrev pub by_class_trace : List (Entry Msg Line)
by_class_trace =
    until_ten
    ++ at 12 desk desk 2 (done high 1 4) (server 1 1 2 0)
    ∷ at 14 out desk 3 (job high 1 4) (sink 2 18)
    ∷ at 16 desk desk 4 (done high 2 6) (server 1 0 3 0)
    ∷ at 18 out desk 5 (job high 2 6) (sink 3 30) ∷ []

-- not by class, the job that arrived first is served first
abbrev pub by_arrival_trace : List (Entry Msg Line)
by_arrival_trace =
    until_ten
    ++ at 12 desk desk 2 (done low 0 3) (server 1 1 2 0)
    ∷ at 14 out desk 3 (job low 0 3) (sink 2 19)
    ∷ at 16 desk desk 4 (done high 1 4) (server 1 0 3 0)
    ∷ at 18 out desk 5 (job high 1 4) (sink 3 33) ∷ []
