-- A router `fan` that sends jobs to a delay `slow` and past it.
use Rattle.std.specs.Prelude.{ℕ, List, [], ◌∷◌, ◌++◌, codes, Bool}
use Rattle.sim_base.specs.Clones.{Clone}
use Rattle.sim_base.specs.declared.message.Msg.{Msg}
use Rattle.sim_base.specs.declared.message.Param.TheVariants.{Weight}
use Rattle.sim_base.specs.declared.entry.Entry.{Entry}
use Rattle.sim_base.specs.declared.entry.Line.{Line}
use Rattle.net_model.specs.declared.station.Kind.TheVariants.{Source, Delay, Router, Sink}
use Rattle.net_model.specs.declared.limits.TheConstants.{USUAL_LIMIT}
use Rattle.net_model.specs.Net.{Net, link}
use Rattle.stations.specs.Examples.{at, analyst, tick, job, set, source, passed, sink, set_at, clone}

-- the number of the source
abbrev pub gate : ℕ
gate = 1

-- of the router
abbrev pub fan : ℕ
fan = 2

-- of the delay
abbrev pub slow : ℕ
slow = 3

-- and of the sink
abbrev pub out : ℕ
out = 4

-- three jobs, by turn, or by the weights 4 and 6 with the stream 54, whose words modulo 10 are 3, 7 and 4
abbrev pub fan_network : Bool → Net
fan_network turn = record {
  format = 1;
  lookahead = 2;
  horizon = 20;
  seed = 42;
  limit = USUAL_LIMIT;
  sites =
      record { name = codes "gate"; kind = Source 3 3 3 1; stream = 1; links = link fan 2 ∷ [] }
      ∷ record {
        name = codes "fan";
        kind = Router turn;
        stream = 54;
        links = record { to = slow; delay = 2; weight = 4 } ∷ record { to = out; delay = 3; weight = 6 } ∷ [];
      }
      ∷ record { name = codes "slow"; kind = Delay 1 1; stream = 3; links = link out 2 ∷ [] }
      ∷ record { name = codes "out"; kind = Sink; stream = 4; links = [] } ∷ [];
}

-- by turn and by weights the first job goes by the delay, and the second straight on
abbrev pub two_jobs : List (Entry Msg Line)
two_jobs =
    at 3 gate gate 0 tick (source 1)
    ∷ at 5 fan gate 1 (job gate 0 3) (passed 1)
    ∷ at 6 gate gate 2 tick (source 2)
    ∷ at 7 slow fan 0 (job gate 0 3) (passed 1)
    ∷ at 8 fan gate 3 (job gate 1 6) (passed 2)
    ∷ at 9 gate gate 4 tick (source 3)
    ∷ at 10 out slow 0 (job gate 0 3) (sink 1 7)
    ∷ at 11 fan gate 5 (job gate 2 9) (passed 3)
    ∷ at 11 out fan 1 (job gate 1 6) (sink 2 12) ∷ []

-- by turn the third goes by the delay again
abbrev pub by_turn_trace : List (Entry Msg Line)
by_turn_trace =
    two_jobs
    ++ at 13 slow fan 2 (job gate 2 9) (passed 2)
    ∷ at 16 out slow 1 (job gate 2 9) (sink 3 19) ∷ []

-- by weights it goes straight on, since its draw of 4 is not below the first weight
abbrev pub by_weights_trace : List (Entry Msg Line)
by_weights_trace = two_jobs ++ at 14 out fan 2 (job gate 2 9) (sink 3 17) ∷ []

-- from the start on the weights are 1 and 6; the words modulo 7 are 4, 4 and 6
abbrev pub lighter : Clone
lighter = clone (codes "base") (set_at 0 fan Weight 1 1 ∷ [])

-- so all three jobs go straight on
abbrev pub lighter_trace : List (Entry Msg Line)
lighter_trace =
    at 0 fan analyst 0 (set Weight 1 1) (passed 0)
    ∷ at 3 gate gate 0 tick (source 1)
    ∷ at 5 fan gate 1 (job gate 0 3) (passed 1)
    ∷ at 6 gate gate 2 tick (source 2)
    ∷ at 8 fan gate 3 (job gate 1 6) (passed 2)
    ∷ at 8 out fan 0 (job gate 0 3) (sink 1 5)
    ∷ at 9 gate gate 4 tick (source 3)
    ∷ at 11 fan gate 5 (job gate 2 9) (passed 3)
    ∷ at 11 out fan 1 (job gate 1 6) (sink 2 10)
    ∷ at 14 out fan 2 (job gate 2 9) (sink 3 15) ∷ []
