-- The invariant of a sink.
use Rattle.std.proofs.Common.{ℕ, ◌+◌, ◌<◌, arith}
use Rattle.sim_base.specs.declared.message.Payload.{Payload}
use Rattle.sim_base.specs.declared.message.Payload.TheVariants.{Tick, Job, Done, Set}
use Rattle.stations.specs.declared.kind_state.SinkState.{SinkState}
use Rattle.stations.specs.Fits.{FitsSink}
use Rattle.stations.specs.Sinks.{sink_on}
use Rattle.stations.specs.declared.sender.TheConstants.{MAX_EVENT_TIMES}

module _ (now : ℕ) (early : now < MAX_EVENT_TIMES) where
  -- after any message that a station may handle a sink fits one message more
  pub sink_on-fits : (handled : ℕ) (p : Payload) (s : SinkState) → FitsSink handled s
      → FitsSink (handled + 1) (sink_on now p s)
  sink_on-fits handled (Job j) s f = record { got = omega (arith, f.got); stay = omega (arith, f.stay) }
  sink_on-fits handled Tick s f = record { got = omega (arith, f.got); stay = omega (arith, f.stay) }
  sink_on-fits handled (Done j) s f = record { got = omega (arith, f.got); stay = omega (arith, f.stay) }
  sink_on-fits handled (Set c) s f = record { got = omega (arith, f.got); stay = omega (arith, f.stay) }
