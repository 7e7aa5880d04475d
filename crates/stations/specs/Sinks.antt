-- Sinks: where jobs leave the network. This is the definition of a sink, step by step.
use Rattle.std.specs.Prelude.{ℕ, ◌+◌, ◌-◌}
use Rattle.sim_base.specs.declared.message.Payload.{Payload}
use Rattle.sim_base.specs.declared.message.Payload.TheVariants.{Job}
use Rattle.stations.specs.declared.kind_state.SinkState.{SinkState}

-- a sink counts the jobs, and adds up their times in the network
abbrev pub sink_on : ℕ → Payload → SinkState → SinkState
sink_on now (Job j) s = record { got = s.got + 1; stay = s.stay + (now - j.born) }
sink_on now _ s = s
