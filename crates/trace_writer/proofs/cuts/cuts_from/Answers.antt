use Rattle.std.proofs.Common.{◌+◌}
use Rattle.sim_base.specs.Clones.{clone_at}
use Rattle.trace_writer.proofs.LogLaws.{counted, log_is}
use Rattle.trace_writer.proofs.Logs.{log_in_order}
use Rattle.trace_writer.proofs.cuts.cuts_from.Goals as goal

pub place_of_word-first-requires : goal.place_of_word-first-requires
place_of_word-first-requires c =
    let world = c.traces.inside.world.now in
    let over = c.traces.invariant.may_trace.over in
    let place = c.place_in-place in
    record {
      order = log_in_order world.net over.valid (clone_at world.clones place.result)
          (counted world over place.result place.ensures.in_range) (c.loop-s.s + 1) c.log-log.result.now
          (log_is world over place.result place.ensures.in_range (c.loop-s.s + 1) c.log-log.result.now
          c.log-log.ensures.value);
    }
