use Rattle.std.proofs.Common.{arith}
use Rattle.sim_base.specs.Clones.{clone_at}
use Rattle.trace_writer.proofs.LogLaws.{counted, log_is}
use Rattle.trace_writer.proofs.Logs.{log_in_order}
use Rattle.trace_writer.proofs.cuts.word_in.Goals as goal

pub word_at-requires : goal.word_at-requires
word_at-requires c =
    let world = c.traces.inside.world.now in
    let over = c.traces.invariant.may_trace.over in
    let place = c.place_in-place in
    record {
      order = log_in_order world.net over.valid (clone_at world.clones place.result)
          (counted world over place.result place.ensures.in_range) c.args.station c.log-log.result.now
          (log_is world over place.result place.ensures.in_range c.args.station c.log-log.result.now
          c.log-log.ensures.value);
      in_range = omega (arith, c.if-entry-len.true, c.len.ensures);
    }
