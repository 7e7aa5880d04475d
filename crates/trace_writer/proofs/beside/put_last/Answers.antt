use Rattle.sim_base.specs.Clones.{clone_at}
use Rattle.trace_writer.proofs.LogLaws.{counted_seen}
use Rattle.trace_writer.proofs.Logs.{trace_rises}
use Rattle.trace_writer.proofs.PartPuts.{puts_then}
use Rattle.trace_writer.proofs.beside.put_last.Goals as goal

pub put_rest-requires : goal.put_rest-requires
put_rest-requires g c = record { may = c.in-Ok.ensures.ok.may }

pub returns-in-Err : goal.returns-in-Err
returns-in-Err g c =
    let cut = c.in-Err.ensures in
    record { put = record { ok = tt; err = cut.err; marks = tt; can = c.put_ready.ensures.can } }

pub returns : goal.returns
returns g c =
    let v = c.args.traces.now in
    let p = c.place_in-place in
    let few = counted_seen c.traces.inside.world.now c.traces.invariant.may_trace.over v _ c.traces.view_is
    c.args.rest.c p.result p.ensures.in_range p.ensures.same in
    let rise = trace_rises v.net c.len-clones.ensures.valid (clone_at v.clones c.args.rest.c) few in
    record {
      put = puts_then v c.args.rest rise c.args.ready.now.until c.in-Ok.kept_until c.put_ready.new.texts
          (g.O.Sink.view c.args.out.now) (g.O.Sink.view c.put_ready.new.out) c.in-Ok.ensures.ok
          c.put_rest.new.texts (g.O.Sink.view c.put_rest.new.out) c.put_rest.result c.put_rest.ensures.put;
    }
