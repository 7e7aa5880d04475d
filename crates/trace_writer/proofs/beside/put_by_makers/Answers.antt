use Rattle.std.proofs.Common.{arith, refl, subst, sym}
use Rattle.sim_base.specs.Clones.{clone_at}
use Rattle.trace_writer.specs.Parts.{AreParts, IsPutUpTo}
use Rattle.trace_writer.specs.Puts.{IsCutOff}
use Rattle.trace_writer.specs.Rests.{MayPut, PutsRest, rest_lines}
use Rattle.trace_writer.specs.declared.text_rest.TextRest.{TextRest}
use Rattle.trace_writer.proofs.LogLaws.{counted_seen}
use Rattle.trace_writer.proofs.Logs.{trace_rises}
use Rattle.trace_writer.proofs.PartPuts.{put_to_further, put_to_cut, put_to_none, puts_then}
use Rattle.trace_writer.proofs.beside.put_by_makers.Goals as goal

-- ---- before the first batch

pub first_word-end-requires : goal.first_word-end-requires
first_word-end-requires g c =
    let valid = c.horizon.ensures.valid in
    let most = valid.horizon_max in
    record { fits = omega (arith, c.horizon.ensures.value, most) }

pub batch-init : goal.batch-init
batch-init g c =
    let v = c.args.traces.now in
    let p = c.place_in-place in
    let few = counted_seen c.traces.inside.world.now c.traces.invariant.may_trace.over v _ c.traces.view_is
    c.args.rest.c p.result p.ensures.in_range p.ensures.same in
    let rise = trace_rises v.net c.len-clones.ensures.valid (clone_at v.clones c.args.rest.c) few in
    record {
      left = refl;
      put = put_to_none v c.args.rest rise c.args.texts.now (g.O.Sink.view c.args.out.now) c.requires.may;
      ready = subst (λ k. AreParts v c.args.rest.c c.args.rest.from k c.args.rest.from) (sym c.new.ensures.items) refl;
      makers = c.requires.makers;
    }

-- ---- a batch is started

pub start_batch-requires : goal.start_batch-requires
start_batch-requires g c =
    let h = c.batch.invariant in
    record {
      makers = h.makers;
      in_range = c.requires.may.in_range;
      nonempty = c.batch-test.true;
      whole = h.put.may.whole;
      whole_end = let a = c.first_word-end.ensures.value in omega (arith, a);
    }

-- ---- no batch can be started: the ready parts and the rest are put

pub put_last-requires : goal.put_last-requires
put_last-requires g c =
    let h = c.batch.invariant in
    record {
      may = subst (λ r. MayPut c.args.traces.now r c.batch.texts) (sym h.left) h.put.may;
      ready = subst (λ (r : TextRest). AreParts c.args.traces.now r.c r.from c.batch.ready.parts.items
          c.batch.ready.until) (sym h.left) h.ready;
    }

pub returns-in_default : goal.returns-in_default
returns-in_default g c =
    let v = c.args.traces.now in
    let p = c.place_in-place in
    let few = counted_seen c.traces.inside.world.now c.traces.invariant.may_trace.over v _ c.traces.view_is
    c.args.rest.c p.result p.ensures.in_range p.ensures.same in
    let rise = trace_rises v.net c.len-clones.ensures.valid (clone_at v.clones c.args.rest.c) few in
    let h = c.batch.invariant in
    let rest = c.args.rest in
    let left = c.batch.left in
    let start = g.O.Sink.view c.args.out.now in
    let u = g.O.Sink.view c.batch.out in
    record {
      put = puts_then v rest rise left.from left.kept_until c.batch.texts start u h.put c.put_last.new.texts
          (g.O.Sink.view c.put_last.new.out) c.put_last.result
          (subst (λ r. PutsRest v r c.put_last.new.texts u (g.O.Sink.view c.put_last.new.out) c.put_last.result) h.left
          c.put_last.ensures.put);
      makers = c.start_batch.ensures.makers;
    }

-- ---- the ready parts are put

pub put_ready-requires : goal.put_ready-requires
put_ready-requires g c =
    let h = c.batch.invariant in
    record {
      may = subst (λ r. MayPut c.args.traces.now r c.batch.texts) (sym h.left) h.put.may;
      ready = subst (λ (r : TextRest). AreParts c.args.traces.now r.c r.from c.batch.ready.parts.items
          c.batch.ready.until) (sym h.left) h.ready;
    }

pub returns-in-Err : goal.returns-in-Err
returns-in-Err g c =
    let v = c.args.traces.now in
    let p = c.place_in-place in
    let few = counted_seen c.traces.inside.world.now c.traces.invariant.may_trace.over v _ c.traces.view_is
    c.args.rest.c p.result p.ensures.in_range p.ensures.same in
    let rise = trace_rises v.net c.len-clones.ensures.valid (clone_at v.clones c.args.rest.c) few in
    let h = c.batch.invariant in
    let rest = c.args.rest in
    let left = c.batch.left in
    let start = g.O.Sink.view c.args.out.now in
    let u = g.O.Sink.view c.batch.out in
    let x = g.O.Sink.view c.put_ready.new.out in
    record {
      put = record {
        ok = tt;
        err = put_to_cut v rest rise left.from left.kept_until c.batch.texts start u h.put x
            (subst (λ r. IsCutOff (rest_lines v r) u x) h.left c.in-Err.ensures.err);
        marks = tt;
        can = c.put_ready.ensures.can;
      };
      makers = c.start_batch.ensures.makers;
    }

-- ---- the batch is finished

pub put_rest-requires : goal.put_rest-requires
put_rest-requires g c =
    let v = c.args.traces.now in
    let p = c.place_in-place in
    let few = counted_seen c.traces.inside.world.now c.traces.invariant.may_trace.over v _ c.traces.view_is
    c.args.rest.c p.result p.ensures.in_range p.ensures.same in
    let rise = trace_rises v.net c.len-clones.ensures.valid (clone_at v.clones c.args.rest.c) few in
    let h = c.batch.invariant in
    let rest = c.args.rest in
    let left = c.batch.left in
    let start = g.O.Sink.view c.args.out.now in
    let u = g.O.Sink.view c.batch.out in
    let put = subst (λ r. IsPutUpTo v r c.batch.ready.until c.in-Ok.kept_until c.put_ready.new.texts u
    (g.O.Sink.view c.put_ready.new.out)) h.left c.in-Ok.ensures.ok in
    let further = put_to_further v rest rise left.from left.kept_until c.batch.texts start u h.put c.batch.ready.until
    c.in-Ok.kept_until c.put_ready.new.texts (g.O.Sink.view c.put_ready.new.out) put in
    record { may = further.may }

pub returns-in_default-finish_batch : goal.returns-in_default-finish_batch
returns-in_default-finish_batch g c =
    let v = c.args.traces.now in
    let p = c.place_in-place in
    let few = counted_seen c.traces.inside.world.now c.traces.invariant.may_trace.over v _ c.traces.view_is
    c.args.rest.c p.result p.ensures.in_range p.ensures.same in
    let rise = trace_rises v.net c.len-clones.ensures.valid (clone_at v.clones c.args.rest.c) few in
    let h = c.batch.invariant in
    let rest = c.args.rest in
    let left = c.batch.left in
    let start = g.O.Sink.view c.args.out.now in
    let u = g.O.Sink.view c.batch.out in
    let put = subst (λ r. IsPutUpTo v r c.batch.ready.until c.in-Ok.kept_until c.put_ready.new.texts u
    (g.O.Sink.view c.put_ready.new.out)) h.left c.in-Ok.ensures.ok in
    let further = put_to_further v rest rise left.from left.kept_until c.batch.texts start u h.put c.batch.ready.until
    c.in-Ok.kept_until c.put_ready.new.texts (g.O.Sink.view c.put_ready.new.out) put in
    record {
      put = puts_then v rest rise c.batch.ready.until c.in-Ok.kept_until c.put_ready.new.texts start
          (g.O.Sink.view c.put_ready.new.out) further c.put_rest.new.texts (g.O.Sink.view c.put_rest.new.out)
          c.put_rest.result c.put_rest.ensures.put;
      makers = c.finish_batch.ensures.makers;
    }

pub batch-preserved : goal.batch-preserved
batch-preserved g c =
    let v = c.args.traces.now in
    let p = c.place_in-place in
    let few = counted_seen c.traces.inside.world.now c.traces.invariant.may_trace.over v _ c.traces.view_is
    c.args.rest.c p.result p.ensures.in_range p.ensures.same in
    let rise = trace_rises v.net c.len-clones.ensures.valid (clone_at v.clones c.args.rest.c) few in
    let h = c.batch.invariant in
    let rest = c.args.rest in
    let left = c.batch.left in
    let start = g.O.Sink.view c.args.out.now in
    let u = g.O.Sink.view c.batch.out in
    let put = subst (λ r. IsPutUpTo v r c.batch.ready.until c.in-Ok.kept_until c.put_ready.new.texts u
    (g.O.Sink.view c.put_ready.new.out)) h.left c.in-Ok.ensures.ok in
    let further = put_to_further v rest rise left.from left.kept_until c.batch.texts start u h.put c.batch.ready.until
    c.in-Ok.kept_until c.put_ready.new.texts (g.O.Sink.view c.put_ready.new.out) put in
    record {
      left = refl;
      put = further;
      ready = c.in-Some-finish_batch.ensures.ready.parts_are;
      makers = c.finish_batch.ensures.makers;
    }

-- ---- after the last batch

pub put_last-requires-2 : goal.put_last-requires-2
put_last-requires-2 g c =
    let h = c.batch.invariant in
    record {
      may = subst (λ r. MayPut c.args.traces.now r c.batch.texts) (sym h.left) h.put.may;
      ready = subst (λ (r : TextRest). AreParts c.args.traces.now r.c r.from c.batch.ready.parts.items
          c.batch.ready.until) (sym h.left) h.ready;
    }

pub returns : goal.returns
returns g c =
    let v = c.args.traces.now in
    let p = c.place_in-place in
    let few = counted_seen c.traces.inside.world.now c.traces.invariant.may_trace.over v _ c.traces.view_is
    c.args.rest.c p.result p.ensures.in_range p.ensures.same in
    let rise = trace_rises v.net c.len-clones.ensures.valid (clone_at v.clones c.args.rest.c) few in
    let h = c.batch.invariant in
    let rest = c.args.rest in
    let left = c.batch.left in
    let start = g.O.Sink.view c.args.out.now in
    let u = g.O.Sink.view c.batch.out in
    record {
      put = puts_then v rest rise left.from left.kept_until c.batch.texts start u h.put c.put_last-2.new.texts
          (g.O.Sink.view c.put_last-2.new.out) c.put_last-2.result
          (subst (λ r. PutsRest v r c.put_last-2.new.texts u (g.O.Sink.view c.put_last-2.new.out) c.put_last-2.result)
          h.left c.put_last-2.ensures.put);
      makers = h.makers;
    }
