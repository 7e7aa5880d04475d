use Rattle.std.proofs.Common.{◌≡◌, ◌<◌, ◌∙◌, ap, arith, get_or, length, subst}
use Rattle.sim_base.specs.Clones.{clone_at}
use Rattle.trace_writer.specs.Cursors.{CursorView}
use Rattle.trace_writer.specs.Parts.{AreParts, IsPutUpTo}
use Rattle.trace_writer.specs.Puts.{IsPartPut}
use Rattle.trace_writer.proofs.LogLaws.{counted_seen}
use Rattle.trace_writer.proofs.Logs.{trace_rises}
use Rattle.trace_writer.proofs.PartPuts.{drop_end, part_cut, parts_next, put_to_next, put_to_none}
use Rattle.trace_writer.proofs.beside.put_ready.Goals as goal

pub loop-made-init : goal.loop-made-init
loop-made-init g c =
    let v = c.args.traces.now in
    let p = c.place_in-place in
    let few = counted_seen c.traces.inside.world.now c.traces.invariant.may_trace.over v _ c.traces.view_is
    c.args.rest.c p.result p.ensures.in_range p.ensures.same in
    let rise = trace_rises v.net c.len-clones.ensures.valid (clone_at v.clones c.args.rest.c) few in
    record {
      word = c.args.rest.from;
      left = c.requires.ready;
      put = put_to_none v c.args.rest rise c.args.texts.now (g.O.Sink.view c.args.out.now) c.requires.may;
    }

pub returns-in-Err-clause-err : goal.returns-in-Err-clause-err
returns-in-Err-clause-err g c =
    let v = c.args.traces.now in
    let p = c.place_in-place in
    let few = counted_seen c.traces.inside.world.now c.traces.invariant.may_trace.over v _ c.traces.view_is
    c.args.rest.c p.result p.ensures.in_range p.ensures.same in
    let rise = trace_rises v.net c.len-clones.ensures.valid (clone_at v.clones c.args.rest.c) few in
    let ready = c.args.ready.now in
    let parts = ready.parts.items in
    let i = c.loop-made.made-index in
    let all = c.deref-made-items.ensures.value in
    let many = ap length all in
    let below : i < length parts = omega (arith, c.loop-made-test.true, c.loop-made.auto.made-index-end, many) in
    let is = c.made-item.is ∙ ap (λ l. get_or l i c.made-item.result) all in
    let made = c.made-item.result in
    let h = c.loop-made.invariant in
    let left = parts_next v c.args.rest.c h.word parts ready.until i made below is h.left in
    let cut = c.in-Err.ensures in
    part_cut v c.args.rest rise h.word c.loop-made.kept_until c.loop-made.texts (g.O.Sink.view c.args.out.now)
    (g.O.Sink.view c.loop-made.out) h.put c.deref.result.now made.until (g.O.Sink.view c.put_part.new.self) left.0
    (c.deref.ensures.value ∙ left.1)
    (record { bytes = cut.part; failed = cut.cause; later = cut.later; counted = cut.counted })

pub loop-made-preserved : goal.loop-made-preserved
loop-made-preserved g c =
    let v = c.args.traces.now in
    let p = c.place_in-place in
    let few = counted_seen c.traces.inside.world.now c.traces.invariant.may_trace.over v _ c.traces.view_is
    c.args.rest.c p.result p.ensures.in_range p.ensures.same in
    let rise = trace_rises v.net c.len-clones.ensures.valid (clone_at v.clones c.args.rest.c) few in
    let ready = c.args.ready.now in
    let parts = ready.parts.items in
    let i = c.loop-made.made-index in
    let all = c.deref-made-items.ensures.value in
    let many = ap length all in
    let below : i < length parts = omega (arith, c.loop-made-test.true, c.loop-made.auto.made-index-end, many) in
    let is = c.made-item.is ∙ ap (λ l. get_or l i c.made-item.result) all in
    let made = c.made-item.result in
    let h = c.loop-made.invariant in
    let left = parts_next v c.args.rest.c h.word parts ready.until i made below is h.left in
    let put = c.in-Ok.ensures in
    let keep = c.keep_part-kept_until.ensures in
    let can = h.put.may.can in
    record {
      word = made.until;
      left = left.2;
      put = put_to_next v c.args.rest rise h.word c.loop-made.kept_until c.loop-made.texts
          (g.O.Sink.view c.args.out.now) (g.O.Sink.view c.loop-made.out) h.put made.bytes.items made.until
          c.keep_part-kept_until.result c.keep_part-kept_until.new.texts left.0 left.1 keep.either keep.kept keep.none
          (record {
            most = ap (λ (m : CursorView). m.most) keep.merge ∙ can.most;
            page = let a = ap length keep.page in let b = can.page in omega (arith, a, b);
          })
          (g.O.Sink.view c.put_part.new.self)
          (subst (λ k. IsPartPut k (g.O.Sink.view c.loop-made.out) (g.O.Sink.view c.put_part.new.self))
          c.deref.ensures.value (record { bytes = put.ok; later = put.later; same = put.same }));
    }

pub returns-clause-ok : goal.returns-clause-ok
returns-clause-ok g c =
    let v = c.args.traces.now in
    let ready = c.args.ready.now in
    let h = c.loop-made.invariant in
    let many = ap length c.deref-made-items.ensures.value in
    let none = drop_end c.loop-made.made-index ready.parts.items
    (omega (arith, c.loop-made-test.false, many)) in
    let end : h.word ≡ ready.until =
    subst (λ k. AreParts v c.args.rest.c h.word k ready.until) none h.left in
    subst (λ k. IsPutUpTo v c.args.rest k c.loop-made.kept_until c.loop-made.texts (g.O.Sink.view c.args.out.now)
    (g.O.Sink.view c.loop-made.out)) end h.put
