use Rattle.std.proofs.Common.{◌<◌, arith, refl, sym, length, subst, []}
use Rattle.sim_outer.proofs.Appending.{appended_nothing}
use Rattle.sim_outer.proofs.Counts.{none_counted, counted_more}
use Rattle.trace_writer.proofs.AllTexts.{all_cut, put_whole}
use Rattle.trace_writer.specs.Kept.{AreMarksOf}
use Rattle.trace_writer.proofs.putting.put_all.Goals as goal

-- ---- the first text

pub loop-c-init : goal.loop-c-init
loop-c-init g c = record {
  puts_for = c.requires.puts_for;
  can = c.requires.ready.can;
  before = subst (AreMarksOf c.args.traces.now.net [] c.args.texts.now.text.items) (sym c.requires.ready.empty) tt;
  appended = appended_nothing (g.O.Sink.view c.args.out.now).bytes;
  later = omega arith;
  counted = none_counted (g.O.Sink.view c.args.out.now).calls;
}

-- ---- text after text

pub put_clone_text-requires : goal.put_clone_text-requires
put_clone_text-requires g c =
    let cs = c.args.traces.now.clones in
    let there : c.loop-c.c < length cs =
    omega (arith, c.loop-c-test.true, c.loop-c.auto.c-end, c.len-c-end.ensures.value) in
    let h = c.loop-c.invariant in
    λ κs. ((refl, tt), (h.puts_for, (there, (h.can, h.before))))

pub returns-in-Err : goal.returns-in-Err
returns-in-Err g c =
    let cs = c.args.traces.now.clones in
    let there : c.loop-c.c < length cs = omega (
      arith,
      c.loop-c-test.true,
      c.loop-c.auto.c-end,
      c.len-c-end.ensures.value,
    ) in
    let h = c.loop-c.invariant in
    let cut = c.in-Err.ensures.err in
    let later = cut.later in
    record {
      put = record {
        ok = tt;
        each = tt;
        cut = all_cut c.args.traces.now.net cs c.loop-c.c there (g.O.Sink.view c.args.out.now)
            (g.O.Sink.view c.loop-c.out) (g.O.Sink.view c.put_clone_text.new.out) h.appended h.later h.counted cut;
        later = omega (arith, h.later, later);
      };
    }

pub loop-c-preserved : goal.loop-c-preserved
loop-c-preserved g c =
    let h = c.loop-c.invariant in
    let net = c.args.traces.now.net in
    let cs = c.args.traces.now.clones in
    let there : c.loop-c.c < length cs = omega (
      arith,
      c.loop-c-test.true,
      c.loop-c.auto.c-end,
      c.len-c-end.ensures.value,
    ) in
    let put = c.in-Ok.ensures in
    let more_faults = put.ok.later in
    record {
      puts_for = put.puts_for;
      can = put.can;
      before = put.before;
      appended = put_whole net cs c.loop-c.c there _ _ _ h.appended put.ok.bytes;
      later = omega (arith, h.later, more_faults);
      counted = counted_more c.loop-c.c (g.O.Sink.view c.args.out.now).calls (g.O.Sink.view c.loop-c.out).calls
          (g.O.Sink.view c.put_clone_text.new.out).calls h.counted put.ok.counted;
    }
