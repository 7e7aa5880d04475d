use Rattle.std.proofs.Common.{◌≡◌, ◌+◌, ap, ◌∙◌, sym, subst, length, arith}
use Rattle.sim_base.specs.Clones.{clone_at}
use Rattle.net_model.specs.Net.{Net}
use Rattle.stations.specs.Runs.{trace_of}
use Rattle.log_chain.specs.Packing.{FitWords}
use Rattle.trace_writer.specs.Cursors.{CursorView}
use Rattle.trace_writer.specs.Words.{entry_word}
use Rattle.run_laws.specs.Beginnings.{from}
use Rattle.trace_writer.specs.WorldTraces.{WorldTracesView}
use Rattle.trace_writer.proofs.LogLaws.{as_seen, counted, log_is}
use Rattle.trace_writer.proofs.Logs.{fit_from, log_in_order, merged_all, merged_next}
use Rattle.trace_writer.proofs.text_rest.fill_merge.Goals as goal

pub loop-s-init : goal.loop-s-init
loop-s-init c = record {
  left = ap (λ (v : CursorView). v.left) c.clear.ensures.value;
  logs = ap (λ (v : CursorView). v.logs) c.clear.ensures.value;
  within = omega arith;
  most = ap (λ (v : CursorView). v.most) c.clear.ensures.value;
}

pub walk_from_word-requires : goal.walk_from_word-requires
walk_from_word-requires c =
    let world = c.traces.inside.world.now in
    let over = c.traces.invariant.may_trace.over in
    let place = c.place_in-place in
    record {
      order = log_in_order world.net over.valid (clone_at world.clones place.result)
          (counted world over place.result place.ensures.in_range) (c.loop-s.s + 1) c.log.result.now
          (log_is world over place.result place.ensures.in_range (c.loop-s.s + 1) c.log.result.now c.log.ensures.value);
    }

pub add-requires : goal.add-requires
add-requires c =
    let world = c.traces.inside.world.now in
    let over = c.traces.invariant.may_trace.over in
    let place = c.place_in-place in
    let h = c.loop-s.invariant in
    let sites = c.len-s-end.ensures.value ∙ ap (λ (n : Net). length n.sites) c.model.ensures.value
    ∙ ap (λ (v : WorldTracesView). length v.net.sites) c.traces.view_is in
    let order = log_in_order world.net over.valid (clone_at world.clones place.result)
    (counted world over place.result place.ensures.in_range) (c.loop-s.s + 1) c.log.result.now
    (log_is world over place.result place.ensures.in_range (c.loop-s.s + 1) c.log.result.now c.log.ensures.value) in
    record {
      free = omega (arith, h.logs, h.most, c.requires.most, c.loop-s-test.true, sites);
      fit = subst FitWords (sym c.walk_from_word.ensures.value) (fit_from c.args.word c.log.result.now order.fit);
    }

pub loop-s-preserved : goal.loop-s-preserved
loop-s-preserved c =
    let world = c.traces.inside.world.now in
    let over = c.traces.invariant.may_trace.over in
    let place = c.place_in-place in
    let h = c.loop-s.invariant in
    let sites = c.len-s-end.ensures.value ∙ ap (λ (n : Net). length n.sites) c.model.ensures.value
    ∙ ap (λ (v : WorldTracesView). length v.net.sites) c.traces.view_is in
    let added = c.add.ensures.value in
    record {
      left = merged_next world.net over.valid (clone_at world.clones place.result)
          (counted world over place.result place.ensures.in_range) c.args.word c.loop-s.s c.loop-s.merge.left
          c.log.result.now c.walk_from_word.result c.add.new.self.left h.left
          (log_is world over place.result place.ensures.in_range (c.loop-s.s + 1) c.log.result.now c.log.ensures.value)
          c.walk_from_word.ensures.value (ap (λ (v : CursorView). v.left) added);
      logs = ap (λ (v : CursorView). v.logs) added ∙ ap (λ n. n + 1) h.logs;
      within = omega (arith, sites, c.loop-s-test.true);
      most = ap (λ (v : CursorView). v.most) added ∙ h.most;
    }

pub returns-clause-left : goal.returns-clause-left
returns-clause-left c =
    let h = c.loop-s.invariant in
    let world = c.traces.inside.world.now in
    let over = c.traces.invariant.may_trace.over in
    let place = c.place_in-place in
    let inner = c.len-s-end.ensures.value ∙ ap (λ (n : Net). length n.sites) c.model.ensures.value in
    let sites = inner ∙ ap (λ (v : WorldTracesView). length v.net.sites) c.traces.view_is in
    let end : c.loop-s.s ≡ length world.net.sites = omega (arith, h.within, inner, sites, c.loop-s-test.false) in
    as_seen world over c.args.traces.now _ c.traces.view_is c.args.c place.result place.ensures.in_range
    place.ensures.same (λ n d. c.loop-s.merge.left ≡ from entry_word c.args.word (trace_of n d))
    (merged_all world.net over.valid (clone_at world.clones place.result)
    (counted world over place.result place.ensures.in_range) c.args.word c.loop-s.s c.loop-s.merge.left end h.left)
