use Rattle.std.proofs.Common.{◌≡◌, ◌++◌, ◌∙◌, ap, sym, subst, refl, arith, length, take, not, nat_lt}
use Rattle.sim_base.specs.Clones.{clone_at}
use Rattle.net_model.specs.Net.{Net}
use Rattle.run_laws.specs.Beginnings.{from}
use Rattle.run_laws.proofs.BeginningParts.{rise_filter}
use Rattle.trace_writer.specs.Words.{entry_word}
use Rattle.trace_writer.specs.Kept.{lines_text}
use Rattle.trace_writer.specs.Pages.{IsPage}
use Rattle.trace_writer.specs.Rests.{trace_at}
use Rattle.trace_writer.specs.WorldTraces.{WorldTracesView}
use Rattle.trace_writer.proofs.Filling.{next_past}
use Rattle.trace_writer.proofs.LogLaws.{counted_seen}
use Rattle.trace_writer.proofs.Logs.{trace_rises}
use Rattle.trace_writer.proofs.PageLines.{fewer_left, page_join, taken_below}
use Rattle.trace_writer.proofs.PartPuts.{made_all}
use Rattle.trace_writer.proofs.Pieces.{written_back}
use Rattle.trace_writer.proofs.making.make_part.Goals as goal

pub page-smaller : goal.page-smaller
page-smaller c =
    let fill = c.fill_page-used in
    fewer_left c.model-model.result.now c.args.part.until fill.result c.least.result fill.new.page c.page.merge.left
    fill.new.self.left fill.ensures.lines fill.ensures.within fill.ensures.done c.least.ensures.next c.page-test.true
    c.requires.part.whole (omega arith)

pub page-preserved : goal.page-preserved
page-preserved c =
    let net = c.model-model.result.now in
    let h = c.page.invariant in
    let until = c.args.part.until in
    let es = from entry_word c.args.part.from (trace_at c.args.traces.now c.args.part.c) in
    let fill = c.fill_page-used in
    let size = fill.ensures.size ∙ ap length c.deref_mut.ensures.value in
    let back = written_back c.page.page.len fill.new.page c.page.page.items c.page.page.ok.0 size in
    let page_is = c.deref.ensures.value ∙ back in
    let long = ap length back in
    let bytes = c.in_ok-extend_from_slice.ensures.items ∙ ap (λ k. c.page.bytes.items ++ take fill.result k) page_is in
    record {
      room = omega (arith, long, size, h.room);
      made = subst (λ k. IsPage net until k es fill.new.self.left) (sym bytes)
          (page_join net until c.page.bytes.items (take fill.result fill.new.page) es c.page.merge.left
          fill.new.self.left h.made fill.ensures.lines);
    }

pub returns : goal.returns
returns c =
    let v = c.args.traces.now in
    let p = c.place_in-place in
    let part = c.args.part in
    let few = counted_seen c.traces.inside.world.now c.traces.invariant.may_trace.over v _ c.traces.view_is part.c
    p.result p.ensures.in_range p.ensures.same in
    let rise = trace_rises v.net c.len-clones.ensures.valid (clone_at v.clones part.c) few in
    let is : c.model-model.result.now ≡ v.net =
    c.model-model.ensures.value ∙ ap (λ (w : WorldTracesView). w.net) c.traces.view_is in
    let es = from entry_word part.from (trace_at v part.c) in
    let made = c.page.invariant.made in
    let left = c.page.merge.left in
    let past = next_past part.until c.least.result left c.least.ensures.next c.page-test.false in
    let done = made_all part.until es made.taken left
    (rise_filter entry_word (λ e. not (nat_lt (entry_word e) part.from)) (trace_at v part.c) rise) made.parts
    (taken_below part.until made.taken made.below) past c.requires.part.whole in
    record {
      made = record {
        until_is = refl;
        bytes_are = made.lines ∙ ap (λ (n : Net). lines_text n made.taken) is ∙ ap (lines_text v.net) done;
      };
    }
