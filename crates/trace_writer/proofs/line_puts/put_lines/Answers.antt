use Rattle.std.proofs.Common.{◌≤◌, ◌%◌, ◌∙◌, ap, sym, subst, refl, arith, length, take, inl, inr}
use Rattle.std.proofs.lemmas.Bool.{cases_lt}
use Rattle.sim_base.specs.declared.message.TheConstants.{WORD_PLACES}
use Rattle.trace_writer.specs.Cursors.{CursorView}
use Rattle.trace_writer.specs.Kept.{IsPageKept, IsPutTo}
use Rattle.trace_writer.specs.Pages.{IsPage, reached}
use Rattle.trace_writer.specs.Puts.{IsCutOff, IsPartPut}
use Rattle.trace_writer.proofs.PageLines.{first_more, marks_of_page, marks_still, put_cut, put_more, put_none}
use Rattle.trace_writer.proofs.Pieces.{written_back}
use Rattle.trace_writer.proofs.line_puts.put_lines.Goals as goal

pub page-init : goal.page-init
page-init g c = record {
  whole = c.requires.whole;
  page = c.requires.page;
  put = put_none c.args.model.now c.args.texts.now.merge.left (g.O.Sink.view c.args.out.now);
  kept = λ tr rise h. h;
  memory = record { most = refl; page = refl };
}

-- ---- a page is cut off

pub returns-in-Err-clause-err : goal.returns-in-Err-clause-err
returns-in-Err-clause-err g c =
    let net = c.args.model.now in
    let inv = c.page.invariant in
    let old = c.page.texts in
    let fill = c.fill_page-used in
    let whole_page = fill.new.page in
    let size = fill.ensures.size ∙ ap length c.deref_mut.ensures.value in
    let back = written_back old.page.len whole_page old.page.items old.page.ok.0 size in
    let page_is = c.deref.ensures.value ∙ back in
    let u = g.O.Sink.view c.page.out in
    let x = g.O.Sink.view c.put_part.new.self in
    let cut = c.in-Err.ensures in
    put_cut net c.limit_after-limit.result (take fill.result whole_page) c.args.texts.now.merge.left old.merge.left
    fill.new.self.left (g.O.Sink.view c.args.out.now) u x inv.put fill.ensures.lines
    (subst (λ k. IsCutOff (take fill.result k) u x) page_is
    (record { bytes = cut.part; failed = cut.cause; later = cut.later; counted = cut.counted }))

-- ---- a page is put, and kept

pub page-preserved-then-least-kept_until : goal.page-preserved-then-least-kept_until
page-preserved-then-least-kept_until g c =
    let net = c.args.model.now in
    let inv = c.page.invariant in
    let old = c.page.texts in
    let fill = c.fill_page-used in
    let whole_page = fill.new.page in
    let size = fill.ensures.size ∙ ap length c.deref_mut.ensures.value in
    let back = written_back old.page.len whole_page old.page.items old.page.ok.0 size in
    let page_is = c.deref.ensures.value ∙ back in
    let u = g.O.Sink.view c.page.out in
    let x = g.O.Sink.view c.put_part.new.self in
    let put = c.in-Ok.ensures in
    let keep = c.keep_lines-kept_until.ensures in
    let now = c.keep_lines-kept_until.new.texts in
    let kept_until = c.page.kept_until in
    let part = take fill.result whole_page in
    let some : 1 ≤ kept_until = omega (arith, c.if-least-kept_until.true) in
    let left_is = ap (λ (v : CursorView). v.left) keep.merge in
    let limit_is = c.limit_after-limit.ensures.kept c.if-least-kept_until.true in
    let made = subst (λ es. IsPage net kept_until part old.merge.left es) (sym left_is)
    (subst (λ n. IsPage net n part old.merge.left fill.new.self.left) limit_is fill.ensures.lines) in
    let page_kept : 1 ≤ c.keep_lines-kept_until.result → IsPageKept part (reached kept_until now.merge.left)
    old.text.items old.marks.items now.text.items now.marks.items = λ is_kept.
    subst (λ es. IsPageKept part (reached kept_until es) old.text.items old.marks.items now.text.items now.marks.items)
    (sym left_is)
    (subst (λ k. IsPageKept (take fill.result k) (reached kept_until fill.new.self.left) old.text.items old.marks.items
    now.text.items now.marks.items) back (keep.kept is_kept)) in
    let room = ap length keep.page ∙ ap length back ∙ size in
    record {
      whole = elim keep.either [
        | inl same ↦ ap (λ n. n % WORD_PLACES) same ∙ inv.whole
        | inr none ↦ ap (λ n. n % WORD_PLACES) none
      ];
      page = omega (arith, room, inv.page);
      put = subst (λ es. IsPutTo net c.args.texts.now.merge.left es (g.O.Sink.view c.args.out.now) x) (sym left_is)
          (put_more net c.limit_after-limit.result part c.args.texts.now.merge.left old.merge.left fill.new.self.left
          (g.O.Sink.view c.args.out.now) u x inv.put fill.ensures.lines
          (subst (λ k. IsPartPut (take fill.result k) u x) page_is
          (record { bytes = put.ok; later = put.later; same = put.same })));
      kept = λ tr rise h.
          let k = inv.kept tr rise h in
          record {
            first = λ is_kept. first_more net kept_until c.least-least.result part tr old now rise (k.first some)
                k.marks made c.least-least.ensures.next c.if-least-kept_until.true (omega arith) (page_kept is_kept);
            marks = elim (cases_lt 0 c.keep_lines-kept_until.result) [
              | inl is_kept ↦ marks_of_page net kept_until c.least-least.result part tr old now rise (k.first some)
                  k.marks made c.least-least.ensures.next c.if-least-kept_until.true (omega arith)
                  (page_kept (omega (arith, is_kept)))
              | inr none ↦
                  let same = keep.none (omega (arith, none)) some in
                  marks_still net tr old now (record { text_is = same.text_is; marks_are = same.marks_are }) k.marks
            ];
          };
      memory = record {
        most = ap (λ (v : CursorView). v.most) keep.merge ∙ fill.ensures.most ∙ inv.memory.most;
        page = room ∙ inv.memory.page;
      };
    }

-- ---- a page is put, and not kept

pub page-preserved : goal.page-preserved
page-preserved g c =
    let net = c.args.model.now in
    let inv = c.page.invariant in
    let old = c.page.texts in
    let fill = c.fill_page-used in
    let whole_page = fill.new.page in
    let size = fill.ensures.size ∙ ap length c.deref_mut.ensures.value in
    let back = written_back old.page.len whole_page old.page.items old.page.ok.0 size in
    let page_is = c.deref.ensures.value ∙ back in
    let u = g.O.Sink.view c.page.out in
    let x = g.O.Sink.view c.put_part.new.self in
    let put = c.in-Ok.ensures in
    let part = take fill.result whole_page in
    let room = ap length back ∙ size in
    record {
      whole = refl;
      page = omega (arith, room, inv.page);
      put = put_more net c.limit_after-limit.result part c.args.texts.now.merge.left old.merge.left fill.new.self.left
          (g.O.Sink.view c.args.out.now) u x inv.put fill.ensures.lines
          (subst (λ k. IsPartPut (take fill.result k) u x) page_is
          (record { bytes = put.ok; later = put.later; same = put.same }));
      kept = λ tr rise h. record {
        first = λ is_kept. absurd (omega (arith, is_kept));
        marks = (inv.kept tr rise h).marks;
      };
      memory = record {
        most = fill.ensures.most ∙ inv.memory.most;
        page = room ∙ inv.memory.page;
      };
    }
