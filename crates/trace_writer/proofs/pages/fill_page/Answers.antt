use Rattle.std.proofs.Common.{◌∙◌, sym, ap, subst, refl, arith, take}
use Rattle.log_chain.specs.Stored.{entry_in}
use Rattle.trace_writer.specs.Cursors.{CursorView}
use Rattle.trace_writer.proofs.Stepping.{next_some}
use Rattle.trace_writer.specs.Pages.{IsPage}
use Rattle.trace_writer.proofs.Filling.{page_none, page_more, next_below}
use Rattle.trace_writer.proofs.Pieces.{place_within}
use Rattle.trace_writer.proofs.pages.fill_page.Goals as goal

pub loop-used-init : goal.loop-used-init
loop-used-init g c = record {
  lines = page_none c.args.model.now c.args.limit c.args.cursor.now.left;
  within = omega arith;
  size = refl;
  most = refl;
}

pub take-entry-requires : goal.take-entry-requires
take-entry-requires g c = (
  omega arith,
  next_some c.args.limit c.least.result c.loop-used.cursor.left c.least.ensures.next (omega arith) (omega arith),
)

pub loop-used-preserved : goal.loop-used-preserved
loop-used-preserved g c =
    let h = c.loop-used.invariant in
    let net = c.args.model.now in
    let entry = entry_in c.take-entry.result in
    let next = ap (λ (v : CursorView). v.left) c.take-entry.ensures.value in
    let wrote = c.write_stored-used.ensures.written in
    let below = next_below c.args.limit c.least.result c.loop-used.cursor.left entry c.take-entry.new.self.left
    c.least.ensures.next (omega arith) next in
    let more = page_more net c.args.limit (take c.loop-used.used c.loop-used.page) c.args.cursor.now.left
    c.loop-used.cursor.left entry c.take-entry.new.self.left h.lines next below in
    record {
      lines = subst (λ text. IsPage net c.args.limit text c.args.cursor.now.left c.take-entry.new.self.left)
          (sym wrote.text) more;
      within = place_within c.loop-used.used c.write_stored-used.result c.loop-used.page _ _ wrote.text wrote.place
          h.within;
      size = wrote.size ∙ h.size;
      most = sym (ap (λ (v : CursorView). v.most) c.take-entry.ensures.value) ∙ h.most;
    }
