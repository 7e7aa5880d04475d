use Rattle.std.proofs.Common.{◌∙◌, refl, sym, subst}
use Rattle.sim_base.specs.Clones.{clone_at}
use Rattle.trace_writer.specs.Kept.{AreMarksOf}
use Rattle.trace_writer.specs.Rests.{MayPut}
use Rattle.trace_writer.specs.Texts.{body}
use Rattle.trace_writer.proofs.Keeping.{trace_before-next}
use Rattle.trace_writer.proofs.LinePuts.{all_taken, head_cut, others_cut}
use Rattle.trace_writer.proofs.LogLaws.{counted_seen}
use Rattle.trace_writer.proofs.putting.put_text_lines.Goals as goal

pub put_lines-requires : goal.put_lines-requires
put_lines-requires g c =
    let may : MayPut c.args.traces.now c.args.rest c.args.texts.now = record {
      in_range = c.requires.in_range;
      whole = c.requires.whole;
      can = c.requires.can;
      text_is = λ some. c.requires.begun.text_is;
      marks = c.requires.begun.marks;
    } in
    λ κs. ((refl, tt), (c.requires.puts_for, may))

pub returns-in-Err-clause-err : goal.returns-in-Err-clause-err
unfolding body
returns-in-Err-clause-err g c =
    let v = c.args.traces.now in
    let p = c.place_in-place in
    let few = counted_seen c.traces.inside.world.now c.traces.invariant.may_trace.over v _ c.traces.view_is
    c.args.rest.c p.result p.ensures.in_range p.ensures.same in
    let valid = c.len-clones.ensures.valid in
    let cut = c.in-Err.ensures in
    head_cut v.net valid (clone_at v.clones c.args.rest.c) few c.args.rest.from c.deref.result.now _ _
    (c.deref.ensures.value ∙ c.requires.begun.text_is)
    (record { bytes = cut.part; failed = cut.cause; later = cut.later; counted = cut.counted })

pub returns-in-Ok-put_lines-clause-ok : goal.returns-in-Ok-put_lines-clause-ok
unfolding body
returns-in-Ok-put_lines-clause-ok g c =
    let v = c.args.traces.now in
    let p = c.place_in-place in
    let few = counted_seen c.traces.inside.world.now c.traces.invariant.may_trace.over v _ c.traces.view_is
    c.args.rest.c p.result p.ensures.in_range p.ensures.same in
    let valid = c.len-clones.ensures.valid in
    let head = c.in-Ok.ensures in
    all_taken v.net valid (clone_at v.clones c.args.rest.c) few c.args.rest.from c.deref.result.now _ _ _
    (c.deref.ensures.value ∙ c.requires.begun.text_is)
    (record { bytes = head.ok; later = head.later; same = head.same }) c.in-Ok-put_lines.ensures.put.ok

pub returns-in-Ok-put_lines-clause-before : goal.returns-in-Ok-put_lines-clause-before
returns-in-Ok-put_lines-clause-before g c =
    let v = c.args.traces.now in
    let last = c.put_lines.new.texts in
    subst (λ es. AreMarksOf v.net es last.text.items last.marks.items)
    (sym (trace_before-next v.net v.clones c.args.rest.c)) c.in-Ok-put_lines.ensures.put.marks

pub returns-in-Err-put_lines-clause-err : goal.returns-in-Err-put_lines-clause-err
unfolding body
returns-in-Err-put_lines-clause-err g c =
    let v = c.args.traces.now in
    let p = c.place_in-place in
    let few = counted_seen c.traces.inside.world.now c.traces.invariant.may_trace.over v _ c.traces.view_is
    c.args.rest.c p.result p.ensures.in_range p.ensures.same in
    let valid = c.len-clones.ensures.valid in
    let head = c.in-Ok.ensures in
    others_cut v.net valid (clone_at v.clones c.args.rest.c) few c.args.rest.from c.deref.result.now _ _ _
    (c.deref.ensures.value ∙ c.requires.begun.text_is)
    (record { bytes = head.ok; later = head.later; same = head.same }) c.in-Err-put_lines.ensures.put.err
