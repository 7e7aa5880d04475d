use Rattle.std.proofs.Common.{arith, sym, ap, ap₂, ◌∙◌, get_or, slice_set, length, eqb-true}
use Rattle.std.proofs.Math.Seq.{map-set_same}
use Rattle.std.proofs.lemmas.Bool.{false≢true}
use Rattle.std.proofs.lemmas.Slice.Zip.{AllZip-long}
use Rattle.clone_sets.specs.Sets.{minus, empty}
use Rattle.phys_proc.specs.Own.{StationCopy, with_message, but_pending, IsLowerBound}
use Rattle.phys_proc.proofs.Delivery.{map_first-suc, map_first-length, length-map_first, rest_more, given_to_all}
use Rattle.phys_proc.proofs.CopyBounds.{bound_at, bounds_set}
use Rattle.phys_proc.proofs.copies.deliver_in_order.Goals as goal

-- ---- the loop

pub index_mut-requires-in-loop-i : goal.index_mut-requires-in-loop-i
index_mut-requires-in-loop-i c = omega (
  arith,
  c.loop-i-test.true,
  c.loop-i.auto.i-end,
  c.len-i-end.ensures,
  c.args.copies.now.ok.0,
  c.loop-i.bounds.ok.0,
  ap length c.loop-i.invariant.given,
  length-map_first (with_message c.args.msg c.args.set) c.loop-i.i c.args.copies.now.items,
  AllZip-long IsLowerBound c.loop-i.bounds.items c.loop-i.copies.items c.loop-i.invariant.each,
)

pub give-requires : goal.give-requires
give-requires c = record {
  lower = bound_at c.loop-i.bounds.items c.loop-i.copies.items c.loop-i.i c.index_mut-in-loop-i.result.now
      c.index_mut-in-loop-i.result.now c.index_mut.result.now c.loop-i.invariant.each (omega (
        arith,
        c.loop-i-test.true,
        c.loop-i.auto.i-end,
        c.len-i-end.ensures,
        c.args.copies.now.ok.0,
        ap length c.loop-i.invariant.given,
        length-map_first (with_message c.args.msg c.args.set) c.loop-i.i c.args.copies.now.items,
      )) c.index_mut-in-loop-i.ensures.value c.index_mut.ensures.value;
}

pub loop-i-preserved : goal.loop-i-preserved
loop-i-preserved c =
    let f = with_message c.args.msg c.args.set in
    let d = c.index_mut.result.now in
    let h = c.loop-i.invariant.given in
    record {
      given = ap₂ (λ l y. slice_set l c.loop-i.i y) h
          (c.in_ok-give.ensures.given ∙ ap f (c.index_mut.ensures.value ∙ ap (λ l. get_or l c.loop-i.i d) h))
          ∙ map_first-suc f c.loop-i.i c.args.copies.now.items d
          (omega (arith, c.loop-i-test.true, c.loop-i.auto.i-end, c.len-i-end.ensures, c.args.copies.now.ok.0));
      same = map-set_same but_pending c.loop-i.copies.items c.loop-i.i c.give.new.copy d
          (c.in_ok-give.ensures.same ∙ ap but_pending c.index_mut.ensures.value) ∙ c.loop-i.invariant.same;
      each = bounds_set c.loop-i.bounds.items c.loop-i.copies.items c.loop-i.i c.give.new.lower_bound c.give.new.copy
          c.loop-i.invariant.each c.in_ok-give.ensures.lower;
      rest = c.minus-rest.ensures.value ∙ ap₂ minus c.loop-i.invariant.rest (c.set.ensures.value
          ∙ ap (λ (u : StationCopy). u.set) (c.index.ensures ∙ ap (λ l. get_or l c.loop-i.i c.index.result.now) h))
          ∙ rest_more f c.args.set c.args.copies.now.items c.loop-i.i c.index.result.now
          (omega (arith, c.loop-i-test.true, c.loop-i.auto.i-end, c.len-i-end.ensures, c.args.copies.now.ok.0));
    }

-- ---- out of memory

pub returns-in_err-give-clause-same : goal.returns-in_err-give-clause-same
returns-in_err-give-clause-same c =
    map-set_same but_pending c.loop-i.copies.items c.loop-i.i c.give.new.copy c.index_mut.result.now
    (c.in_err-give.ensures.same ∙ ap but_pending c.index_mut.ensures.value) ∙ c.loop-i.invariant.same

pub returns-in_err-give-clause-each : goal.returns-in_err-give-clause-each
returns-in_err-give-clause-each c = bounds_set c.loop-i.bounds.items c.loop-i.copies.items c.loop-i.i
    c.give.new.lower_bound c.give.new.copy c.loop-i.invariant.each c.in_err-give.ensures.lower

-- ---- the result

pub returns-then-is_empty-clause-given : goal.returns-then-is_empty-clause-given
returns-then-is_empty-clause-given c = c.loop-i.invariant.given
    ∙ given_to_all c.args.msg c.args.set c.args.set c.args.copies.now.items c.loop-i.i c.requires.may_deliver.disjoint
    (sym c.loop-i.invariant.rest ∙ eqb-true c.loop-i.rest empty (sym c.if-is_empty.ensures.value))
    (λ n y o. absurd (false≢true (sym o ∙ y)))

pub returns-clause-given : goal.returns-clause-given
returns-clause-given c = c.loop-i.invariant.given
    ∙ map_first-length (with_message c.args.msg c.args.set) c.loop-i.i c.args.copies.now.items
    (omega (arith, c.loop-i-test.false, c.loop-i.auto.i-end, c.len-i-end.ensures, c.args.copies.now.ok.0))
