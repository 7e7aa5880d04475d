use Rattle.std.proofs.Common.{arith, sym, ap, ◌∙◌, slice_set, eqb-true}
use Rattle.std.proofs.Math.Seq.{map-set_same}
use Rattle.std.proofs.lemmas.Slice.Zip.{AllZip-long}
use Rattle.clone_sets.specs.Sets.{minus, empty}
use Rattle.phys_proc.specs.Own.{StationCopy, with_message, but_pending, IsLowerBound}
use Rattle.phys_proc.proofs.Delivery.{given_alone, given_first}
use Rattle.phys_proc.proofs.CopyBounds.{bound_at, bounds_set}
use Rattle.phys_proc.proofs.Shares.{disjoint_same}
use Rattle.phys_proc.proofs.copies.deliver_from.Goals as goal

-- ---- the copy at the guess

pub index_mut-requires-2 : goal.index_mut-requires-2
index_mut-requires-2 c = omega (
  arith,
  c.if-guess-len.false,
  c.len.ensures,
  c.args.copies.now.ok.0,
  c.args.bounds.now.ok.0,
  AllZip-long IsLowerBound c.args.bounds.now.items c.args.copies.now.items c.requires.may_deliver.each,
)

pub give-requires : goal.give-requires
give-requires c = record {
  lower = bound_at c.args.bounds.now.items c.args.copies.now.items c.args.guess c.index_mut-2.result.now
      c.index_mut-2.result.now c.index_mut.result.now c.requires.may_deliver.each
      (omega (arith, c.if-guess-len.false, c.len.ensures, c.args.copies.now.ok.0)) c.index_mut-2.ensures.value
      c.index_mut.ensures.value;
}

pub returns-in_err-give-clause-same : goal.returns-in_err-give-clause-same
returns-in_err-give-clause-same c =
    map-set_same but_pending c.args.copies.now.items c.args.guess c.give.new.copy c.index_mut.result.now
    (c.in_err-give.ensures.same ∙ ap but_pending c.index_mut.ensures.value)

pub returns-in_err-give-clause-each : goal.returns-in_err-give-clause-each
returns-in_err-give-clause-each c = bounds_set c.args.bounds.now.items c.args.copies.now.items c.args.guess
    c.give.new.lower_bound c.give.new.copy c.requires.may_deliver.each c.in_err-give.ensures.lower

-- ---- it has all clones of the set

pub returns-then-is_empty-clause-given : goal.returns-then-is_empty-clause-given
returns-then-is_empty-clause-given c =
    given_alone c.args.msg c.args.set c.args.copies.now.items c.args.guess c.index.result.now c.index_mut.result.now
    c.minus-rest.result c.give.new.copy
    (omega (arith, c.if-guess-len.false, c.len.ensures, c.args.copies.now.ok.0))
    c.requires.may_deliver.disjoint
    (c.minus-rest.ensures.value ∙ ap (minus c.args.set) c.set.ensures.value
    ∙ ap (λ (u : StationCopy). minus c.args.set u.set) c.index.ensures)
    (c.in_ok-give.ensures.given ∙ ap (with_message c.args.msg c.args.set) c.index_mut.ensures.value)
    (eqb-true c.minus-rest.result empty (sym c.if-is_empty.ensures.value))

pub returns-then-is_empty-clause-same : goal.returns-then-is_empty-clause-same
returns-then-is_empty-clause-same c =
    map-set_same but_pending c.args.copies.now.items c.args.guess c.give.new.copy c.index_mut.result.now
    (c.in_ok-give.ensures.same ∙ ap but_pending c.index_mut.ensures.value)

pub returns-then-is_empty-clause-each : goal.returns-then-is_empty-clause-each
returns-then-is_empty-clause-each c = bounds_set c.args.bounds.now.items c.args.copies.now.items c.args.guess
    c.give.new.lower_bound c.give.new.copy c.requires.may_deliver.each c.in_ok-give.ensures.lower

-- ---- the other copies

pub deliver_in_order-requires-2 : goal.deliver_in_order-requires-2
deliver_in_order-requires-2 c = record {
  may_deliver = record {
    disjoint = disjoint_same c.args.copies.now.items (slice_set c.args.copies.now.items c.args.guess c.give.new.copy)
        (map-set_same but_pending c.args.copies.now.items c.args.guess c.give.new.copy c.index_mut.result.now
        (c.in_ok-give.ensures.same ∙ ap but_pending c.index_mut.ensures.value)) c.requires.may_deliver.disjoint;
    each = bounds_set c.args.bounds.now.items c.args.copies.now.items c.args.guess c.give.new.lower_bound
        c.give.new.copy c.requires.may_deliver.each c.in_ok-give.ensures.lower;
  };
}

pub returns-in_err-place-clause-same : goal.returns-in_err-place-clause-same
returns-in_err-place-clause-same c = c.in_err-place.ensures.same
    ∙ map-set_same but_pending c.args.copies.now.items c.args.guess c.give.new.copy c.index_mut.result.now
    (c.in_ok-give.ensures.same ∙ ap but_pending c.index_mut.ensures.value)

pub returns-clause-given : goal.returns-clause-given
returns-clause-given c = c.in_ok-place.ensures.given
    ∙ given_first c.args.msg c.args.set c.args.copies.now.items c.args.guess c.index.result.now c.index_mut.result.now
    c.minus-rest.result c.give.new.copy
    (omega (arith, c.if-guess-len.false, c.len.ensures, c.args.copies.now.ok.0))
    c.requires.may_deliver.disjoint
    (c.minus-rest.ensures.value ∙ ap (minus c.args.set) c.set.ensures.value
    ∙ ap (λ (u : StationCopy). minus c.args.set u.set) c.index.ensures)
    (c.in_ok-give.ensures.given ∙ ap (with_message c.args.msg c.args.set) c.index_mut.ensures.value)

pub returns-clause-same : goal.returns-clause-same
returns-clause-same c = c.in_ok-place.ensures.same
    ∙ map-set_same but_pending c.args.copies.now.items c.args.guess c.give.new.copy c.index_mut.result.now
    (c.in_ok-give.ensures.same ∙ ap but_pending c.index_mut.ensures.value)
