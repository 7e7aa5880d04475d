use Rattle.std.proofs.Common.{◌-◌, [], ◌<◌, refl, sym, ◌∙◌, subst, arith}
use Rattle.std.proofs.lemmas.List.{get_or_read}
use Rattle.sim_base.specs.Marked.{SortedMarked}
use Rattle.sim_base.specs.Order.{msg_cmp}
use Rattle.sim_base.specs.Blocks.{block_at}
use Rattle.sim_base.proofs.OrderLaws.{msg_total}
use Rattle.sim_base.proofs.Putting.{sorted_at, is_put, set_later, later_at}
use Rattle.sim_base.proofs.pending.blocks.put.Goals as goal

-- ---- the block that gets the message is in order

pub insert-requires : goal.insert-requires
insert-requires g c = record {
  sorted =
      subst (λ i. SortedMarked msg_cmp (block_at c.args.first.now c.args.later.now.items i)) c.if-at-eq0.true
      (sorted_at msg_cmp c.args.at c.args.first.now c.args.later.now.items c.requires.blocks);
}

pub insert-requires-else-at-eq0 : goal.insert-requires-else-at-eq0
insert-requires-else-at-eq0 g c =
    let read = get_or_read c.args.later.now.items (c.args.at - 1) c.index_mut.result.now
    (omega (arith, c.requires.place.within)) c.index_mut.ensures.value [] in
    let is = read ∙ later_at c.args.at c.args.first.now c.args.later.now.items (omega arith) in
    record {
      sorted = subst (SortedMarked msg_cmp) (sym is)
          (sorted_at msg_cmp c.args.at c.args.first.now c.args.later.now.items c.requires.blocks);
    }

-- ---- the first block gets it

pub returns-then-at-eq0-clause-blocks : goal.returns-then-at-eq0-clause-blocks
returns-then-at-eq0-clause-blocks g c =
    let put = is_put msg_total g.S.Marks.union c.args.msg c.args.marks c.args.at c.args.first.now
    c.args.later.now.items c.requires.blocks c.requires.place c.requires.free c.insert.result c.insert.new.self
    c.insert.new.self c.args.later.now.items
    (rw c.if-at-eq0.true refl) (rw c.if-at-eq0.true c.insert.ensures.ok) (rw c.if-at-eq0.true c.insert.ensures.err) in
    put.blocks

pub returns-then-at-eq0-clause-ok : goal.returns-then-at-eq0-clause-ok
returns-then-at-eq0-clause-ok g c =
    let put = is_put msg_total g.S.Marks.union c.args.msg c.args.marks c.args.at c.args.first.now
    c.args.later.now.items c.requires.blocks c.requires.place c.requires.free c.insert.result c.insert.new.self
    c.insert.new.self c.args.later.now.items
    (rw c.if-at-eq0.true refl) (rw c.if-at-eq0.true c.insert.ensures.ok) (rw c.if-at-eq0.true c.insert.ensures.err) in
    put.ok

pub returns-then-at-eq0-clause-err : goal.returns-then-at-eq0-clause-err
returns-then-at-eq0-clause-err g c =
    let put = is_put msg_total g.S.Marks.union c.args.msg c.args.marks c.args.at c.args.first.now
    c.args.later.now.items c.requires.blocks c.requires.place c.requires.free c.insert.result c.insert.new.self
    c.insert.new.self c.args.later.now.items
    (rw c.if-at-eq0.true refl) (rw c.if-at-eq0.true c.insert.ensures.ok) (rw c.if-at-eq0.true c.insert.ensures.err) in
    put.err

-- ---- a later block gets it

pub returns-else-at-eq0-clause-blocks : goal.returns-else-at-eq0-clause-blocks
returns-else-at-eq0-clause-blocks g c =
    let some : 0 < c.args.at = omega arith in
    let read = get_or_read c.args.later.now.items (c.args.at - 1) c.index_mut.result.now
    (omega (arith, c.requires.place.within)) c.index_mut.ensures.value [] in
    let is = read ∙ later_at c.args.at c.args.first.now c.args.later.now.items some in
    let put = is_put msg_total g.S.Marks.union c.args.msg c.args.marks c.args.at c.args.first.now
    c.args.later.now.items c.requires.blocks c.requires.place c.requires.free c.insert-else-at-eq0.result
    c.insert-else-at-eq0.new.self c.args.first.now _
    (set_later c.args.at c.args.first.now c.args.later.now.items c.insert-else-at-eq0.new.self some)
    (rw (← is) c.insert-else-at-eq0.ensures.ok) (rw (← is) c.insert-else-at-eq0.ensures.err) in
    put.blocks

pub returns-else-at-eq0-clause-ok : goal.returns-else-at-eq0-clause-ok
returns-else-at-eq0-clause-ok g c =
    let some : 0 < c.args.at = omega arith in
    let read = get_or_read c.args.later.now.items (c.args.at - 1) c.index_mut.result.now
    (omega (arith, c.requires.place.within)) c.index_mut.ensures.value [] in
    let is = read ∙ later_at c.args.at c.args.first.now c.args.later.now.items some in
    let put = is_put msg_total g.S.Marks.union c.args.msg c.args.marks c.args.at c.args.first.now
    c.args.later.now.items c.requires.blocks c.requires.place c.requires.free c.insert-else-at-eq0.result
    c.insert-else-at-eq0.new.self c.args.first.now _
    (set_later c.args.at c.args.first.now c.args.later.now.items c.insert-else-at-eq0.new.self some)
    (rw (← is) c.insert-else-at-eq0.ensures.ok) (rw (← is) c.insert-else-at-eq0.ensures.err) in
    put.ok

pub returns-else-at-eq0-clause-err : goal.returns-else-at-eq0-clause-err
returns-else-at-eq0-clause-err g c =
    let some : 0 < c.args.at = omega arith in
    let read = get_or_read c.args.later.now.items (c.args.at - 1) c.index_mut.result.now
    (omega (arith, c.requires.place.within)) c.index_mut.ensures.value [] in
    let is = read ∙ later_at c.args.at c.args.first.now c.args.later.now.items some in
    let put = is_put msg_total g.S.Marks.union c.args.msg c.args.marks c.args.at c.args.first.now
    c.args.later.now.items c.requires.blocks c.requires.place c.requires.free c.insert-else-at-eq0.result
    c.insert-else-at-eq0.new.self c.args.first.now _
    (set_later c.args.at c.args.first.now c.args.later.now.items c.insert-else-at-eq0.new.self some)
    (rw (← is) c.insert-else-at-eq0.ensures.ok) (rw (← is) c.insert-else-at-eq0.ensures.err) in
    put.err
