use Rattle.std.proofs.Common.{◌≡◌, ap, sym, ◌∙◌, subst, true, false}
use Rattle.std.specs.Prelude.{slice_get}
use Rattle.sim_base.specs.Pending.{insert_marked}
use Rattle.sim_base.specs.Marked.{SortedMarked}
use Rattle.sim_base.specs.Order.{msg_cmp}
use Rattle.sim_base.specs.Blocks.{IsPlaceOf, is_there}
use Rattle.sim_base.proofs.OrderLaws.{msg_total}
use Rattle.sim_base.proofs.Placing.{new_at, joined_at}
use Rattle.sim_base.proofs.pending.block.Block.insert.Goals as goal

pub returns-then-has_at-clause-ok : goal.returns-then-has_at-clause-ok
returns-then-has_at-clause-ok g c =
    let sorted = subst (λ xs. SortedMarked msg_cmp xs) (sym c.self.view_is) c.requires.sorted in
    let place = subst (λ xs. IsPlaceOf msg_cmp c.args.msg xs c.place-place.result)
    (sym c.self.view_is) c.place-place.ensures.value in
    let there = subst (λ xs. is_there msg_cmp c.args.msg (slice_get xs c.place-place.result) ≡ true)
    (sym c.self.view_is) (sym c.if-has_at.ensures.value) in
    rw c.join-item.ensures
    (sym (joined_at msg_total g.S.Marks.union c.args.msg c.args.marks c.self.inside.items.items c.place-place.result
    c.index_mut-item.result.now sorted place there c.index_mut-item.ensures.value)
    ∙ ap (insert_marked g.S.Marks.union msg_cmp c.args.msg c.args.marks) c.self.view_is)

pub returns-then-place-eq0-clause-ok : goal.returns-then-place-eq0-clause-ok
returns-then-place-eq0-clause-ok g c =
    let sorted = subst (λ xs. SortedMarked msg_cmp xs) (sym c.self.view_is) c.requires.sorted in
    let place = subst (λ xs. IsPlaceOf msg_cmp c.args.msg xs c.place-place.result)
    (sym c.self.view_is) c.place-place.ensures.value in
    let there = subst (λ xs. is_there msg_cmp c.args.msg (slice_get xs c.place-place.result) ≡ false)
    (sym c.self.view_is) (sym c.if-has_at.ensures.value) in
    c.in_ok-insert.ensures.items ∙ sym
    (new_at msg_total g.S.Marks.union c.args.msg c.args.marks c.self.inside.items.items c.place-place.result
    sorted place there) ∙ ap (insert_marked g.S.Marks.union msg_cmp c.args.msg c.args.marks) c.self.view_is

pub returns-else-place-eq0-clause-ok : goal.returns-else-place-eq0-clause-ok
returns-else-place-eq0-clause-ok g c =
    let sorted = subst (λ xs. SortedMarked msg_cmp xs) (sym c.self.view_is) c.requires.sorted in
    let place = subst (λ xs. IsPlaceOf msg_cmp c.args.msg xs c.place-place.result)
    (sym c.self.view_is) c.place-place.ensures.value in
    let there = subst (λ xs. is_there msg_cmp c.args.msg (slice_get xs c.place-place.result) ≡ false)
    (sym c.self.view_is) (sym c.if-has_at.ensures.value) in
    c.in_ok-insert.ensures.items ∙ sym
    (new_at msg_total g.S.Marks.union c.args.msg c.args.marks c.self.inside.items.items c.place-place.result
    sorted place there) ∙ ap (insert_marked g.S.Marks.union msg_cmp c.args.msg c.args.marks) c.self.view_is
