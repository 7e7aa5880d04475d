use Rattle.std.proofs.Common.{◌∷◌, ◌++◌, ◌+◌, [], ◌<◌, ap, sym, ◌∙◌, subst, arith, length}
use Rattle.sim_base.proofs.Rotating.{HasRotated, HasRotated-filled, HasRotated-empty, filled_if, empty_if}
use Rattle.sim_base.proofs.pending.blocks.keep_later.Goals as goal

pub loop-preserved-then-is_empty : goal.loop-preserved-then-is_empty
loop-preserved-then-is_empty g c =
    let l : c.loop.counter < length c.args.later.now.items = omega arith in
    let none = empty_if c.keep.new.self c.if-is_empty.ensures.value in
    HasRotated-empty g.S.Marks.common c.args.by c.args.later.now.items c.loop.later.items c.pop_front.new.self.items
    c.loop.counter c.in-Some.block l c.loop.invariant c.in-Some.ensures.items
    (ap length (sym c.keep.ensures.value ∙ none))

pub loop-preserved : goal.loop-preserved
loop-preserved g c =
    let l : c.loop.counter < length c.args.later.now.items = omega arith in
    let some : 0 < length c.keep.new.self = filled_if c.keep.new.self c.if-is_empty.ensures.value in
    let kept = HasRotated-filled g.S.Marks.common c.args.by c.args.later.now.items c.loop.later.items
    c.pop_front.new.self.items c.loop.counter c.in-Some.block l c.loop.invariant c.in-Some.ensures.items
    c.requires.filled
    (subst (λ b. 0 < length b) c.keep.ensures.value some) in
    subst (λ bs. HasRotated g.S.Marks.common c.args.by c.args.later.now.items bs (c.loop.counter + 1))
    (sym (c.in-Ok.ensures.items ∙ ap (λ b. c.pop_front.new.self.items ++ b ∷ []) c.keep.ensures.value)) kept
