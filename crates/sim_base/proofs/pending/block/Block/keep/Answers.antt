use Rattle.std.proofs.Common.{◌≡◌, ◌<◌, ◌∷◌, ap, sym, ◌∙◌, arith, length}
use Rattle.sim_base.proofs.Rotating.{rotated-Some, rotated-None}
use Rattle.sim_base.proofs.pending.block.Block.keep.Goals as goal
use Rattle.sim_base.proofs.pending.block.Block.keep.Goals.{in-Some-meet+in-Ok, in_default-meet}

pub loop-preserved : goal.loop-preserved
loop-preserved g c =
    let l : c.loop.counter < length c.args.self.now = omega (arith, ap length c.self.view_is) in
    let leaves : c.loop.self-inside.items.items ≡ c.in-Some.item ∷ c.pop_front.new.self.items =
    c.in-Some.ensures.items in
    elim c.match-meet.branch [
      | in-Some-meet+in-Ok w ↦
          ap (λ b. b.items.items) w.self-inside-is
          ∙ (w.in-Ok.ensures.items ∙ rotated-Some g.S.Marks.common c.args.by c.args.self.now
          c.loop.self-inside.items.items _ c.loop.counter c.in-Some.item l c.loop.invariant leaves
          w.in-Some-meet.shared (sym w.in-Some-meet.ensures))
      | in_default-meet w ↦
          ap (λ b. b.items.items) w.self-inside-is
          ∙ (rotated-None g.S.Marks.common c.args.by c.args.self.now c.loop.self-inside.items.items _ c.loop.counter
          c.in-Some.item l c.loop.invariant leaves (sym w.in_default-meet.ensures))
    ]
