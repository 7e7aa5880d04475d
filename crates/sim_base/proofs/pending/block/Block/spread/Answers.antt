use Rattle.std.proofs.Common.{◌<◌, ap, sym, ◌∙◌, subst, arith, length, set, if◌then◌else◌}
use Rattle.std.specs.Prelude.{is_some}
use Rattle.std.proofs.lemmas.List.Edits.{map_over_more}
use Rattle.sim_base.specs.Blocks.{StartsAt}
use Rattle.sim_base.proofs.Rotating.{spread-Some, spread-None, StartsAt-set}
use Rattle.sim_base.proofs.pending.block.Block.spread.Goals as goal
use Rattle.sim_base.proofs.pending.block.Block.spread.Goals.{then-is_some, else-is_some}

pub loop-i-preserved : goal.loop-i-preserved
loop-i-preserved g c =
    let meet = g.S.Marks.common in
    let join = g.S.Marks.union in
    let old = c.loop-i.self-inside.items.items in
    let item = c.index_mut-item.result.now in
    let l : c.loop-i.i < length c.args.self.now = omega (arith, ap length c.self.view_is) in
    let step = map_over_more (λ x. (x.0, if is_some (meet x.1 c.args.by) then join x.1 c.args.more else x.1))
    c.args.self.now old c.loop-i.i item l c.loop-i.invariant.items c.index_mut-item.ensures.value in
    record {
      items =
          elim c.if-is_some.branch [
            | then-is_some w ↦
                ap (λ b. b.items.items) w.self-inside-is
                ∙ ap (set old c.loop-i.i)
                (spread-Some join meet c.args.by c.args.more item w.join-item.result c.meet.result
                c.meet.ensures (sym c.is_some.ensures ∙ w.if-is_some.true) w.join-item.ensures)
                ∙ step
            | else-is_some w ↦
                ap (λ b. b.items.items) w.self-inside-is
                ∙ ap (set old c.loop-i.i)
                (spread-None join meet c.args.by c.args.more item c.meet.result c.meet.ensures
                (sym c.is_some.ensures ∙ w.if-is_some.false))
                ∙ step
          ];
      time =
          elim c.if-is_some.branch [
            | then-is_some w ↦
                subst (λ b. StartsAt b.time b.items.items) (sym w.self-inside-is)
                (StartsAt-set c.loop-i.self-inside.time old c.loop-i.i item w.join-item.result
                c.index_mut-item.ensures.value c.loop-i.invariant.time)
            | else-is_some w ↦
                subst (λ b. StartsAt b.time b.items.items) (sym w.self-inside-is)
                (StartsAt-set c.loop-i.self-inside.time old c.loop-i.i item item.1
                c.index_mut-item.ensures.value c.loop-i.invariant.time)
          ];
    }
