use Rattle.std.proofs.Common.{◌≡◌, ◌<◌, ◌++◌, ap, sym, ◌∙◌, subst, arith, length, set, ◌≤◌, drop, map}
use Rattle.std.proofs.lemmas.List.{append-nil, take_all, drop_all, length-map}
use Rattle.std.proofs.lemmas.List.Edits.{map_over_more}
use Rattle.sim_base.specs.Pending.{spread_marks}
use Rattle.sim_base.specs.Blocks.{of_blocks, AreFilled}
use Rattle.sim_base.proofs.Blocks.{of_blocks-spread, AreFilled-spread}
use Rattle.sim_base.proofs.pending.blocks.spread_later.Goals as goal

pub loop-i-preserved : goal.loop-i-preserved
loop-i-preserved g c =
    let l : c.loop-i.i < length c.args.later.now.items = omega arith in
    ap (set c.loop-i.later.items c.loop-i.i) c.spread.ensures.value
    ∙ map_over_more (spread_marks g.S.Marks.union g.S.Marks.common c.args.by c.args.more) c.args.later.now.items
    c.loop-i.later.items c.loop-i.i c.index_mut.result.now l c.loop-i.invariant c.index_mut.ensures.value

pub returns : goal.returns
returns g c =
    let spread = spread_marks g.S.Marks.union g.S.Marks.common c.args.by c.args.more in
    let old = c.args.later.now.items in
    let past : length old ≤ c.loop-i.i = omega arith in
    let all : c.loop-i.later.items ≡ map spread old =
    c.loop-i.invariant ∙ ap (λ xs. map spread xs ++ drop c.loop-i.i old) (take_all c.loop-i.i old past)
    ∙ ap (λ xs. map spread old ++ xs) (drop_all c.loop-i.i old past) ∙ append-nil (map spread old)
    in
    record {
      value = ap of_blocks all ∙ of_blocks-spread g.S.Marks.union g.S.Marks.common c.args.by c.args.more old;
      filled = subst AreFilled (sym all)
          (AreFilled-spread g.S.Marks.union g.S.Marks.common c.args.by c.args.more old c.requires.filled);
      count = ap length all ∙ length-map old spread;
    }
