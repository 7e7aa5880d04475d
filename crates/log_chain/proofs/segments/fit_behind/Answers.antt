use Rattle.std.proofs.Common.{◌-◌, ap, length, arith}
use Rattle.log_chain.proofs.Chains.{entries_in-drop_few, entries_in-next_few}
use Rattle.log_chain.proofs.segments.fit_behind.Goals as goal

pub overflow_mul-size : goal.overflow_mul-size
overflow_mul-size c = omega (arith, entries_in-drop_few c.args.segments.now c.loop-before.before)

pub overflow_add-size : goal.overflow_add-size
overflow_add-size c =
    let before = c.loop-before.before in
    let segment = c.index-segments-before-in-loop-before.result in
    let more = entries_in-next_few c.args.segments.now (before - 1) before segment
    (omega arith) c.index-segments-before-in-loop-before.is (omega arith) in
    omega (arith, more, ap length c.deref-in-loop-before.ensures)
