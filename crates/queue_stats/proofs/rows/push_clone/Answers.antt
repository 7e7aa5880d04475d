use Rattle.std.proofs.Common.{◌≡◌, ◌≤◌, length, arith, ap, ◌∙◌}
use Rattle.queue_stats.specs.Rows.{rows_before}
use Rattle.queue_stats.proofs.Gathering.{rows_before-all}
use Rattle.queue_stats.proofs.rows.push_clone.Goals as goal

pub returns : goal.returns
returns c =
    let high : length c.args.model.now.sites ≤ c.loop-s.s =
    omega (arith, c.loop-s-test.false, c.loop-s.auto.s-end, c.len-s-end.ensures.value) in
    let all : c.loop-s.s ≡ length c.args.model.now.sites = omega (arith, high, c.loop-s.invariant.within) in
    record {
      value = c.loop-s.invariant.so_far
          ∙ ap (λ n. rows_before c.args.model.now c.args.world.now.clones c.args.clone n) all
          ∙ rows_before-all c.args.model.now c.args.world.now.clones c.args.clone c.requires.in_range;
    }
