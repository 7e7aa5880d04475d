use Rattle.std.proofs.Common.{◌≡◌, ◌/◌, subst, arith}
use Rattle.trace_writer.specs.FixedTrees.{IsFixedMending}
use Rattle.trace_writer.proofs.tree.rise_four.Goals as goal

pub returns : goal.returns
returns c =
    let four : c.args.node / 8 / 2 ≡ c.args.node / 16 = omega arith in
    record {
      rises = λ count words m.
          let third = c.rise_three-least.ensures.rises count words m in
          subst (λ n. IsFixedMending c.step.new.nodes count n c.step.result words) four
          (c.step.ensures.rises count words third);
    }
