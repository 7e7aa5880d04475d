use Rattle.std.proofs.Common.{◌≡◌, ◌/◌, subst, arith}
use Rattle.trace_writer.specs.FixedTrees.{IsFixedMending}
use Rattle.trace_writer.proofs.tree.rise_six.Goals as goal

pub returns : goal.returns
returns c =
    let six : c.args.node / 8 / 8 ≡ c.args.node / 64 = omega arith in
    record {
      rises = λ count words m.
          let third = c.rise_three-least.ensures.rises count words m in
          subst (λ n. IsFixedMending c.rise_three.new.nodes count n c.rise_three.result words) six
          (c.rise_three.ensures.rises count words third);
    }
