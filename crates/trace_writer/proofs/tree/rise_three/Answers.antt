use Rattle.std.proofs.Common.{◌≡◌, ◌/◌, subst, arith}
use Rattle.trace_writer.specs.FixedTrees.{IsFixedMending}
use Rattle.trace_writer.proofs.tree.rise_three.Goals as goal

pub returns : goal.returns
returns c =
    let node = c.args.node in
    let two : c.args.node / 2 / 2 ≡ c.args.node / 4 = omega arith in
    let three : c.args.node / 4 / 2 ≡ c.args.node / 8 = omega arith in
    record {
      rises = λ count words m.
          let first = c.step-least.ensures.rises count words m in
          let second = c.step-least-2.ensures.rises count words first in
          let third = c.step.ensures.rises count words
          (subst (λ n. IsFixedMending c.step-least-2.new.nodes count n c.step-least-2.result words) two second) in
          subst (λ n. IsFixedMending c.step.new.nodes count n c.step.result words) three third;
    }
