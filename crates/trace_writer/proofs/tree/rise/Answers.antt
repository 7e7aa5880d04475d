use Rattle.std.proofs.Common.{◌≡◌, ◌/◌, subst, arith}
use Rattle.trace_writer.specs.FixedTrees.{IsFixedMending}
use Rattle.trace_writer.proofs.Fixing.{count_left}
use Rattle.trace_writer.proofs.tree.rise.Goals as goal

pub returns-then-this-eq8 : goal.returns-then-this-eq8
returns-then-this-eq8 g c =
    let top : c.args.node / 8 ≡ 1 = omega arith in
    record {
      rises = λ words m.
          subst (λ n. IsFixedMending c.rise_three.new.nodes g.row.COUNT n c.rise_three.result words) top
          (c.rise_three.ensures.rises g.row.COUNT words m);
    }

pub returns-then-this-eq16 : goal.returns-then-this-eq16
returns-then-this-eq16 g c =
    let top : c.args.node / 16 ≡ 1 = omega arith in
    record {
      rises = λ words m.
          subst (λ n. IsFixedMending c.rise_four.new.nodes g.row.COUNT n c.rise_four.result words) top
          (c.rise_four.ensures.rises g.row.COUNT words m);
    }

pub returns-else-this-eq16 : goal.returns-else-this-eq16
returns-else-this-eq16 g c =
    let left = count_left g.row.COUNT c.requires.fixed c.if-this-eq8.false c.if-this-eq16.false in
    let top : c.args.node / 64 ≡ 1 = omega (arith, left) in
    record {
      rises = λ words m.
          subst (λ n. IsFixedMending c.rise_six.new.nodes g.row.COUNT n c.rise_six.result words) top
          (c.rise_six.ensures.rises g.row.COUNT words m);
    }

pub rise_six-requires-clause-above : goal.rise_six-requires-clause-above
rise_six-requires-clause-above g c =
    omega (arith, count_left g.row.COUNT c.requires.fixed c.if-this-eq8.false c.if-this-eq16.false)
