use Rattle.std.proofs.Common.{◌∙◌, ap, ◌<◌, slice_set, length, refl, arith}
use Rattle.trace_writer.specs.FixedTrees.{words_in}
use Rattle.trace_writer.proofs.Fixing.{begins, ends, small_count, words_count}
use Rattle.trace_writer.proofs.tree.Tree.set.Goals as goal

pub overflow_add-node : goal.overflow_add-node
overflow_add-node g c =
    let small = small_count g.row.COUNT c.self.invariant.fixed in
    let count = words_count c.self.inside.nodes g.row.COUNT c.self.invariant in
    omega (arith, small, c.requires.in_range, ap length c.self.view_is, count)

pub invariant_of-self : goal.invariant_of-self
invariant_of-self g c =
    let nodes = c.self.inside.nodes in
    let count = words_count nodes g.row.COUNT c.self.invariant in
    let within : c.args.i < g.row.COUNT = omega (arith, c.requires.in_range, ap length c.self.view_is, count) in
    let words = slice_set (words_in nodes g.row.COUNT) c.args.i c.args.word in
    let first = begins nodes g.row.COUNT c.args.i c.args.word _ c.self.invariant c.self.told within refl in
    ends c.rise.new.nodes g.row.COUNT c.rise.result words c.self.invariant.fixed (c.rise.ensures.rises words first)

pub returns : goal.returns
returns g c =
    let nodes = c.self.inside.nodes in
    let count = words_count nodes g.row.COUNT c.self.invariant in
    let within : c.args.i < g.row.COUNT = omega (arith, c.requires.in_range, ap length c.self.view_is, count) in
    let words = slice_set (words_in nodes g.row.COUNT) c.args.i c.args.word in
    let first = begins nodes g.row.COUNT c.args.i c.args.word _ c.self.invariant c.self.told within refl in
    let last = c.rise.ensures.rises words first in
    record { value = last.tree.below ∙ ap (λ ws. slice_set ws c.args.i c.args.word) c.self.view_is }
