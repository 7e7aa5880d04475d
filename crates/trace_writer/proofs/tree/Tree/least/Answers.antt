use Rattle.std.proofs.Common.{◌*◌, get_or, take, subst, arith}
use Rattle.std.proofs.lemmas.List.{get_or-take}
use Rattle.trace_writer.specs.Tournament.{IsLeastWord}
use Rattle.trace_writer.proofs.Nodes.{least_word}
use Rattle.trace_writer.proofs.tree.Tree.least.Goals as goal

pub returns : goal.returns
returns g c =
    let nodes = c.self.inside.nodes in
    let tree = c.self.invariant.tree in
    let top = get_or-take (2 * g.row.COUNT) nodes 1 0 (omega (arith, tree.at_least)) in
    record {
      value = subst (IsLeastWord (get_or nodes 1 0)) c.self.view_is
          (least_word (take (2 * g.row.COUNT) nodes) g.row.COUNT tree (get_or nodes 1 0) top);
    }
