use Rattle.std.proofs.Common.{sym, subst, map}
use Rattle.phys_proc.specs.Procs.{ProcView}
use Rattle.phys_proc.specs.Racks.{ShowsClones, view_of_copy}
use Rattle.phys_proc.proofs.proc.Proc.rack.Goals as goal

pub invariant_of-result : goal.invariant_of-result
invariant_of-result c =
    let net = c.args.model.value in
    let cs = c.args.lists.value.clones in
    rw c.in_ok-copies.ensures.seen
    (subst (λ (u : ProcView). ShowsClones net cs u.station c.args.front (map view_of_copy u.copies))
    (sym c.self.view_is) c.requires.right)
