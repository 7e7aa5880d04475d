use Rattle.std.specs.List.{AllZip}
use Rattle.std.proofs.Common.{subst, sym}
use Rattle.phys_proc.specs.Own.{IsLowerBound}
use Rattle.phys_proc.proofs.CopyBounds.{bounds_forked}
use Rattle.phys_proc.proofs.copies.Copies.fork.Goals as goal

pub invariant_of-self : goal.invariant_of-self
invariant_of-self c =
    let i = c.self.inside in
    subst (AllZip IsLowerBound i.bounds.items) (sym c.fork.ensures.forked)
    (bounds_forked c.args.old c.args.new i.bounds.items i.copies.items c.self.invariant)
