use Rattle.std.proofs.Common.{subst, sym}
use Rattle.copy_pending.specs.Merged.{messages_of}
use Rattle.phys_proc.specs.Own.{IsLowerBound}
use Rattle.phys_proc.proofs.CopyBounds.{bound_inserted}
use Rattle.phys_proc.proofs.copies.give.Goals as goal

pub returns-in_ok-insert-clause-lower : goal.returns-in_ok-insert-clause-lower
returns-in_ok-insert-clause-lower c = bound_inserted c.args.lower_bound.now c.min.result c.args.msg c.meet-shared.result
    (messages_of c.copy.inside.pending) (messages_of c.insert.new.self) c.min.ensures c.in_ok-insert.ensures.ok
    (subst (IsLowerBound c.args.lower_bound.now) (sym c.copy.view_is) c.requires.lower)
