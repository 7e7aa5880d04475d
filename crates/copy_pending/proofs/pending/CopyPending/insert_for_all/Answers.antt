use Rattle.std.proofs.Common.{◌∙◌, ap}
use Rattle.run_laws.specs.Queue.{insert}
use Rattle.sim_base.specs.Order.{msg_cmp}
use Rattle.sim_base.specs.Pending.{insert_marked}
use Rattle.clone_sets.specs.Sets.{union}
use Rattle.copy_pending.specs.Merged.{CopyPendingView, merged, messages_of}
use Rattle.copy_pending.proofs.Firsts.{merged-put, merged-insert}
use Rattle.copy_pending.proofs.pending.CopyPending.insert_for_all.Goals as goal

pub returns-in_ok-insert-in-Some-clause-ok : goal.returns-in_ok-insert-in-Some-clause-ok
returns-in_ok-insert-in-Some-clause-ok c =
    let p = c.self.inside in
    ap (λ xs. merged p.set xs p.partial)
    (c.in_ok-insert-in-Some.ensures.ok ∙ ap (λ m. insert msg_cmp m p.common) c.in-Some.ensures.value)
    ∙ merged-insert p.set c.args.msg p.common p.partial
    ∙ ap (λ (v : CopyPendingView). insert_marked union msg_cmp c.args.msg v.set (messages_of v)) c.self.view_is

pub returns-in_ok-insert-in-None-clause-ok : goal.returns-in_ok-insert-in-None-clause-ok
returns-in_ok-insert-in-None-clause-ok c =
    let p = c.self.inside in
    ap (merged p.set p.common) c.in_ok-insert-in-None.ensures.ok
    ∙ merged-put p.set c.args.msg p.set p.common p.partial
    ∙ ap (λ (v : CopyPendingView). insert_marked union msg_cmp c.args.msg v.set (messages_of v)) c.self.view_is
