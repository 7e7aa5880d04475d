use Rattle.std.proofs.Common.{◌∙◌, ap}
use Rattle.sim_base.specs.Order.{msg_cmp}
use Rattle.sim_base.specs.Pending.{insert_marked}
use Rattle.clone_sets.specs.Sets.{union}
use Rattle.copy_pending.specs.Merged.{CopyPendingView, merged, messages_of}
use Rattle.copy_pending.proofs.Firsts.{merged-insert}
use Rattle.copy_pending.proofs.pending.CopyPending.insert_packed.Goals as goal

pub returns-clause-ok : goal.returns-clause-ok
returns-clause-ok c =
    let p = c.self.inside in
    ap (λ xs. merged p.set xs p.partial) c.in_ok-insert.ensures.ok
    ∙ merged-insert p.set c.args.msg p.common p.partial
    ∙ ap (λ (v : CopyPendingView). insert_marked union msg_cmp c.args.msg v.set (messages_of v)) c.self.view_is
