use Rattle.std.proofs.Common.{◌∙◌, ap}
use Rattle.sim_base.specs.Order.{msg_cmp}
use Rattle.sim_base.specs.Pending.{insert_marked}
use Rattle.clone_sets.specs.Sets.{union}
use Rattle.copy_pending.specs.Merged.{CopyPendingView, merged, messages_of}
use Rattle.copy_pending.proofs.Firsts.{merged-put}
use Rattle.copy_pending.proofs.pending.CopyPending.insert.Goals as goal

pub returns-in_ok-insert-clause-ok : goal.returns-in_ok-insert-clause-ok
returns-in_ok-insert-clause-ok c =
    let p = c.self.inside in
    ap (merged p.set p.common) c.in_ok-insert.ensures.ok
    ∙ merged-put p.set c.args.msg c.args.marks p.common p.partial
    ∙ ap (λ (v : CopyPendingView). insert_marked union msg_cmp c.args.msg c.args.marks (messages_of v)) c.self.view_is
