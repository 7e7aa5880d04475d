use Rattle.std.proofs.Common.{◌∙◌, ap}
use Rattle.sim_base.specs.Order.{msg_cmp}
use Rattle.run_laws.specs.Queue.{insert}
use Rattle.run_laws.proofs.MessageOrder.{messages_ordered}
use Rattle.run_laws.proofs.Queue.{insert_swap}
use Rattle.solo_run.specs.EventLists.{messages_of}
use Rattle.solo_run.proofs.Firsts.{merged, merged-wide}
use Rattle.solo_run.proofs.event_list.EventList.insert.Goals as goal

pub returns-in_ok-insert-in-Some-clause-ok : goal.returns-in_ok-insert-in-Some-clause-ok
returns-in_ok-insert-in-Some-clause-ok c =
    let heap = c.args.self.now.heap in
    let wide = c.args.self.now.wide in
    ap (λ h. merged h wide) (c.in_ok-insert-in-Some.ensures.ok
    ∙ ap (λ m. insert msg_cmp m heap) c.in-Some.ensures.value)
    ∙ insert_swap messages_ordered c.args.msg (messages_of wide) heap c.is_empty-sorted.ensures.sorted

pub returns-in_ok-insert-in-None-clause-ok : goal.returns-in_ok-insert-in-None-clause-ok
returns-in_ok-insert-in-None-clause-ok c =
    let heap = c.args.self.now.heap in
    ap (merged heap) c.in_ok-insert-in-None.ensures.ok
    ∙ merged-wide _ c.args.msg heap c.args.self.now.wide c.is_empty-sorted.ensures.sorted
