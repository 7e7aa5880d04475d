use Rattle.std.proofs.Common.{◌≡◌, drop}
use Rattle.sim_base.specs.Order.{msg_cmp}
use Rattle.run_laws.specs.Queue.{insert_all}
use Rattle.solo_run.specs.EventLists.{all_messages}
use Rattle.solo_run.proofs.turn.put_all.Given as goal

abbrev pub invariant-loop-msg : goal.invariant-loop-msg
invariant-loop-msg l = insert_all msg_cmp (drop l.msg-index l.sends) (all_messages l.pending)
    ≡ insert_all msg_cmp l.sends (all_messages l.fn.pending)
