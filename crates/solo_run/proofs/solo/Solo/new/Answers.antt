use Rattle.std.proofs.Common.{◌∙◌, ap, length}
use Rattle.sim_base.specs.Order.{msg_cmp}
use Rattle.run_laws.specs.Queue.{insert_all}
use Rattle.run_laws.specs.World.{first_messages}
use Rattle.stations.specs.Runs.{simulation}
use Rattle.solo_run.specs.EventLists.{all_messages}
use Rattle.solo_run.proofs.Starting.{config_of-start, IsSolo-start}
use Rattle.solo_run.proofs.solo.Solo.new.Goals as goal

pub returns-clause-begins : goal.returns-clause-begins
returns-clause-begins c =
    let net = c.args.model.now in
    let first = c.in_ok-states.ensures.first
    ∙ ap (insert_all msg_cmp (first_messages (simulation net) (length net.sites))) c.new-pending.ensures.value in
    rw c.new.ensures.value (config_of-start net c.in_ok-states.ensures.valid c.args.list.now
    c.in_ok-states.states.items (all_messages c.put_decisions.new.pending) _ c.in_ok-states.ensures.opened
    first (c.in_ok-put_decisions.ensures.ok net))

pub returns-clause-solo : goal.returns-clause-solo
returns-clause-solo c =
    let net = c.args.model.now in
    let first = c.in_ok-states.ensures.first
    ∙ ap (insert_all msg_cmp (first_messages (simulation net) (length net.sites))) c.new-pending.ensures.value in
    rw c.new.ensures.value (IsSolo-start net c.in_ok-states.ensures.valid c.args.list.now c.in_ok-states.states.items
    (all_messages c.put_decisions.new.pending) _ c.in_ok-states.ensures.opened
    first
    (c.in_ok-put_decisions.ensures.ok net) c.requires.stations)
