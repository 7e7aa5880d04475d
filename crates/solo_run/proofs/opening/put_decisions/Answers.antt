use Rattle.std.proofs.Common.{◌≡◌, ◌+◌, ◌∙◌, ap, sym, get_or, suc, arith, drop}
use Rattle.std.proofs.lemmas.List.{drop_more}
use Rattle.sim_base.specs.Order.{msg_cmp}
use Rattle.sim_base.specs.declared.decision.Planned.{Planned}
use Rattle.sim_base.specs.declared.message.Param.TheVariants.{Every}
use Rattle.run_laws.specs.Queue.{insert, insert_all}
use Rattle.run_laws.specs.World.{set_messages}
use Rattle.stations.specs.Runs.{simulation, set_message}
use Rattle.solo_run.specs.EventLists.{all_messages}
use Rattle.solo_run.proofs.opening.put_decisions.Goals as goal

pub loop-k-preserved : goal.loop-k-preserved
loop-k-preserved c =
    let none : Planned = record { at = 0; station = 0; change = record { param = Every; a = 0; b = 0 } } in
    let k = c.loop-k.k in
    let plan = get_or c.args.list.now k none in
    let more = drop_more c.args.list.now k none c.loop-k-test.true in
    let number : suc k ≡ k + 1 = omega arith in
    let before = all_messages c.loop-k.pending in
    let e : all_messages c.insert.new.self ≡ insert msg_cmp (set_message k plan) before =
    c.in_ok-insert.ensures.ok ∙ ap (λ m. insert msg_cmp m before) c.set_message.ensures.value in
    λ net. let sim = simulation net in
    rw e (ap (λ j. insert_all msg_cmp (set_messages sim j (drop (k + 1) c.args.list.now))
    (insert msg_cmp (set_message k plan) before)) (sym number)
    ∙ (ap (λ l. insert_all msg_cmp (set_messages sim k l) before) (sym more) ∙ c.loop-k.invariant net))
