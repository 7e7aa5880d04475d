use Rattle.std.proofs.lemmas.List.{drop_more}
use Rattle.sim_base.specs.declared.message.Msg.{Msg}
use Rattle.sim_base.specs.declared.message.Payload.TheVariants.{Tick}
use Rattle.solo_run.proofs.turn.put_all.Goals as goal

pub loop-msg-preserved : goal.loop-msg-preserved
loop-msg-preserved c =
    let none : Msg = record { key = record { time = 0; sender = 0; number = 0 }; to = 0; payload = Tick } in
    let more = drop_more c.args.sends.now c.loop-msg.msg-index none c.loop-msg-test.true in
    rw c.in_ok-insert.ensures.ok (rw more at c.loop-msg.invariant)
