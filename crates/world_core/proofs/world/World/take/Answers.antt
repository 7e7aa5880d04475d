use Rattle.std.proofs.Common.{◌∙◌, ap, sym, arith}
use Rattle.std.proofs.lemmas.List.{drop_all}
use Rattle.world_core.specs.Taking.{clones_after_calls}
use Rattle.world_core.proofs.Taken.{world_with}
use Rattle.world_core.proofs.world.World.take.Goals as goal

pub returns : goal.returns
returns c =
    let net = c.args.self.net in
    let cs = c.loop-call.world.clones in
    let i = c.loop-call.invariant in
    record {
      value = world_with c.args.self c.loop-call.world (clones_after_calls net c.args.self.clones c.args.fresh.now)
          i.net i.front
          (ap (clones_after_calls net cs) (sym (drop_all c.loop-call.call-index c.args.fresh.now
          (let l = c.loop-call-test.false in omega (arith, l)))) ∙ i.clones);
    }
