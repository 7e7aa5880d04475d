use Rattle.std.proofs.Common.{refl, arith}
use Rattle.sim_base.proofs.CloneLists.{reserved_set}
use Rattle.sim_base.proofs.Distinct.{clones_after_end}
use Rattle.sim_base.proofs.lists.Lists.end.Goals as goal

pub invariant_of-self : goal.invariant_of-self
invariant_of-self c =
    let ended = c.set_end.ensures.ok in (
      rw ended (reserved_set _ _ _ _ c.args.c _ refl c.self.invariant.0),
      omega arith,
      rw ended (clones_after_end _ c.args.c c.args.at c.self.invariant.2),
    )
