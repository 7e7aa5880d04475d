use Rattle.std.proofs.Common.{ap, arith}
use Rattle.sim_base.proofs.CloneLists.{reserved_after_fork}
use Rattle.sim_base.proofs.Distinct.{clones_after_fork}
use Rattle.sim_base.proofs.lists.Lists.fork_in_reserved.Goals as goal

pub invariant_of-self : goal.invariant_of-self
invariant_of-self c =
    let seen = ap (λ l. l.clones) c.self.view_is in
    let clones = ap (λ l. l.reserved_clones) c.self.view_is in
    let forked = clones_after_fork c.self.inside.clones.items _ c.args.new c.args.old _ seen c.requires.unused
    (omega (arith, clones, c.requires.at_most)) c.self.invariant.2 in (
      rw c.in-Ok.ensures.ok (reserved_after_fork _ _ _ _ _ _ c.args.new c.args.old c.self.invariant.0
          c.in-Some.ensures.some),
      omega arith,
      rw c.in-Ok.ensures.ok forked,
    )
