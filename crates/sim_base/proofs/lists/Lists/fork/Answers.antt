use Rattle.std.proofs.Common.{ap, map, arith}
use Rattle.sim_base.specs.CloneListViews.{AreReserved, AreClones, clone_of}
use Rattle.sim_base.proofs.CloneLists.{reserved_push, holds_after}
use Rattle.sim_base.proofs.Distinct.{clones_after_fork}
use Rattle.sim_base.proofs.lists.Lists.fork.Goals as goal

pub invariant_of-self : goal.invariant_of-self
invariant_of-self c =
    let l = c.self.inside in
    let held = c.self.invariant in
    let forked = clones_after_fork l.clones.items _ c.args.new c.args.old _
    (ap (λ l. l.clones) c.self.view_is) c.requires.unused c.requires.at_most held.2 in
    let both = holds_after (λ k. AreReserved k l.reserved_clones l.spare l.reserved_plans × AreClones (map clone_of k))
    c.push_fork.result _ _ _ c.push_fork.ensures.ok c.push_fork.ensures.err (
      reserved_push _ _ _ _ _ c.args.new c.args.old held.0
          (omega (arith, ap (λ r. r.reserved) c.in_ok-plans.ensures.value)),
      forked,
    ) (held.0, held.2) in
    (both.0, omega arith, both.1)
