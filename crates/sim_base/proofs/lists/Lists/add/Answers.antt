use Rattle.std.proofs.Common.{ap, map, refl, arith}
use Rattle.sim_base.specs.CloneListViews.{AreReserved, AreClones, clone_of}
use Rattle.sim_base.proofs.CloneLists.{reserved_to_add, reserved_set, holds_after}
use Rattle.sim_base.proofs.Distinct.{clones_after_plan}
use Rattle.sim_base.proofs.lists.Lists.add.Goals as goal

pub invariant_of-self : goal.invariant_of-self
invariant_of-self c =
    let l = c.self.inside in
    let held = c.self.invariant in
    let both = holds_after (λ k. AreReserved k l.reserved_clones l.spare l.reserved_plans × AreClones (map clone_of k))
    c.push_plan.result _ _ _ c.push_plan.ensures.ok c.push_plan.ensures.err
    (reserved_set _ _ _ _ c.args.c _ refl held.0, clones_after_plan _ c.args.c c.args.plan held.2) (held.0, held.2) in
    (both.0, omega arith, both.1)

pub returns-clause-reserved : goal.returns-clause-reserved
returns-clause-reserved c fits =
    c.push_plan.ensures.reserved (reserved_to_add _ _ _ _ (ap (λ l. l.clones) c.self.view_is) c.requires.in_range
    c.self.invariant.0.plans (rw (ap (λ l. l.reserved_plans) c.self.view_is) fits))
