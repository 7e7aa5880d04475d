use Rattle.std.proofs.Common.{◌+◌, sym, subst}
use Rattle.world_core.specs.declared.world.WorldFault.TheVariants.{EventLimit}
use Rattle.world_core.specs.Overs.{IsFaultAt}
use Rattle.world_core.proofs.Stepped.{has_failed, has_stepped}
use Rattle.world_core.proofs.advancing.Stations.advance.Goals as goal

pub returns-in-Some-clause-fault : goal.returns-in-Some-clause-fault
returns-in-Some-clause-fault g c = λ cut next may.
    let w = c.args.self.now in
    let s = c.in_ok-stepped.stepped in
    subst (IsFaultAt w.model.value w.lists.clones cut next c.args.steps.now c.step.new.steps)
    (sym {b = EventLimit (c.in-Some.place + 1) c.in-Some.who w.model.value.limit} c.beyond_limit.ensures.value)
    (has_failed w.model.value w.lists.clones w.ends cut next w.buffers.bounds.items w.procs.items
    c.step.new.procs.items s.over c.args.steps.now c.step.new.steps may c.in_ok-stepped.ensures.stepped
    (c.in-Some.place, c.in-Some.who) c.in-Some.is)

pub returns-clause-stepped : goal.returns-clause-stepped
returns-clause-stepped g c = λ cut next may.
    let w = c.args.self.now in
    let s = c.in_ok-stepped.stepped in
    has_stepped w.model.value w.lists.clones w.ends cut next w.buffers.bounds.items w.procs.items
    c.step.new.procs.items s.over c.args.steps.now c.step.new.steps may c.in_ok-stepped.ensures.stepped
    c.in_default.is
