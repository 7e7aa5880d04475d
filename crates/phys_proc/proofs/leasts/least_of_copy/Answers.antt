use Rattle.std.proofs.Common.{◌<◌, sym, ap, subst, ◌∙◌, slice_get, eqb-true}
use Rattle.std.proofs.lemmas.Bool.{eqb-false}
use Rattle.sim_base.specs.Pending.{cut_by}
use Rattle.clone_sets.specs.Sets.{common, size, empty}
use Rattle.phys_proc.specs.Own.{StationCopy}
use Rattle.phys_proc.proofs.LeastTimes.{none_alive, none_soon, some_takes, others_more, fewer_alive}
use Rattle.phys_proc.proofs.leasts.least_of_copy.Goals as goal

pub returns-then-time-horizon : goal.returns-then-time-horizon
returns-then-time-horizon c = record {
  least = none_soon c.args.horizon c.args.ends.now c.args.copy.now.set
      c.loop-first.alive c.args.copy.now.pending c.loop-first.invariant c.requires.sorted c.in-Some.first
      (c.in-Some.ensures.value ∙ ap (λ (u : StationCopy). slice_get (cut_by common c.loop-first.alive u.pending) 0)
      c.copy.view_is) c.if-time-horizon.true;
}

pub returns-then-not-is_empty : goal.returns-then-not-is_empty
returns-then-not-is_empty c = record {
  least = some_takes c.args.horizon c.args.ends.now c.args.copy.now.set c.loop-first.alive c.args.copy.now.pending
      c.loop-first.invariant c.requires.sorted c.in-Some.first
      (c.in-Some.ensures.value ∙ ap (λ (u : StationCopy). slice_get (cut_by common c.loop-first.alive u.pending) 0)
      c.copy.view_is)
      c.minus-takers.result c.ended_clones.result c.minus-takers.ensures.members c.ended_clones.ensures.ended
      c.if-time-horizon.false
      (λ e. eqb-false c.minus-takers.result empty (sym c.if-not-is_empty.ensures.value) e);
}

pub loop-first-smaller : goal.loop-first-smaller
loop-first-smaller c = subst (λ k. size k < size c.loop-first.alive) (sym c.minus-alive.ensures.value)
    (fewer_alive c.args.horizon c.args.ends.now c.args.copy.now.set c.loop-first.alive c.args.copy.now.pending
    c.loop-first.invariant c.requires.sorted c.in-Some.first
    (c.in-Some.ensures.value ∙ ap (λ (u : StationCopy). slice_get (cut_by common c.loop-first.alive u.pending) 0)
    c.copy.view_is))

pub loop-first-preserved : goal.loop-first-preserved
loop-first-preserved c = others_more c.args.horizon c.args.ends.now c.args.copy.now.set c.loop-first.alive
    c.args.copy.now.pending c.loop-first.invariant c.requires.sorted c.in-Some.first
    (c.in-Some.ensures.value ∙ ap (λ (u : StationCopy). slice_get (cut_by common c.loop-first.alive u.pending) 0)
    c.copy.view_is)
    c.minus-takers.result c.ended_clones.result c.minus-takers.ensures.members c.ended_clones.ensures.ended
    c.if-time-horizon.false (eqb-true c.minus-takers.result empty (sym c.if-not-is_empty.ensures.value))
    c.minus-alive.result c.minus-alive.ensures.members

pub returns : goal.returns
returns c = record {
  least = none_alive c.args.horizon c.args.ends.now c.args.copy.now.set c.loop-first.alive
      c.args.copy.now.pending c.loop-first.invariant c.requires.sorted
      (c.in_default.ensures.value ∙ ap (λ (u : StationCopy). slice_get (cut_by common c.loop-first.alive u.pending) 0)
      c.copy.view_is);
}
