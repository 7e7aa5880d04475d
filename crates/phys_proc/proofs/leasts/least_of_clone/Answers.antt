use Rattle.std.proofs.Common.{◌≡◌, true, Some, sym, ap, ◌∙◌, slice_get}
use Rattle.std.proofs.lemmas.Bool.{false≢true}
use Rattle.sim_base.specs.Pending.{cut_by}
use Rattle.clone_sets.specs.Sets.{has, common}
use Rattle.run_laws.specs.Queue.{In}
use Rattle.phys_proc.specs.Own.{StationCopy, taken_at}
use Rattle.phys_proc.proofs.LeastTimes.{least_one, least_ended, least_unmarked, least_beside}
use Rattle.phys_proc.proofs.leasts.least_of_clone.Goals as goal

pub returns-then-not-has : goal.returns-then-not-has
returns-then-not-has c = record {
  least = λ ends e m h.
      false≢true (c.if-not-has.ensures ∙ (ap (λ s. has s c.args.c) c.set.ensures.value
      ∙ (ap (λ (u : StationCopy). has u.set c.args.c) c.copy.view_is ∙ h.0)));
}

pub returns-then-time-end : goal.returns-then-time-end
returns-then-time-end c = record {
  least = λ ends e. least_beside (has c.args.copy.now.set c.args.c ≡ true)
      (λ m. In m (taken_at ends c.args.c c.args.copy.now.pending)) (Some c.in-Some.first.0.key.time)
      (sym (ap (λ (u : StationCopy). has u.set c.args.c) c.copy.view_is)
      ∙ sym (ap (λ s. has s c.args.c) c.set.ensures.value) ∙ sym c.if-not-has.ensures)
      (least_one ends c.args.c c.args.end c.args.copy.now.pending c.in-Some.first e c.requires.sorted
      (c.in-Some.ensures.value ∙ (ap (λ (u : StationCopy). slice_get (cut_by common c.one.result u.pending) 0)
      c.copy.view_is ∙ ap (λ k. slice_get (cut_by common k c.args.copy.now.pending) 0) c.one.ensures.value))
      c.if-time-end.true);
}

pub returns-else-time-end : goal.returns-else-time-end
returns-else-time-end c = record {
  least = λ ends e m h.
      least_ended ends c.args.c c.args.end c.args.copy.now.pending c.in-Some.first e c.requires.sorted
      (c.in-Some.ensures.value ∙ (ap (λ (u : StationCopy). slice_get (cut_by common c.one.result u.pending) 0)
      c.copy.view_is ∙ ap (λ k. slice_get (cut_by common k c.args.copy.now.pending) 0) c.one.ensures.value))
      c.if-time-end.false m h.1;
}

pub returns-in_default : goal.returns-in_default
returns-in_default c = record {
  least = λ ends e m h. least_unmarked ends c.args.c c.args.copy.now.pending
      (c.in_default.ensures.value ∙ (ap (λ (u : StationCopy). slice_get (cut_by common c.one.result u.pending) 0)
      c.copy.view_is ∙ ap (λ k. slice_get (cut_by common k c.args.copy.now.pending) 0) c.one.ensures.value)) m h.1;
}
