use Rattle.std.proofs.Common.{◌+◌, ◌<◌, ◌≤◌, ◌∙◌, ap, arith, subst, refl}
use Rattle.clone_sets.specs.Sets.{minus, size, union}
use Rattle.stations.specs.declared.sender.TheConstants.{MAX_COUNTS}
use Rattle.phys_proc.specs.StepGoals.{ends_for}
use Rattle.phys_proc.specs.Own.{half, may_handle}
use Rattle.phys_proc.proofs.Finishing.{advance-settled, advance-full, advance-parts, some_fits, others_fit}
use Rattle.phys_proc.proofs.Finishing.{some_smaller, others_smaller, both_few, others_part}
use Rattle.phys_proc.proofs.ComesFrom.{left_few}
use Rattle.phys_proc.proofs.advancing.+bring_to_bound.Goals as goal

-- ---- Settled

pub returns-in_ok-put-in-Settled-clause-comes : goal.returns-in_ok-put-in-Settled-clause-comes
returns-in_ok-put-in-Settled-clause-comes g t c = advance-settled c.args.goal.now.model.now c.args.goal.now.station
    (ends_for c.args.goal.now) c.args.goal.now.bound c.args.copy c.args.stage.now.sent
    c.args.steps.now c.requires.may_advance.fits c.args.stage.now.done c.put.new.self c.args.stage.now.over
    (rw c.in-Settled.is at c.requires.stop) c.in_ok-put-in-Settled.ensures.more

-- ---- Full

pub returns-in-Full-clause-comes : goal.returns-in-Full-clause-comes
returns-in-Full-clause-comes g t c = advance-full c.args.goal.now.model.now c.args.goal.now.station
    (ends_for c.args.goal.now) c.args.goal.now.bound c.args.copy c.args.stage.now.sent
    c.args.steps.now c.requires.may_advance.fits c.args.stage.now.done c.args.stage.now.over c.union-stage.result
    (rw c.in-Full.is at c.requires.stop)
    (c.union-stage.ensures.value ∙ ap (union c.args.stage.now.over) c.set.ensures.value)

-- ---- Parts: the others are some of the clones

pub halves-requires-clause-others : goal.halves-requires-clause-others
halves-requires-clause-others g t c =
    let set = c.args.copy.set in
    let takers = c.args.stage.now.takers in
    let fits = others_fit c.args.goal.now.model.now c.args.goal.now.station (ends_for c.args.goal.now)
    c.args.goal.now.bound c.args.copy c.args.stage.now.sent c.args.steps.now c.requires.may_advance.fits takers
    (rw c.in-Parts.is at c.requires.stop) (half c.args.copy (minus set takers)) refl in
    others_part set takers fits.inhabited.0 fits.inhabited.1

-- ---- Parts: those that take the message

pub handle_together-requires : goal.handle_together-requires
handle_together-requires g t c =
    let fits = some_fits c.args.goal.now.model.now c.args.goal.now.station (ends_for c.args.goal.now)
    c.args.goal.now.bound c.args.copy c.args.stage.now.sent c.args.steps.now c.requires.may_advance.fits
    c.args.stage.now.takers (rw c.in-Parts.is at c.requires.stop) c.in_ok-some-in-Parts.some
    c.in_ok-some-in-Parts.ensures.first in
    let both = both_few c.args.goal.now.model.now c.args.goal.now.station (ends_for c.args.goal.now)
    c.args.goal.now.bound c.args.copy c.args.stage.now.sent c.args.steps.now c.requires.may_advance.fits
    c.args.stage.now.takers (rw c.in-Parts.is at c.requires.stop) c.in_ok-some-in-Parts.some
    c.in_ok-some-in-Parts.others c.in_ok-some-in-Parts.ensures.first c.in_ok-some-in-Parts.ensures.second in
    let few = c.requires.may_advance.at_most in
    record {
      may_advance = record {
        fits = fits;
        time_max = c.requires.may_advance.time_max;
        at_most = omega (arith, both, few);
      };
    }

pub bring_to_bound-requires : goal.bring_to_bound-requires
bring_to_bound-requires g t c =
    let net = c.args.goal.now.model.now in
    let station = c.args.goal.now.station in
    let bound = c.args.goal.now.bound in
    let ends = ends_for c.args.goal.now in
    let a = c.in_ok-some-in-Parts.some in
    let a1 = c.handle_together.new.copy in
    let first = c.in_ok-first-in-Parts.ensures in
    let o = first.onward in
    let fall : size a1.set < size c.args.copy.set = some_smaller net station ends bound c.args.copy
    c.args.stage.now.sent c.args.steps.now c.requires.may_advance.fits c.args.stage.now.takers
    (rw c.in-Parts.is at c.requires.stop) a a1 c.in_ok-some-in-Parts.ensures.first o.set in
    let both = both_few net station ends bound c.args.copy c.args.stage.now.sent c.args.steps.now
    c.requires.may_advance.fits c.args.stage.now.takers (rw c.in-Parts.is at c.requires.stop) a
    c.in_ok-some-in-Parts.others c.in_ok-some-in-Parts.ensures.first c.in_ok-some-in-Parts.ensures.second in
    let left = left_few net station ends bound a a1 c.args.stage.now.sent
    c.handle_together.new.stage.sent c.args.steps.now c.handle_together.new.steps o in
    let few0 = c.requires.may_advance.at_most in
    let counted = o.counted in
    let handled = first.handled in
    let few : c.handle_together.new.stage.handled + may_handle net.limit a1 ≤ MAX_COUNTS =
    omega (arith, both, left, few0, counted, handled) in
    λ κs within. (
      subst (λ n. size a1.set < n) c.decreases fall,
      (within, (record { fits = o.fits; time_max = c.requires.may_advance.time_max; at_most = few }, first.stop)),
    )

-- ---- Parts: the others

pub handle_together-requires-in-Parts : goal.handle_together-requires-in-Parts
handle_together-requires-in-Parts g t c =
    let net = c.args.goal.now.model.now in
    let station = c.args.goal.now.station in
    let bound = c.args.goal.now.bound in
    let ends = ends_for c.args.goal.now in
    let fits = others_fit net station ends bound c.args.copy c.args.stage.now.sent
    c.args.steps.now c.requires.may_advance.fits c.args.stage.now.takers (rw c.in-Parts.is at c.requires.stop)
    c.in_ok-some-in-Parts.others c.in_ok-some-in-Parts.ensures.second in
    let first = c.in_ok-first-in-Parts.ensures in
    let o = first.onward in
    let both = both_few net station ends bound c.args.copy c.args.stage.now.sent c.args.steps.now
    c.requires.may_advance.fits c.args.stage.now.takers (rw c.in-Parts.is at c.requires.stop)
    c.in_ok-some-in-Parts.some c.in_ok-some-in-Parts.others c.in_ok-some-in-Parts.ensures.first
    c.in_ok-some-in-Parts.ensures.second in
    let left = left_few net station ends bound c.in_ok-some-in-Parts.some c.handle_together.new.copy
    c.args.stage.now.sent c.handle_together.new.stage.sent c.args.steps.now c.handle_together.new.steps o in
    let few = c.requires.may_advance.at_most in
    let counted = o.counted in
    let handled = first.handled in
    let come = c.in_ok-bring_to_bound-in-Parts.ensures.comes in
    let gained = come.at_most in
    let steps = come.steps in
    let handled1 = c.in_ok-bring_to_bound-in-Parts.ensures.handled in
    record {
      may_advance = record {
        fits = fits;
        time_max = c.requires.may_advance.time_max;
        at_most = omega (arith, both, left, few, counted, handled, gained, steps, handled1);
      };
    }

pub bring_to_bound-requires-in-Parts : goal.bring_to_bound-requires-in-Parts
bring_to_bound-requires-in-Parts g t c =
    let net = c.args.goal.now.model.now in
    let station = c.args.goal.now.station in
    let bound = c.args.goal.now.bound in
    let ends = ends_for c.args.goal.now in
    let b = c.in_ok-some-in-Parts.others in
    let b1 = c.handle_together-in-Parts.new.copy in
    let first = c.in_ok-first-in-Parts.ensures in
    let second = c.in_ok-second-in-Parts.ensures in
    let o = second.onward in
    let fall : size b1.set < size c.args.copy.set = others_smaller net station ends bound c.args.copy
    c.args.stage.now.sent c.args.steps.now c.requires.may_advance.fits c.args.stage.now.takers
    (rw c.in-Parts.is at c.requires.stop) b b1 c.in_ok-some-in-Parts.ensures.second o.set in
    let both = both_few net station ends bound c.args.copy c.args.stage.now.sent c.args.steps.now
    c.requires.may_advance.fits c.args.stage.now.takers (rw c.in-Parts.is at c.requires.stop)
    c.in_ok-some-in-Parts.some b c.in_ok-some-in-Parts.ensures.first c.in_ok-some-in-Parts.ensures.second in
    let left = left_few net station ends bound c.in_ok-some-in-Parts.some c.handle_together.new.copy
    c.args.stage.now.sent c.handle_together.new.stage.sent c.args.steps.now
    c.handle_together.new.steps first.onward in
    let left1 = left_few net station ends bound b b1 c.bring_to_bound.new.stage.sent
    c.handle_together-in-Parts.new.stage.sent c.bring_to_bound.new.steps c.handle_together-in-Parts.new.steps o in
    let few0 = c.requires.may_advance.at_most in
    let counted = first.onward.counted in
    let handled = first.handled in
    let come = c.in_ok-bring_to_bound-in-Parts.ensures.comes in
    let gained = come.at_most in
    let steps = come.steps in
    let handled1 = c.in_ok-bring_to_bound-in-Parts.ensures.handled in
    let counted2 = o.counted in
    let handled2 = second.handled in
    let few : c.handle_together-in-Parts.new.stage.handled + may_handle net.limit b1 ≤ MAX_COUNTS =
    omega (arith, both, left, left1, few0, counted, handled, gained, steps, handled1, counted2, handled2) in
    λ κs within. (
      subst (λ n. size b1.set < n) c.decreases fall,
      (within, (record { fits = o.fits; time_max = c.requires.may_advance.time_max; at_most = few }, second.stop)),
    )

-- ---- Parts: both

pub returns-in_ok-bring_to_bound-in-Parts-2-clause-comes : goal.returns-in_ok-bring_to_bound-in-Parts-2-clause-comes
returns-in_ok-bring_to_bound-in-Parts-2-clause-comes g t c =
    let first = c.in_ok-first-in-Parts.ensures in
    let second = c.in_ok-second-in-Parts.ensures in
    let last = c.bring_to_bound-in-Parts.new in
    advance-parts c.args.goal.now.model.now c.args.goal.now.station
    (ends_for c.args.goal.now) c.args.goal.now.bound c.args.copy c.args.stage.now.sent
    c.args.steps.now c.requires.may_advance.fits c.args.stage.now.takers (rw c.in-Parts.is at c.requires.stop)
    c.in_ok-some-in-Parts.some c.handle_together.new.copy c.in_ok-some-in-Parts.others
    c.handle_together-in-Parts.new.copy c.args.stage.now.done c.handle_together.new.stage.done
    c.bring_to_bound.new.stage.done c.handle_together-in-Parts.new.stage.done last.stage.done
    c.handle_together.new.stage.sent c.bring_to_bound.new.stage.sent
    c.handle_together-in-Parts.new.stage.sent last.stage.sent c.args.stage.now.over
    c.handle_together.new.stage.over c.bring_to_bound.new.stage.over c.handle_together-in-Parts.new.stage.over
    last.stage.over c.handle_together.new.steps c.bring_to_bound.new.steps c.handle_together-in-Parts.new.steps
    last.steps c.in_ok-some-in-Parts.ensures.first
    c.in_ok-some-in-Parts.ensures.second first.onward first.done first.over
    c.in_ok-bring_to_bound-in-Parts.ensures.comes second.onward second.done second.over
    c.in_ok-bring_to_bound-in-Parts-2.ensures.comes
