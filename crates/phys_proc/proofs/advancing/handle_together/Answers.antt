use Rattle.std.proofs.Common.{◌∙◌, refl, arith}
use Rattle.phys_proc.specs.StepGoals.{ends_for}
use Rattle.phys_proc.proofs.Finishing.{idle_here}
use Rattle.phys_proc.proofs.ComesFrom.{comes_from-start, left_few}
use Rattle.phys_proc.proofs.LowerBounds.{IsLowerBound-before}
use Rattle.phys_proc.proofs.Together.{comes_from-on}
use Rattle.phys_proc.proofs.advancing.handle_together.Goals as goal

-- ---- the loop begins

pub loop-count-init : goal.loop-count-init
loop-count-init g c = record {
  onward = comes_from-start c.args.goal.now.model.now c.args.goal.now.station (ends_for c.args.goal.now)
      c.args.goal.now.bound c.args.copy.now c.args.stage.now.sent c.args.steps.now c.requires.may_advance.fits;
  done = refl;
  over = refl;
  handled = refl;
}

pub handle_packed-requires-clause-fits : goal.handle_packed-requires-clause-fits
handle_packed-requires-clause-fits g c = c.loop-count.invariant.onward.fits

-- ---- Settled: nothing is pending before the bound

pub returns-then-lower_bound_of-goal-clause-onward : goal.returns-then-lower_bound_of-goal-clause-onward
returns-then-lower_bound_of-goal-clause-onward g c =
    let l = c.loop-count in
    comes_from-on c.args.goal.now.model.now c.args.goal.now.station (ends_for c.args.goal.now) c.args.goal.now.bound
    c.args.copy.now l.copy c.handle_packed.new.copy c.args.stage.now.sent l.stage.sent
    c.handle_packed.new.sent c.args.steps.now l.steps c.handle_packed.new.steps l.invariant.onward
    c.in_ok-count.ensures.onward

pub returns-then-lower_bound_of-goal-clause-stop : goal.returns-then-lower_bound_of-goal-clause-stop
returns-then-lower_bound_of-goal-clause-stop g c =
    idle_here (ends_for c.args.goal.now) c.args.goal.now.bound c.handle_packed.new.copy
    c.handle_packed.new.copy
    (IsLowerBound-before c.args.goal.now.bound c.lower_bound_of.result c.handle_packed.new.copy
    c.if-lower_bound_of-goal.true c.lower_bound_of.ensures.lower)

-- ---- another message

pub handle_next-requires : goal.handle_next-requires
handle_next-requires g c =
    let l = c.loop-count in
    let net = c.args.goal.now.model.now in
    let station = c.args.goal.now.station in
    let bound = c.args.goal.now.bound in
    let ends = ends_for c.args.goal.now in
    let here = comes_from-on net station ends bound c.args.copy.now l.copy c.handle_packed.new.copy
    c.args.stage.now.sent l.stage.sent c.handle_packed.new.sent c.args.steps.now l.steps
    c.handle_packed.new.steps l.invariant.onward c.in_ok-count.ensures.onward in
    let few = left_few net station ends bound c.args.copy.now c.handle_packed.new.copy
    c.args.stage.now.sent c.handle_packed.new.sent c.args.steps.now c.handle_packed.new.steps here in
    let most = c.requires.may_advance.at_most in
    let h = l.invariant.handled in
    let k = c.in_ok-count.ensures.counted in
    let t = here.counted in
    record {
      may_advance = record {
        fits = here.fits;
        time_max = c.requires.may_advance.time_max;
        at_most = omega (arith, few, most, h, k, t);
      };
    }

pub returns-in-Some-clause-onward : goal.returns-in-Some-clause-onward
returns-in-Some-clause-onward g c =
    let l = c.loop-count in
    let net = c.args.goal.now.model.now in
    let station = c.args.goal.now.station in
    let bound = c.args.goal.now.bound in
    let ends = ends_for c.args.goal.now in
    let here = comes_from-on net station ends bound c.args.copy.now l.copy c.handle_packed.new.copy
    c.args.stage.now.sent l.stage.sent c.handle_packed.new.sent c.args.steps.now l.steps
    c.handle_packed.new.steps l.invariant.onward c.in_ok-count.ensures.onward in
    comes_from-on net station ends bound c.args.copy.now c.handle_packed.new.copy c.handle_next.new.copy
    c.args.stage.now.sent c.handle_packed.new.sent c.handle_next.new.stage.sent c.args.steps.now
    c.handle_packed.new.steps c.handle_next.new.steps here c.in_ok-stop.ensures.onward

pub loop-count-preserved : goal.loop-count-preserved
loop-count-preserved g c =
    let l = c.loop-count in
    let net = c.args.goal.now.model.now in
    let station = c.args.goal.now.station in
    let bound = c.args.goal.now.bound in
    let ends = ends_for c.args.goal.now in
    let here = comes_from-on net station ends bound c.args.copy.now l.copy c.handle_packed.new.copy
    c.args.stage.now.sent l.stage.sent c.handle_packed.new.sent c.args.steps.now l.steps
    c.handle_packed.new.steps l.invariant.onward c.in_ok-count.ensures.onward in
    let h = l.invariant.handled in
    let k = c.in_ok-count.ensures.counted in
    let n = c.in_ok-stop.ensures.handled in
    record {
      onward = comes_from-on net station ends bound c.args.copy.now c.handle_packed.new.copy
          c.handle_next.new.copy c.args.stage.now.sent c.handle_packed.new.sent
          c.handle_next.new.stage.sent c.args.steps.now c.handle_packed.new.steps c.handle_next.new.steps here
          c.in_ok-stop.ensures.onward;
      done = c.in_ok-stop.ensures.done ∙ l.invariant.done;
      over = c.in_ok-stop.ensures.over ∙ l.invariant.over;
      handled = omega (arith, h, k, n);
    }
