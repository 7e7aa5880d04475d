use Rattle.std.proofs.Common.{◌≤◌, arith, subst}
use Rattle.net_model.specs.Rules.{IsNet}
use Rattle.study_run.proofs.Windows.{IsWindow-made, before-horizon, front_after-rises}
use Rattle.study_run.proofs.plain.next_window.Goals as goal

pub advance-requires-clause-above : goal.advance-requires-clause-above
advance-requires-clause-above g c =
    let w = c.args.world in
    let within : w.front ≤ w.net.horizon = omega (arith, c.front-within.ensures.value, c.front-within.ensures.within) in
    front_after-rises w c.bound-bound.result (subst IsNet c.model.ensures.value c.horizon-valid.ensures.valid)
    (before-horizon w c.requires.going within) c.bound-bound.ensures.value

pub returns : goal.returns
returns g c =
    let w = c.args.world in
    let within : w.front ≤ w.net.horizon = omega (arith, c.front-within.ensures.value, c.front-within.ensures.within) in
    let e = c.advance.ensures in
    record {
      window = IsWindow-made w c.bound-bound.result c.args.steps.now c.advance.new.steps c.advance.result
          (subst IsNet c.model.ensures.value c.horizon-valid.ensures.valid) (before-horizon w c.requires.going within)
          c.bound-bound.ensures.value e.value e.steps e.length_max e.fault;
    }
