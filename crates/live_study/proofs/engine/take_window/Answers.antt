use Rattle.std.proofs.Common.{sym, subst}
use Rattle.live_study.specs.Driving.{CountsFew}
use Rattle.live_study.specs.Engines.{StopsEngine}
use Rattle.live_study.proofs.Handled.{CountsFew-window}
use Rattle.live_study.proofs.Stepping.{stops_ahead}
use Rattle.live_study.proofs.engine.take_window.Goals as goal

pub returns-in-Err-clause-stops : goal.returns-in-Err-clause-stops
returns-in-Err-clause-stops g c =
    let helm = c.take_turn.new.helm in
    subst (StopsEngine helm.net helm.helm) (sym c.fault_of_window.ensures.value)
    (stops_ahead helm c.in-Ok.world c.in-Ok.bound c.args.steps.now c.window.new.steps c.in-Err.fault
    c.in-Ok.ensures.raised c.in-Err.ensures.fault)

pub returns-in-Err-clause-at_most : goal.returns-in-Err-clause-at_most
returns-in-Err-clause-at_most g c =
    let helm = c.take_turn.new.helm in
    subst (CountsFew helm c.args.world c.args.steps.now c.window.new.steps) (sym c.fault_of_window.ensures.value)
    (CountsFew-window helm c.args.world c.in-Ok.world c.in-Ok.bound c.args.steps.now c.window.new.steps
    c.in-Err.fault c.in-Ok.ensures.handled c.in-Ok.ensures.raised c.in-Err.ensures.fault)
