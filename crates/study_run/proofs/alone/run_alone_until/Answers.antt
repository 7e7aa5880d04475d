use Rattle.std.proofs.Common.{subst}
use Rattle.sim_base.specs.Clones.{clone_at}
use Rattle.solo_run.specs.Turns.{Stops}
use Rattle.study_run.specs.Limits.{until}
use Rattle.study_run.proofs.SoloRuns.{last_time-is, ran_to, stays_within, steps_exact, steps_few, stops_alone}
use Rattle.study_run.proofs.SoloRuns.{until-last, whole_trace}
use Rattle.study_run.proofs.alone.run_alone_until.Goals as goal

pub returns-in-Ok-run_to-clause-run : goal.returns-in-Ok-run_to-clause-run
returns-in-Ok-run_to-clause-run g c =
    let net = c.args.model.now in
    let clone = clone_at c.args.lists.now.clones c.args.c in
    let is = last_time-is net c.args.time c.min-front.result c.last_front.result clone c.end_of.result
    c.min-front.ensures c.last_front.ensures.value c.end_of.ensures.value in
    ran_to net c.list.result.now clone.plans c.min-front.result _ c.in-Ok.solo c.in-Ok-run_to.solo c.list.ensures.value
    is
    c.in-Ok.ensures.begins c.in-Ok-run_to.ensures.ok

pub returns-in-Ok-run_to-clause-trace : goal.returns-in-Ok-run_to-clause-trace
returns-in-Ok-run_to-clause-trace g c =
    let net = c.args.model.now in
    let clone = clone_at c.args.lists.now.clones c.args.c in
    let is = last_time-is net c.args.time c.min-front.result c.last_front.result clone c.end_of.result
    c.min-front.ensures c.last_front.ensures.value c.end_of.ensures.value in
    whole_trace net (until net c.args.time clone) c.list.result.now c.min-front.result c.in-Ok.solo c.list.ensures.value
    (until-last net c.args.time c.min-front.result clone is) c.in-Ok.ensures.begins
    c.in-Ok-run_to.solo c.args.steps.now c.run_to.new.steps c.in-Ok-run_to.ensures.ok c.in-Ok-run_to.ensures.solo
    c.in-Ok-run_to.ensures.steps

pub returns-in-Ok-run_to-clause-steps : goal.returns-in-Ok-run_to-clause-steps
returns-in-Ok-run_to-clause-steps g c =
    let net = c.args.model.now in
    let clone = clone_at c.args.lists.now.clones c.args.c in
    let is = last_time-is net c.args.time c.min-front.result c.last_front.result clone c.end_of.result
    c.min-front.ensures c.last_front.ensures.value c.end_of.ensures.value in
    steps_exact net (until net c.args.time clone) c.list.result.now c.min-front.result c.in-Ok.solo c.list.ensures.value
    (until-last net c.args.time c.min-front.result clone is) c.in-Ok.ensures.begins
    c.in-Ok-run_to.solo c.args.steps.now c.run_to.new.steps c.in-Ok-run_to.ensures.ok c.in-Ok-run_to.ensures.solo
    c.in-Ok-run_to.ensures.steps

pub returns-in-Ok-run_to-clause-within : goal.returns-in-Ok-run_to-clause-within
returns-in-Ok-run_to-clause-within g c =
    let net = c.args.model.now in
    let clone = clone_at c.args.lists.now.clones c.args.c in
    let is = last_time-is net c.args.time c.min-front.result c.last_front.result clone c.end_of.result
    c.min-front.ensures c.last_front.ensures.value c.end_of.ensures.value in
    stays_within net (until net c.args.time clone) c.list.result.now c.min-front.result c.in-Ok.solo
    c.list.ensures.value
    (until-last net c.args.time c.min-front.result clone is) c.in-Ok.ensures.begins
    c.in-Ok-run_to.solo c.args.steps.now c.run_to.new.steps c.in-Ok-run_to.ensures.ok c.in-Ok-run_to.ensures.solo
    c.in-Ok-run_to.ensures.steps

pub returns-in-Ok-run_to-clause-at_most : goal.returns-in-Ok-run_to-clause-at_most
returns-in-Ok-run_to-clause-at_most g c =
    let net = c.args.model.now in
    let clone = clone_at c.args.lists.now.clones c.args.c in
    let is = last_time-is net c.args.time c.min-front.result c.last_front.result clone c.end_of.result
    c.min-front.ensures c.last_front.ensures.value c.end_of.ensures.value in
    steps_few net (until net c.args.time clone) c.list.result.now c.min-front.result c.in-Ok.solo c.list.ensures.value
    (until-last net c.args.time c.min-front.result clone is) c.in-Ok.ensures.begins
    c.in-Ok-run_to.solo c.args.steps.now c.run_to.new.steps c.in-Ok-run_to.ensures.ok c.in-Ok-run_to.ensures.solo
    c.in-Ok-run_to.ensures.steps

pub returns-in-Err-Limit-clause-fault : goal.returns-in-Err-Limit-clause-fault
returns-in-Err-Limit-clause-fault g c =
    let net = c.args.model.now in
    let clone = clone_at c.args.lists.now.clones c.args.c in
    let is = last_time-is net c.args.time c.min-front.result c.last_front.result clone c.end_of.result
    c.min-front.ensures c.last_front.ensures.value c.end_of.ensures.value in
    stops_alone net (until net c.args.time clone) c.list.result.now c.min-front.result c.in-Ok.solo c.list.ensures.value
    (until-last net c.args.time c.min-front.result clone is) c.in-Ok.ensures.begins
    c.args.c c.args.steps.now c.run_to.new.steps c.in-Err-Limit.station c.in-Err-Limit.field-0-1
    (subst (λ e. Stops net c.in-Ok.solo c.min-front.result c.args.steps.now c.run_to.new.steps e)
    c.in-Err-Limit.field-0-is c.in-Err-Limit.ensures.stops)
