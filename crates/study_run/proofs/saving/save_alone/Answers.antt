use Rattle.std.proofs.Common.{refl}
use Rattle.sim_base.specs.Clones.{clone_at}
use Rattle.study_run.proofs.SoloRuns.{last_time-is}
use Rattle.study_run.proofs.SavedRuns.{is_run_at, unwritten_is_fault, written_is_saved}
use Rattle.study_run.proofs.saving.save_alone.Goals as goal

pub write_run-requires : goal.write_run-requires
write_run-requires g c =
    let clone = clone_at c.args.lists.now.clones c.args.c in
    let is = last_time-is c.args.model.now c.args.time c.min-front.result c.last_front.result clone c.end_of.result
    c.min-front.ensures c.last_front.ensures.value c.end_of.ensures.value in (
      c.requires.in_range,
      (
        refl,
        is_run_at c.args.model.now c.args.lists.now.clones c.args.c c.args.time c.min-front.result c.in-Ok.solo
            c.requires.planned c.requires.sayable c.requires.in_range is c.in-Ok.ensures.solo c.in-Ok.ensures.run,
      ),
    )

pub returns-in-Ok-write_run-clause-saved : goal.returns-in-Ok-write_run-clause-saved
returns-in-Ok-write_run-clause-saved g c =
    let clone = clone_at c.args.lists.now.clones c.args.c in
    let is = last_time-is c.args.model.now c.args.time c.min-front.result c.last_front.result clone c.end_of.result
    c.min-front.ensures c.last_front.ensures.value c.end_of.ensures.value in
    written_is_saved c.args.model.now c.args.time clone _ _ c.min-front.result _
    (record { within = c.in-Ok.ensures.within; steps = c.in-Ok.ensures.steps }) is
    c.in-Ok-write_run.ensures.value c.in-Ok-write_run.ensures.at_most

pub returns-in-Ok-clause-fault : goal.returns-in-Ok-clause-fault
returns-in-Ok-clause-fault g c =
    let clone = clone_at c.args.lists.now.clones c.args.c in
    let is = last_time-is c.args.model.now c.args.time c.min-front.result c.last_front.result clone c.end_of.result
    c.min-front.ensures c.last_front.ensures.value c.end_of.ensures.value in
    unwritten_is_fault c.args.model.now c.args.time clone _ _ c.min-front.result c.in-Err.fault
    (record { within = c.in-Ok.ensures.within; steps = c.in-Ok.ensures.steps }) is c.in-Err.ensures.fault
