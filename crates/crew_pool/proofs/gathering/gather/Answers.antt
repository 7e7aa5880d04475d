use Rattle.std.proofs.Common.{
  ◌≡◌,
  ◌+◌,
  List,
  ◌∷◌,
  ◌++◌,
  [],
  length,
  rules,
  sym,
  ap,
  ◌∙◌,
  subst,
  arith,
  IfOk,
  None,
}
use Rattle.std.proofs.lemmas.Iterator.Consumers.{YieldsList-turn}
use Rattle.std.proofs.lemmas.Iterator.Adapters.{YieldsList-from_vec}
use Rattle.std.proofs.lemmas.List.{length_push}
use Rattle.std.proofs.lemmas.List.Elements.{All-push}
use Rattle.crossbeam_deque.specs.Handles.{view, worker_deque, worker_view}
use Rattle.crew_pool.specs.Tasks.{AnswersTo}
use Rattle.crew_pool.specs.declared.task_deque.SeatView.{SeatView}
use Rattle.crew_pool.specs.Deque.{seat_view, numbers, EachPair}
use Rattle.crew_pool.specs.Calls.{JobView, AreIdle}
use Rattle.crew_pool.proofs.Taken.{HasTaken-own, HasTaken-next}
use Rattle.crew_pool.proofs.gathering.gather.Goals as goal

pub finish_job-seat-requires-clause-given : goal.finish_job-seat-requires-clause-given
finish_job-seat-requires-clause-given g c κs within =
    let job : JobView _ _ _ = record {
      work = c.args._work.now;
      deque = worker_deque c.args.owner.now;
      items = (worker_view c.args.owner.now).dealt;
    } in
    let step = YieldsList-turn (YieldsList-from_vec {s = c.into_iter-caller-iterator.result} c.args.busy.items
    (search rules) (search rules)) c.loop-caller.yielded _ c.loop-caller.yielded_by _ c.next.new.self
    c.in-Some.caller c.in-Some.is c.next.ensures.steps in
    (job, step.1 ∙ c.requires.out (length c.loop-caller.yielded) c.in-Some.caller step.0)

pub absorb_one-requires-clause-part : goal.absorb_one-requires-clause-part
absorb_one-requires-clause-part g c =
    omega (arith, c.requires.part, ap (λ (v : SeatView _). v.parts) c.loop-caller.invariant.4.0)

pub absorb_one-requires-clause-taken : goal.absorb_one-requires-clause-taken
absorb_one-requires-clause-taken g c κs within =
    HasTaken-own (λ items. AnswersTo (g.W.Work.answers c.args._work.now) items) _ _ _ c.loop-caller.all.items
    c.loop-caller.invariant.4

pub absorb_one-requires-clause-pass : goal.absorb_one-requires-clause-pass
absorb_one-requires-clause-pass g c κs within =
    let deque = worker_deque c.args.owner.now in
    let dealt = (worker_view c.args.owner.now).dealt in
    let job : JobView _ _ _ = record { work = c.args._work.now; deque = deque; items = dealt } in
    let step = YieldsList-turn (YieldsList-from_vec {s = c.into_iter-caller-iterator.result} c.args.busy.items
    (search rules) (search rules)) c.loop-caller.yielded _ c.loop-caller.yielded_by _ c.next.new.self
    c.in-Some.caller c.in-Some.is c.next.ensures.steps in
    let end = c.finish_job-seat.ensures.end job
    (step.1 ∙ c.requires.out (length c.loop-caller.yielded) c.in-Some.caller step.0) in
    let d = c.loop-caller.invariant.0 in
    (end.0.0 ∙ sym (ap (λ z. z.0) d), end.0.1 ∙ sym (ap (λ z. z.1) d), end.0.2, end.0.3)

pub absorb_one-requires-clause-view : goal.absorb_one-requires-clause-view
absorb_one-requires-clause-view g c κs within =
    let deque = worker_deque c.args.owner.now in
    let dealt = (worker_view c.args.owner.now).dealt in
    let job : JobView _ _ _ = record { work = c.args._work.now; deque = deque; items = dealt } in
    let step = YieldsList-turn (YieldsList-from_vec {s = c.into_iter-caller-iterator.result} c.args.busy.items
    (search rules) (search rules)) c.loop-caller.yielded _ c.loop-caller.yielded_by _ c.next.new.self
    c.in-Some.caller c.in-Some.is c.next.ensures.steps in
    let end = c.finish_job-seat.ensures.end job
    (step.1 ∙ c.requires.out (length c.loop-caller.yielded) c.in-Some.caller step.0) in
    let answers = AnswersTo (g.W.Work.answers c.args._work.now) dealt in
    let read = subst (λ r. IfOk r (λ outs. (view c.finish_job-seat.result.0 ≡ seat_view 1 dealt (numbers outs.items))
    × EachPair answers outs.items)) c.in_ok-outs.was end.1 in
    read.0 ∙ ap (λ l. seat_view 1 l (numbers c.in_ok-outs.outs.items))
    (sym (ap (λ (v : SeatView _). v.dealt) c.loop-caller.invariant.4.0))

pub absorb_one-requires-clause-new : goal.absorb_one-requires-clause-new
absorb_one-requires-clause-new g c κs within =
    let deque = worker_deque c.args.owner.now in
    let dealt = (worker_view c.args.owner.now).dealt in
    let job : JobView _ _ _ = record { work = c.args._work.now; deque = deque; items = dealt } in
    let step = YieldsList-turn (YieldsList-from_vec {s = c.into_iter-caller-iterator.result} c.args.busy.items
    (search rules) (search rules)) c.loop-caller.yielded _ c.loop-caller.yielded_by _ c.next.new.self
    c.in-Some.caller c.in-Some.is c.next.ensures.steps in
    let end = c.finish_job-seat.ensures.end job
    (step.1 ∙ c.requires.out (length c.loop-caller.yielded) c.in-Some.caller step.0) in
    let answers = λ (items : List _). AnswersTo (g.W.Work.answers c.args._work.now) items in
    let read = subst (λ r. IfOk r (λ outs. (view c.finish_job-seat.result.0 ≡ seat_view 1 dealt (numbers outs.items))
    × EachPair (answers dealt) outs.items)) c.in_ok-outs.was end.1 in
    subst (λ l. EachPair (answers l) c.in_ok-outs.outs.items)
    (sym (ap (λ (v : SeatView _). v.dealt) c.loop-caller.invariant.4.0)) read.1

pub loop-caller-preserved : goal.loop-caller-preserved
loop-caller-preserved g c =
    let inv = c.loop-caller.invariant in
    let more = c.in_ok-add.ensures.value in
    let seen = c.loop-caller.yielded in
    let start = worker_view c.args.owner.now in
    let one_more = length_push seen c.in-Some.caller in
    let longer = ap length more ∙ length_push c.loop-caller.callers.items _ in (
      c.absorb_one.ensures.same.0 ∙ inv.0,
      c.absorb_one.ensures.same.1 ∙ inv.1,
      omega (arith, longer, inv.2, one_more),
      subst (λ l. AreIdle l) (sym more)
          (All-push (λ caller. caller ≡ None) c.loop-caller.callers.items _ inv.3 c.finish_job-seat.ensures.idle),
      HasTaken-next (λ items. AnswersTo (g.W.Work.answers c.args._work.now) items) (start.parts + length seen) 1
          (start.parts + length (seen ++ c.in-Some.caller ∷ [])) start.dealt (worker_view c.loop-caller.owner)
          (worker_view c.absorb_one.new.owner) _ c.absorb_one.new.all.items inv.4.0 (omega (arith, one_more))
          c.in_ok-absorb_one.ensures.taken,
    )
