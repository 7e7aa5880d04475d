use Rattle.std.proofs.Common.{◌≡◌, ◌+◌, None, List, length, ap, ◌∙◌, subst, sym, arith, length-append}
use Rattle.std.proofs.lemmas.List.Elements.{All-append}
use Rattle.std.specs.Prelude.{sum_by}
use Rattle.crossbeam_deque.specs.Handles.{worker_view}
use Rattle.crew_pool.specs.Tasks.{AnswersTo, HaveRunAll, EachAt}
use Rattle.crew_pool.specs.Deque.{occurrences, one_if_below, EachPair}
use Rattle.crew_pool.specs.Calls.{AreIdle, CallView}
use Rattle.crew_pool.proofs.Taken.{parts_back}
use Rattle.crew_pool.proofs.started.Started.finish.Goals as goal

pub in_order-requires-clause-once : goal.in_order-requires-clause-once
in_order-requires-clause-once g c κs within x =
    let inv = c.self.invariant in
    let deque = c.self.inside.deque in
    let done = parts_back (length c.self.inside.busy.items) (worker_view deque).dealt (worker_view deque)
    (worker_view c.pop_all.new.owner) (worker_view c.gather.new.owner) (worker_view c.pop_all-2.new.owner) _ _ _
    inv.0.at_most inv.0.dealt c.in_ok-pop_all.ensures.taken.0 c.in_ok-callers.ensures.taken.0
    c.in_ok-pop_all-2.ensures.taken.0 in
    sym (ap (occurrences x) done.2)
    ∙ (c.in_ok-pop_all-2.ensures.complete done.0 x
    ∙ (ap (λ (l : List _). one_if_below x (length l)) done.1 ∙ ap (one_if_below x) (sym inv.3)))

pub in_order-requires-clause-answers : goal.in_order-requires-clause-answers
in_order-requires-clause-answers g c κs within =
    let inv = c.self.invariant in
    let deque = c.self.inside.deque in
    let done = parts_back (length c.self.inside.busy.items) (worker_view deque).dealt (worker_view deque)
    (worker_view c.pop_all.new.owner) (worker_view c.gather.new.owner) (worker_view c.pop_all-2.new.owner) _ _ _
    inv.0.at_most inv.0.dealt c.in_ok-pop_all.ensures.taken.0 c.in_ok-callers.ensures.taken.0
    c.in_ok-pop_all-2.ensures.taken.0 in
    let items = (worker_view deque).dealt in
    let pairs = c.pop_all-2.new.outs.items in (
      items,
      subst (λ w. EachPair (AnswersTo (g.W.Work.answers w) items) pairs) (c.deref-3.ensures ∙ sym c.deref-4.ensures)
          (subst (λ (l : List _). EachPair (AnswersTo (g.W.Work.answers c.deref-3.result.now) l) pairs) done.3
          c.in_ok-pop_all-2.ensures.taken.1),
    )

pub invariant_of-idle : goal.invariant_of-idle
invariant_of-idle g c =
    let inv = c.self.invariant in
    let deque = c.self.inside.deque in
    let done = parts_back (length c.self.inside.busy.items) (worker_view deque).dealt (worker_view deque)
    (worker_view c.pop_all.new.owner) (worker_view c.gather.new.owner) (worker_view c.pop_all-2.new.owner) _ _ _
    inv.0.at_most inv.0.dealt c.in_ok-pop_all.ensures.taken.0 c.in_ok-callers.ensures.taken.0
    c.in_ok-pop_all-2.ensures.taken.0 in
    let callers = c.in_ok-callers.callers.items in
    let idle = c.self.inside.idle.items in
    let more = c.in_ok-add_all.ensures.value in (
      record {
        fifo = c.pop_all-2.ensures.same.1
            ∙ (c.gather.ensures.same.1 ∙ (c.pop_all.ensures.same.1 ∙ inv.0.fifo));
        every = done.0;
        complete = c.in_ok-pop_all-2.ensures.complete;
      },
      subst (λ l. AreIdle l) (sym more)
          (All-append (λ caller. caller ≡ None) callers idle c.in_ok-callers.ensures.idle inv.2),
      omega (arith, ap length more ∙ length-append callers idle, c.in_ok-callers.ensures.count, inv.4),
    )

pub returns : goal.returns
returns g c =
    let inv = c.self.invariant in
    let deque = c.self.inside.deque in
    let done = parts_back (length c.self.inside.busy.items) (worker_view deque).dealt (worker_view deque)
    (worker_view c.pop_all.new.owner) (worker_view c.gather.new.owner) (worker_view c.pop_all-2.new.owner) _ _ _
    inv.0.at_most inv.0.dealt c.in_ok-pop_all.ensures.taken.0 c.in_ok-callers.ensures.taken.0
    c.in_ok-pop_all-2.ensures.taken.0 in
    let items = (worker_view deque).dealt in
    let pairs = c.pop_all-2.new.outs.items in
    let all = subst (λ w. EachPair (AnswersTo (g.W.Work.answers w) items) pairs)
    (c.deref-3.ensures ∙ sym c.deref-4.ensures)
    (subst (λ (l : List _). EachPair (AnswersTo (g.W.Work.answers c.deref-3.result.now) l) pairs) done.3
    c.in_ok-pop_all-2.ensures.taken.1) in
    let outs = c.in_ok-outs.outs.items in
    record {
      have_run =
          subst (λ (s : CallView _ _). HaveRunAll (g.W.Work.answers s.work) g.W.Work.cost s.items c.args.steps.now
          c.tick_costs.new.steps outs) c.self.view_is
          (record {
            count = c.in_ok-outs.ensures.count ∙ inv.3;
            answers = subst (λ w. EachAt (AnswersTo (g.W.Work.answers w) items) outs) c.deref-4.ensures
                (c.in_ok-outs.ensures.answers items all);
            cost = c.tick_costs.ensures.value
                ∙ ap (λ l. c.args.steps.now + sum_by g.W.Work.cost l) c.as_slice.ensures.value;
          });
    }
