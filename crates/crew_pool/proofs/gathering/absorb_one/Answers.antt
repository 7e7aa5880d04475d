use Rattle.crossbeam_deque.specs.Handles.{view, worker_view}
use Rattle.crew_pool.proofs.Pairs.{seat_view-merged, EachPair-append}
use Rattle.crew_pool.proofs.DequeRule.{TasksOnce-merges}
use Rattle.crew_pool.proofs.gathering.absorb_one.Goals as goal

pub absorb-requires-clause-rule : goal.absorb-requires-clause-rule
absorb-requires-clause-rule g c = TasksOnce-merges _ _ _ _ c.requires.part

pub returns-clause-taken : goal.returns-clause-taken
returns-clause-taken g c =
    let owner = worker_view c.args.owner.now in (
      seat_view-merged owner.parts owner.dealt owner (view c.args.seat) _ c.args.all.now.items c.args.outs.items
          c.add_all.new.list.items c.requires.taken.0 c.requires.view c.in_ok-add_all.ensures.value
          c.absorb.ensures.rule,
      rw c.in_ok-add_all.ensures.value (EachPair-append _ _ _ c.requires.taken.1 c.requires.new),
    )
