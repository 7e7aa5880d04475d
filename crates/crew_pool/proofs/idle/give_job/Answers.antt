use Rattle.std.proofs.Common.{◌≡◌, ◌-◌, ap, arith}
use Rattle.crossbeam_deque.specs.Handles.{worker_view}
use Rattle.crew_pool.specs.declared.task_deque.SeatView.{SeatView}
use Rattle.crew_pool.specs.declared.task_deque.TheConstants.{MAX_PARTS}
use Rattle.crew_pool.proofs.DequeRule.{TasksOnce-forks}
use Rattle.crew_pool.proofs.idle.give_job.Goals as goal

pub another-seat-requires : goal.another-seat-requires
another-seat-requires g c =
    let e : (worker_view c.args.deque.now).parts ≡ MAX_PARTS - c.args.out =
    ap (λ (u : SeatView _). u.parts) c.requires.dealt.dealt in
    TasksOnce-forks _ _ (omega (arith, e, c.requires.at_most))
