use Rattle.crew_pool.proofs.DequeRule.{TasksOnce-renews}
use Rattle.crew_pool.proofs.task_deque.forget.Goals as goal

pub another-none-requires : goal.another-none-requires
another-none-requires g c = TasksOnce-renews _ _ c.requires.every c.requires.complete
