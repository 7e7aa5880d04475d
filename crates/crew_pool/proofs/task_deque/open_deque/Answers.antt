use Rattle.crew_pool.proofs.DequeRule.{TasksOnce-begins}
use Rattle.crew_pool.proofs.task_deque.open_deque.Goals as goal

pub fifo_as-requires : goal.fifo_as-requires
fifo_as-requires g c = TasksOnce-begins
