use Rattle.std.proofs.Common.{rules}
use Rattle.crew_pool.proofs.Pairs.{numbers-push, EachPair-push, IsItemAt-answers}
use Rattle.crew_pool.proofs.taking.run_task.Goals as goal

pub returns : goal.returns
returns g c = record { number = search (rules, numbers-push); answer = search (rules, EachPair-push, IsItemAt-answers) }
