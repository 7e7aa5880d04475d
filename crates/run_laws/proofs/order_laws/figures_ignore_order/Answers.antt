use Rattle.run_laws.proofs.Orders.{figures_ignore_order, in_order-permutation}
use Rattle.run_laws.proofs.order_laws.figures_ignore_order.Goals as goal

pub returns-clause-permutation : goal.returns-clause-permutation
returns-clause-permutation g c = in_order-permutation

pub returns-clause-figures : goal.returns-clause-figures
returns-clause-figures g c = figures_ignore_order g.T.Stations.sim
