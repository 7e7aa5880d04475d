use Rattle.run_laws.proofs.NextFronts.{next_front-far, next_front-rises, fronts-rise, fronts-go_on, fronts-unique}
use Rattle.run_laws.proofs.laws.fronts_reach_the_horizon.Goals as goal

pub returns-clause-far : goal.returns-clause-far
returns-clause-far g c = next_front-far g.T.Stations.lawful

pub returns-clause-rises : goal.returns-clause-rises
returns-clause-rises g c = next_front-rises g.T.Stations.lawful

pub returns-clause-to_horizon : goal.returns-clause-to_horizon
returns-clause-to_horizon g c = fronts-rise g.T.Stations.lawful

pub returns-clause-go_on : goal.returns-clause-go_on
returns-clause-go_on g c = fronts-go_on g.T.Stations.lawful

pub returns-clause-one_list : goal.returns-clause-one_list
returns-clause-one_list g c = fronts-unique g.T.Stations.sim
