use Rattle.run_laws.proofs.BeginningParts.{parts_join}
use Rattle.run_laws.proofs.BeginningTraces.{beginning_is_kept}
use Rattle.run_laws.proofs.beginning_laws.beginnings_are_kept.Goals as goal

pub returns-clause-kept : goal.returns-clause-kept
returns-clause-kept g c = λ word k d t w there follow h same.
    beginning_is_kept g.T.Stations.lawful g.T.Stations.to_stations g.met.T.NumberingStations.fresh word k d t w there
    follow h same

pub returns-clause-join : goal.returns-clause-join
returns-clause-join g c = λ word xs a b l s. parts_join word xs a b l s
