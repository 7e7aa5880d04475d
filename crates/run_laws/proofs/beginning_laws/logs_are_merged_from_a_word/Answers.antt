use Rattle.run_laws.proofs.BeginningTraces.{merged_from}
use Rattle.run_laws.proofs.beginning_laws.logs_are_merged_from_a_word.Goals as goal

pub returns : goal.returns
returns g c = record {
  merged = λ word k w there.
      merged_from g.T.Stations.lawful g.T.Stations.to_stations g.met.T.NumberingStations.fresh k there word w;
}
