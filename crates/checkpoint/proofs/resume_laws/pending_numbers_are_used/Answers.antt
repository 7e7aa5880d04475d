use Rattle.checkpoint.proofs.UsedNumbers.{pending_numbers_are_used_in_runs}
use Rattle.checkpoint.proofs.resume_laws.pending_numbers_are_used.Goals as goal

pub returns : goal.returns
returns g c =
    pending_numbers_are_used_in_runs g.T.Stations.lawful g.T.Stations.to_stations g.met.T.NumberingStations.fresh
