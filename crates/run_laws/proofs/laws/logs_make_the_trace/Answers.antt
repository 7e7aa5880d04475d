use Rattle.run_laws.proofs.Traces.{trace_of_logs, merge_of_logs-trace}
use Rattle.run_laws.proofs.laws.logs_make_the_trace.Goals as goal

pub returns-clause-of_logs : goal.returns-clause-of_logs
returns-clause-of_logs g c = λ k front es there sorted from all.
    trace_of_logs g.T.Stations.lawful g.T.Stations.to_stations g.met.T.NumberingStations.fresh k front there es sorted
    from all

pub returns-clause-merge : goal.returns-clause-merge
returns-clause-merge g c = λ k front there. merge_of_logs-trace g.T.Stations.lawful g.T.Stations.to_stations
    g.met.T.NumberingStations.fresh k front there
