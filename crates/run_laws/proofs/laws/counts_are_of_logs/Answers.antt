use Rattle.run_laws.proofs.Gaining.{copies_are_logs}
use Rattle.run_laws.proofs.laws.counts_are_of_logs.Goals as goal

pub returns : goal.returns
returns g c = record {
  copies = λ w cs front s old st.
      copies_are_logs g.T.Stations.lawful w.joins cs s front old st w.same w.tells;
}
