use Rattle.run_laws.proofs.FewGains.{few_gains, few_gains_together}
use Rattle.run_laws.proofs.laws.gains_are_few.Goals as goal

pub returns : goal.returns
returns g c = record {
  copy = λ has ends s bound n size r sent good sorted clones h.
      few_gains g.T.Stations.lawful has ends s bound r sent good sorted n size clones h;
  copies = λ has ends s bound n size old ready sized h.
      few_gains_together g.T.Stations.lawful has ends s bound size old n ready sized h;
}
