use Rattle.std.proofs.Common.{refl, lit<}
use Rattle.sim_draw.specs.Drawing.{word, generator, state_after}
use Rattle.run_laws.specs.Machine.{run_to}
use Rattle.stations.specs.Handling.{handle}
use Rattle.stations.proofs.examples.fronts_of_two_branches.Goals as goal

pub returns-clause-alone : goal.returns-clause-alone
unfolding run_to handle word generator state_after
returns-clause-alone c = (
  lit< tt,
  refl,
  (lit< tt, refl, (lit< tt, refl, (lit< tt, refl, (lit< tt, refl, (lit< tt, refl, (lit< tt, refl, refl)))))),
)

pub returns-clause-both : goal.returns-clause-both
unfolding run_to handle word generator state_after
returns-clause-both c = (
  lit< tt,
  refl,
  (lit< tt, refl, (lit< tt, refl, (lit< tt, refl, (lit< tt, refl, (lit< tt, refl, (lit< tt, refl, refl)))))),
)

pub returns-clause-quick : goal.returns-clause-quick
unfolding run_to handle word generator state_after
returns-clause-quick c = (lit< tt, refl, (lit< tt, refl, (lit< tt, refl, (lit< tt, refl, refl))))
