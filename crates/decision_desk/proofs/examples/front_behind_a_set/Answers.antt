use Rattle.std.proofs.Common.{◌≡◌, refl, arith}
use Rattle.sim_draw.specs.Drawing.{word, generator, state_after}
use Rattle.run_laws.specs.Machine.{run_to}
use Rattle.stations.specs.Handling.{handle}
use Rattle.decision_book.proofs.RunExample.{during_a_run-right}
use Rattle.decision_desk.proofs.examples.front_behind_a_set.Goals as goal

pub returns-clause-next : goal.returns-clause-next
unfolding run_to handle word generator state_after
returns-clause-next c = record {
  right = during_a_run-right;
  fronts = (refl, (refl, (refl, (tt, (tt, (tt, (refl, (refl, (refl, (refl, (tt, tt)))))))))));
}

pub returns-clause-later : goal.returns-clause-later
unfolding run_to handle word generator state_after
returns-clause-later c = λ h. let never : 13 ≡ 12 = h.fronts.1.1.1.1.1.1.0 in omega arith

pub returns-clause-sooner : goal.returns-clause-sooner
unfolding run_to handle word generator state_after
returns-clause-sooner c = λ h. let never : 11 ≡ 12 = h.fronts.1.1.1.1.1.1.0 in omega arith
