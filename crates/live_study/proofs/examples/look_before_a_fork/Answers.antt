use Rattle.std.proofs.Common.{◌≡◌, inr, refl, ◌∙◌, arith, [], ◌∷◌, drop}
use Rattle.sim_base.specs.Clones.{base}
use Rattle.stations.specs.Examples.OneDesk.{desk}
use Rattle.decision_book.specs.Examples.{during_a_run}
use Rattle.decision_book.specs.Journal.{NewFront}
use Rattle.live_study.proofs.LookExample.{one_at_10, seen_at_10}
use Rattle.live_study.proofs.examples.look_before_a_fork.Goals as goal

pub returns-clause-alone : goal.returns-clause-alone
returns-clause-alone c = record {
  unknown = tt;
  known = (
    desk,
    refl,
    record {
      clones = base ∷ [];
      at = inr (NewFront 5 ∷ NewFront 7 ∷ [], (drop 3 during_a_run, refl), refl);
      many = refl;
      found = record { unknown = tt; found = (0, refl, seen_at_10) };
    },
  );
}

pub returns-clause-forked : goal.returns-clause-forked
returns-clause-forked c = λ h.
    let t = h.known.2 in
    let never : 2 ≡ 1 = t.many ∙ one_at_10 t.clones t.at in omega (arith, never)
