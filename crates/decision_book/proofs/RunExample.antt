-- The worked journal of decisions during a run is right.
use Rattle.std.proofs.Common.{refl, arith}
use Rattle.stations.specs.Examples.OneDesk.{one_desk}
use Rattle.decision_book.specs.Examples.{during_a_run}
use Rattle.decision_book.specs.Right.{IsRight}

-- its fronts rise up to the horizon, and each reply is the one of the table
pub during_a_run-right : IsRight one_desk during_a_run
during_a_run-right = (
  (omega arith, omega arith),
  (
    (omega arith, omega arith),
    (
      (omega arith, omega arith),
      (
        record { fronts = refl; answer = refl; not_full = λ full. cc },
        (
          record { fronts = refl; answer = refl; not_full = λ full. cc },
          (
            record { fronts = refl; answer = refl; not_full = λ full. cc },
            (
              (omega arith, omega arith),
              (
                (omega arith, omega arith),
                (
                  (omega arith, omega arith),
                  (
                    (omega arith, omega arith),
                    (record { fronts = refl; answer = refl; not_full = λ full. cc }, tt),
                  ),
                ),
              ),
            ),
          ),
        ),
      ),
    ),
  ),
)
