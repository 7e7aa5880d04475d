-- The numbers of a run's pending messages.
use Rattle.run_laws.proofs.Numbers.{used_numbers-run}
use Rattle.run_laws.specs.Handlers.{HandlesLawfully, SendsToStations, HandlesFreshly}
use Rattle.run_laws.specs.Simulation.{Simulation}
use Rattle.checkpoint.specs.Numbers.{PendingNumbersAreUsedInRuns}
use Rattle.std.proofs.Common.{ℕ, inr}

module _ {S M N : Type 0} {sim : Simulation S M N} {Good : ℕ → S → Type 0} {sender number : M → ℕ} {next : S → ℕ}
    (law : HandlesLawfully sim Good) (stations : SendsToStations sim Good)
    (fresh : HandlesFreshly sim Good sender number next) where
  -- the messages of a run have used numbers, so its pending messages have
  pub pending_numbers_are_used_in_runs : PendingNumbersAreUsedInRuns sim sender number next
  pending_numbers_are_used_in_runs plans front there =
      let h = used_numbers-run law stations fresh plans front there in
      record { used = λ z i. h.used z (inr i); to_station = h.to_station }
