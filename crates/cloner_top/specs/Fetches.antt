-- What fetches leave of the inputs.
use Rattle.std.specs.Prelude.{◌≡◌, ◌≤◌, ℕ, OnOk, Result}
use Rattle.sim_outer.specs.Counts.{AreCounted}
use Rattle.sim_outer.specs.Views.{InputsView}

-- `n` texts were fetched; the count of faults did not fall, and the files are the same
pub record HasFetched (n : ℕ) (before after : InputsView) : Type 0 where
  pub later : before.faults ≤ after.faults
  pub same : after.files ≡ before.files
  pub counted : AreCounted n before.calls after.calls

-- the same for at most `n` texts, and for all `n` if the result is Ok
pub record HasFetchedUpTo {T E : Type 0} (n : ℕ) (before after : InputsView) (result : Result T E) : Type 0 where
  pub later : before.faults ≤ after.faults
  pub same : after.files ≡ before.files
  pub all : OnOk result (AreCounted n before.calls after.calls)
  pub at_most : (k : ℕ) × ((k ≤ n) × AreCounted k before.calls after.calls)
