-- The range of a link's weight.
use Rattle.std.specs.Prelude.{ℕ, ◌≤◌}
use Rattle.sim_base.specs.declared.limits.TheConstants.{MAX_WEIGHT}

-- a weight is from 1 to MAX_WEIGHT
pub record IsWeight (weight : ℕ) : Type 0 where
  pub heavy : 1 ≤ weight
  pub light : weight ≤ MAX_WEIGHT
