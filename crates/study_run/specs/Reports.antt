-- When a run has a report.
use Rattle.std.specs.Prelude.{◌≡◌}
use Rattle.net_model.specs.Net.{Net}
use Rattle.world_core.specs.Worlds.{WorldView}

-- a world of this model at the horizon, whose report may be made
pub record MayReport (model : Net) (w : WorldView) : Type 0 where
  pub net : w.net ≡ model
  pub ended : w.front ≡ model.horizon
