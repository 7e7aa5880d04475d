-- The work of a run, in steps: one for each message that is handled.
use Rattle.std.specs.Prelude.{ℕ, ◌+◌, ◌≤◌}
use Rattle.net_model.specs.Net.{Net}
use Rattle.world_core.specs.Overs.{most_handled}

-- the steps rose by no more than the greatest number of messages that the stations may handle for this number of clones
abbrev pub IsFew : Net → ℕ → ℕ → ℕ → Type 0
IsFew net clones old_steps new_steps = new_steps ≤ old_steps + most_handled net clones
