-- One window of a world, to its next front.
use Rattle.std.specs.Prelude.{◌≡◌, ℕ, ◌+◌, ◌<◌, Result, IfOk, IfErr}
use Rattle.net_model.specs.Rules.{IsNet}
use Rattle.stations.specs.Runs.{next_front}
use Rattle.world_core.specs.Overs.{IsFault, NoneBeyond}
use Rattle.world_core.specs.Worlds.{WorldView, total_handled}
use Rattle.world_core.specs.declared.world.WorldFault.{WorldFault}

-- the next front of a world's clones
abbrev pub front_after : WorldView → ℕ
front_after w = next_front w.net w.clones w.front

-- the world is at the horizon
abbrev pub IsAtHorizon : WorldView → Type 0
IsAtHorizon w = w.front ≡ w.net.horizon

-- the result of the next window of a world before the horizon, and the steps after it: the world at its next front with
-- no log beyond the limit, each shared message counted once; or a fault
pub record IsWindow (w : WorldView) (old_steps : ℕ) (window : Result WorldView WorldFault) (new_steps : ℕ) :
    Type 0 where
  pub valid : IsNet w.net
  pub below : w.front < w.net.horizon
  pub at_front : IfOk window (λ v. v ≡ record w { front = front_after w })
  pub length_max : IfOk window (λ v. NoneBeyond w.net w.clones (front_after w))
  pub steps : IfOk window (λ v.
      new_steps + total_handled w.net w.clones w.front ≡ old_steps + total_handled w.net w.clones (front_after w))
  pub fault : IfErr window (λ e. IsFault w.net w.clones w.front (front_after w) old_steps new_steps e)
