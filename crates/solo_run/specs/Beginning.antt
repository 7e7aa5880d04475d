-- The start of a one-thread run.
use Rattle.std.specs.Prelude.{◌≡◌, ℕ, ◌+◌, List, length, slice_get, Option, Some, None}
use Rattle.sim_base.specs.Order.{msg_cmp}
use Rattle.run_laws.specs.Queue.{insert}
use Rattle.net_model.specs.Net.{Net}
use Rattle.sim_base.specs.declared.message.Msg.{Msg}
use Rattle.stations.specs.Fits.{FitsState, SuitsNet}
use Rattle.stations.specs.Handling.{StateView}
use Rattle.stations.specs.Opening.{setup}

-- the state at index i is the opening state of station i + 1
pub record IsOpeningState (net : Net) (i : ℕ) (st : StateView) : Type 0 where
  pub is : st ≡ (setup net (i + 1)).state
  pub fits : FitsState st
  pub suits : SuitsNet net st

-- the opening states of the stations 1 to n
pub record AreOpeningStates (net : Net) (n : ℕ) (states : List StateView) : Type 0 where
  pub count : length states ≡ n
  pub each : (i : ℕ) (st : StateView) → slice_get states i ≡ Some st → IsOpeningState net i st

-- the first message of a station, if any, becomes pending
abbrev pub with_first : Option Msg → List Msg → List Msg
with_first None q = q
with_first (Some m) q = insert msg_cmp m q
