-- The state of a station under test.
use Rattle.std.specs.Prelude.{◌≡◌, ℕ}
use Rattle.net_model.specs.Net.{Net}
use Rattle.stations.specs.Fits.{SuitsNet}
use Rattle.stations.specs.Handling.{StateView}

-- this is a state of the station of this number
pub record IsStateOf (net : Net) (station : ℕ) (state : StateView) : Type 0 where
  pub suits : SuitsNet net state
  pub own : state.sender.station ≡ station
