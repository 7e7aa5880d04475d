-- A copy takes a message that is not among its pending ones.
use Rattle.std.specs.Prelude.{◌≡◌, ◌∷◌, [], ◌++◌, ℕ, ◌+◌, ◌<◌, List}
use Rattle.sim_base.specs.declared.message.Msg.{Msg}
use Rattle.sim_base.specs.declared.entry.Line.{Line}
use Rattle.net_model.specs.Net.{Net}
use Rattle.net_model.specs.Rules.{IsNet}
use Rattle.stations.specs.Fits.{FitsState, SuitsNet}
use Rattle.stations.specs.Handling.{handle}
use Rattle.phys_proc.specs.Own.{StationCopy, MarkedMessages, pending_after, sent_after}

-- a copy of station s may take this message: it is for the station and before the horizon, and the log is below the
-- limit
pub record MayTake (net : Net) (s : ℕ) (m : Msg) (a : StationCopy) : Type 0 where
  pub valid : IsNet net
  pub suits : SuitsNet net a.state
  pub station : a.state.sender.station ≡ s
  pub target : m.to ≡ s
  pub below : a.state.handled < net.limit
  pub time_max : m.key.time < net.horizon

-- the copy `old` has become `new`: its station has handled the message and logged it, its own sends are pending, and
-- the others are laid aside
pub record HasTaken (net : Net) (s : ℕ) (m : Msg) (old new : StationCopy) (before after : MarkedMessages) : Type 0 where
  pub set : new.set ≡ old.set
  pub sends : List Msg
  pub line : Line
  pub handles : handle net old.state m ≡ record { state = new.state; sends = sends; line = line }
  pub log : new.log ≡ old.log ++ record { msg = m; line = line } ∷ []
  pub pending : new.pending ≡ pending_after s old.set sends old.pending
  pub aside : after ≡ sent_after s old.set sends before
  pub fits : FitsState new.state
  pub suits : SuitsNet net new.state
  pub station : new.state.sender.station ≡ old.state.sender.station
  pub handled : new.state.handled ≡ old.state.handled + 1
