-- The states of stations that the laws of runs are about.
use Rattle.std.specs.Prelude.{◌≡◌, ℕ}
use Rattle.sim_base.specs.declared.message.Msg.{Msg}
use Rattle.net_model.specs.Net.{Net, site_of}
use Rattle.stations.specs.Fits.{GoodKind, IsOfKind}
use Rattle.stations.specs.Handling.{StateView}

-- a state of station s: it has the station's number and kind, and meets the invariant of its kind
pub record IsGood (net : Net) (s : ℕ) (st : StateView) : Type 0 where
  pub station : st.sender.station ≡ s
  pub kind : IsOfKind (site_of net s) (site_of net s).kind st.kind
  pub fits : GoodKind st.handled st.kind

-- the number of the next message that a station sends
abbrev pub next_number : StateView → ℕ
next_number st = st.sender.next

-- the sender of a message
abbrev pub sender_of : Msg → ℕ
sender_of m = m.key.sender

-- and its sequence number
abbrev pub number_of : Msg → ℕ
number_of m = m.key.number
