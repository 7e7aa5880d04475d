-- Properties of the messages that a station sends.
use Rattle.std.specs.Prelude.{◌≡◌, ◌≢◌, ℕ, suc, ◌+◌, ◌<◌, ◌≤◌, List, [], ◌∷◌}
use Rattle.sim_base.specs.declared.message.Msg.{Msg}
use Rattle.sim_base.specs.declared.message.Payload.{Payload}
use Rattle.sim_base.specs.declared.message.Payload.TheVariants.{Job}
use Rattle.net_model.specs.Net.{Net, HasStation}

-- only jobs travel over links: ticks and service completions are a station's own
abbrev pub IsJob : Payload → Type 0
IsJob (Job job) = Unit {0}
IsJob _ = ⊥

-- a message that station s sends at `now` with the number k: it comes later, to an existing station. To another
-- station, and over any link, it comes later by the lookahead or more
pub record IsSend (net : Net) (now s k : ℕ) (m : Msg) : Type 0 where
  pub sender : m.key.sender ≡ s
  pub number : m.key.number ≡ k
  pub later : now < m.key.time
  pub far : m.to ≢ s → now + net.lookahead ≤ m.key.time
  pub on_link : IsJob m.payload → now + net.lookahead ≤ m.key.time
  pub is_station : HasStation net m.to

-- messages that station s sends at `now`, with the numbers from k on
abbrev pub AreSends : Net → ℕ → ℕ → ℕ → List Msg → Type 0
AreSends net now s k [] = Unit {0}
AreSends net now s k (m ∷ ms) = IsSend net now s k m × AreSends net now s (suc k) ms
