-- The tests of a pending message, one after the other, and the numbers of completions at the stations.
use Rattle.std.specs.Prelude.{◌≡◌, ℕ, ◌+◌, ◌<◌, ◌&&◌, nat_le, nat_lt, Bool, List, length, get_or, Option}
use Rattle.sim_base.specs.declared.message.Msg.{Msg}
use Rattle.net_model.specs.declared.limits.TheConstants.{MAX_STATIONS}
use Rattle.net_model.specs.Net.{Net}
use Rattle.stations.specs.declared.sender.TheConstants.{MAX_EVENT_TIMES}
use Rattle.checkpoint.specs.RunKeeps.{completions_to}
use Rattle.checkpoint.specs.Tally.{tally}
use Rattle.checkpoint.specs.Due.{comes_after}

-- whether a message comes after the last one, not before the front, and not too late
abbrev pub is_in_time : ℕ → Option Msg → Msg → Bool
is_in_time front last m = comes_after last m && (nat_le front m.key.time && nat_lt m.key.time MAX_EVENT_TIMES)

-- whether a message is for a station, and is from one or from an analyst
abbrev pub is_addressed : Net → Msg → Bool
is_addressed net m = (nat_lt 0 m.to && nat_le m.to (length net.sites)) && nat_le m.key.sender (length net.sites)

-- the number of completions at each station among these messages
pub record HasCounts (counts : List ℕ) (before : List Msg) : Type 0 where
  pub stations : length counts ≡ MAX_STATIONS
  pub each : (s : ℕ) → s < MAX_STATIONS → get_or counts s 0 ≡ tally (completions_to (s + 1)) before
