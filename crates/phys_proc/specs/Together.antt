-- Messages that all clones of a copy take.
use Rattle.std.specs.Prelude.{◌≡◌, ℕ, ◌≤◌, ◌==◌, Bool, true, List, Option, None, Some}
use Rattle.sim_base.specs.declared.message.Msg.{Msg}
use Rattle.sim_base.specs.declared.entry.Line.{Line}
use Rattle.sim_base.specs.declared.entry.Entry.{Entry}
use Rattle.clone_sets.specs.Sets.{has}
use Rattle.clone_sets.specs.declared.set.CloneSet.{CloneSet}
use Rattle.stations.specs.Handling.{StateView}
use Rattle.copy_pending.specs.Merged.{CopyPendingView, messages_of}
use Rattle.phys_proc.specs.Own.{StationCopy}

-- a copy from its pending messages with its clones, its state and its log
abbrev pub copy_of : CopyPendingView → StateView → List (Entry Msg Line) → StationCopy
copy_of p st log = record { set = p.set; state = st; log = log; pending = messages_of p }

-- before this time, which is not after the bound, none of the clones ends
pub record AreAlive (ends : ℕ → ℕ) (bound together : ℕ) (set : CloneSet) : Type 0 where
  pub at_most : together ≤ bound
  pub alive : (c : ℕ) → has set c ≡ true → together ≤ ends c

-- whether a message, if there is one, is to this station
abbrev pub is_to : ℕ → Option Msg → Bool
is_to s None = true
is_to s (Some m) = m.to == s
