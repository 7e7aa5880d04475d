-- Why a copy stops.
use Rattle.std.specs.Prelude.{◌≡◌, ◌≢◌, ℕ, ◌≤◌, length}
use Rattle.sim_base.specs.declared.message.Msg.{Msg}
use Rattle.clone_sets.specs.declared.set.CloneSet.{CloneSet}
use Rattle.phys_proc.specs.Own.{StationCopy, NextDue, NothingDue}
use Rattle.phys_proc.specs.declared.advancing.Stop.{Stop}
use Rattle.phys_proc.specs.declared.advancing.Stop.TheVariants.{Settled, Full, Parts}

-- all its clones take a next message, and their log has as many entries as it may have
pub record IsFull (limit : ℕ) (ends : ℕ → ℕ) (bound : ℕ) (a : StationCopy) : Type 0 where
  pub msg : Msg
  pub takers : CloneSet
  pub due : NextDue ends bound a a msg takers
  pub all : takers ≡ a.set
  pub full : limit ≤ length a.log

-- some of its clones take a next message, and some do not
pub record IsParting (ends : ℕ → ℕ) (bound : ℕ) (a : StationCopy) (takers : CloneSet) : Type 0 where
  pub msg : Msg
  pub due : NextDue ends bound a a msg takers
  pub differ : takers ≢ a.set

-- and those that take it are these clones
abbrev pub IsStop : ℕ → (ℕ → ℕ) → ℕ → StationCopy → CloneSet → Stop → Type 0
IsStop limit ends bound a takers Settled = NothingDue ends bound a a
IsStop limit ends bound a takers Full = IsFull limit ends bound a
IsStop limit ends bound a takers Parts = IsParting ends bound a takers
