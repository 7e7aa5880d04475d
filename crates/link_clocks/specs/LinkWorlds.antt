-- A world whose stations follow the clocks of their inbound links, and the stations' copies of the clones.
use Rattle.std.specs.Prelude.{ℕ, suc, List}
use Rattle.sim_base.specs.Clones.{Clone}
use Rattle.net_model.specs.Net.{Net}
use Rattle.phys_proc.specs.Procs.{ProcView}
use Rattle.world_core.specs.declared.world.WorldFault.{WorldFault}
use Rattle.world_core.specs.Cuts.{CutStands}
use Rattle.world_core.specs.Overs.{IsFaultAt, NoneBeyondAt}
use Rattle.world_core.specs.Worlds.{total_at}
use Rattle.link_clocks.specs.NetClocks.{clock, HasClocks}

-- what contracts see of a link world: its network, its clones with their decisions and ends, and the number of finished
-- rounds
pub record LinkView : Type 0 where
  pub net : Net
  pub clones : List Clone
  pub rounds : ℕ

-- the invariant of a link world: after its rounds the copies of every station represent the clones at the station's
-- clock
pub record LinkStands (net : Net) (cs : List Clone) (ended : List (ℕ × ℕ)) (k : ℕ) (now next : List ℕ)
    (procs : List ProcView) : Type 0 where
  pub stands : CutStands net cs ended (clock net k) procs
  pub clocks_are : HasClocks net k now next

-- the number of messages that the stations have handled, shared ones once, each up to its clock after k rounds
abbrev pub total_after : Net → List Clone → ℕ → ℕ
total_after net cs k = total_at net cs (clock net k)

-- no clone has a log beyond the limit at a station's clock after k rounds
abbrev pub NoneBeyondAfter : Net → List Clone → ℕ → Type 0
NoneBeyondAfter net cs k = NoneBeyondAt net cs (clock net k)

-- the causes of a round's fault: out of memory has none; a limit names the first log beyond it after the round, and
-- then at most the limit was handled for each clone at each station
abbrev pub IsRoundFault : Net → List Clone → ℕ → ℕ → ℕ → WorldFault → Type 0
IsRoundFault net cs k old_steps new_steps e = IsFaultAt net cs (clock net k) (clock net (suc k)) old_steps new_steps e
