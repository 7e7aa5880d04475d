-- Why a run has no result.
use Rattle.std.specs.Prelude.{◌≡◌, ℕ, List, length}
use Rattle.sim_base.specs.Clones.{Clone, clone_at}
use Rattle.net_model.specs.Net.{Net}
use Rattle.world_core.specs.declared.world.WorldFault.{WorldFault}
use Rattle.world_core.specs.declared.world.WorldFault.TheVariants as window
use Rattle.study_run.specs.Limits.{MeetsLimit, MeetsLimitAlone, until}
use Rattle.study_run.specs.Work.{IsFew}
use Rattle.study_run.specs.declared.fault.StudyFault.{StudyFault}
use Rattle.study_run.specs.declared.fault.StudyFault.TheVariants.{NoMemory, LimitMet}

-- the fault of a run in which a window has this fault
abbrev pub fault_of_window : WorldFault → StudyFault
fault_of_window window.NoMemory = NoMemory
fault_of_window (window.EventLimit station who kept) = LimitMet station who

-- the run of all clones stops at the limit, and no more was handled than the limit allows
pub record StopsAll (net : Net) (clones : List Clone) (old_steps new_steps station who : ℕ) : Type 0 where
  pub meets : MeetsLimit net clones station who
  pub at_most : IsFew net (length clones) old_steps new_steps

-- the causes of a fault of all clones: out of memory has none
abbrev pub IsFaultOfAll : Net → List Clone → ℕ → ℕ → StudyFault → Type 0
IsFaultOfAll net clones old_steps new_steps NoMemory = Unit {0}
IsFaultOfAll net clones old_steps new_steps (LimitMet station who) = StopsAll net clones old_steps new_steps station who

-- the run of the clone at this place stops at the limit, and no more was handled than the limit allows
pub record StopsAlone (net : Net) (clone : Clone) (place old_steps new_steps station who : ℕ) : Type 0 where
  pub meets : MeetsLimitAlone net clone station
  pub is_it : who ≡ place
  pub at_most : IsFew net 1 old_steps new_steps

-- the causes of a fault of one clone: out of memory has none
abbrev pub IsFaultAlone : Net → List Clone → ℕ → ℕ → ℕ → StudyFault → Type 0
IsFaultAlone net clones c old_steps new_steps NoMemory = Unit {0}
IsFaultAlone net clones c old_steps new_steps (LimitMet station who) =
    StopsAlone net (clone_at clones c) c old_steps new_steps station who

-- the same for the clone until a time
abbrev pub IsFaultUntil : Net → ℕ → List Clone → ℕ → ℕ → ℕ → StudyFault → Type 0
IsFaultUntil net time clones c old_steps new_steps NoMemory = Unit {0}
IsFaultUntil net time clones c old_steps new_steps (LimitMet station who) =
    StopsAlone net (until net time (clone_at clones c)) c old_steps new_steps station who
