-- Why a text is not written.
use Rattle.std.specs.Prelude.{ℕ, ◌<◌, List, length}
use Rattle.sim_base.specs.declared.limits.TheConstants.{MAX_FILE_BYTES}
use Rattle.study_run.specs.declared.saving.SaveFault.{SaveFault}
use Rattle.study_run.specs.declared.saving.SaveFault.TheVariants.{NoMemory, TooLong, LimitMet}

-- out of memory has no cause, and a text that is too long is longer than a file may be
abbrev pub IsUnwritten : List ℕ → SaveFault → Type 0
IsUnwritten text NoMemory = Unit {0}
IsUnwritten text TooLong = MAX_FILE_BYTES < length text
IsUnwritten text (LimitMet station) = ⊥
