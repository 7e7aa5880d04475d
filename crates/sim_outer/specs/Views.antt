-- What contracts see of inputs and sinks.
use Rattle.std.specs.Prelude.{ℕ, List, Option}
use Rattle.sim_outer.specs.Files.{Files}

-- the bytes that a sink took, if known, the count of faults, and the count of calls, if known
pub record SinkView : Type 0 where
  pub bytes : Option (List ℕ)
  pub faults : ℕ
  pub calls : Option ℕ

-- the files, if known, and the counts
pub record InputsView : Type 0 where
  pub files : Option Files
  pub faults : ℕ
  pub calls : Option ℕ
