-- The stations before anything was handled.
use Rattle.std.specs.Prelude.{◌≡◌, ℕ, ◌+◌, List, [], ◌∷◌, slice_get, Some}
use Rattle.clone_sets.specs.Sets.{one}
use Rattle.net_model.specs.Net.{Net}
use Rattle.stations.specs.Runs.{simulation}
use Rattle.run_laws.specs.Copies.{first_copy}
use Rattle.phys_proc.specs.Procs.{ProcView}
use Rattle.station_steps.specs.Windows.{IsNumbered}

-- place i has one copy: the station as it opens for the first clone, before it handles anything
pub record IsFirstProc (net : Net) (i : ℕ) (p : ProcView) : Type 0 where
  pub station : IsNumbered net i p
  pub copies : p.copies ≡ first_copy (simulation net) (one 0) (i + 1) ∷ []
  pub living : p.living ≡ one 0
  pub once : p.handled ≡ 0

-- the same at every place
abbrev pub AreFirst : Net → List ProcView → Type 0
AreFirst net procs = (i : ℕ) (p : ProcView) → slice_get procs i ≡ Some p → IsFirstProc net i p
