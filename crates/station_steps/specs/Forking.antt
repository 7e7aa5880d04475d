-- A fork at all stations: the new clone joins the old one in its copy of each.
use Rattle.std.specs.Prelude.{◌≡◌, ℕ, List, length, slice_get, Some, true, false}
use Rattle.std.specs.List.{AllZip}
use Rattle.clone_sets.specs.Sets.{has, with}
use Rattle.net_model.specs.Net.{Net}
use Rattle.stations.specs.Runs.{simulation}
use Rattle.run_laws.specs.Copies.{IsForked}
use Rattle.phys_proc.specs.Procs.{ProcView, IsProc}

-- the new clone has joined the old one at this station, and nothing else changed
pub record HasForked (old new : ℕ) (p q : ProcView) : Type 0 where
  pub copies : (net : Net) (ends : ℕ → ℕ) → IsProc net p
      → AllZip (IsForked (simulation net) has ends old new) p.copies q.copies
  pub proc : (net : Net) → IsProc net p → IsProc net q
  pub station : q.station ≡ p.station
  pub living : q.living ≡ with p.living new
  pub once : q.handled ≡ p.handled

-- the same at every station
pub record AllForked (old new : ℕ) (olds news : List ProcView) : Type 0 where
  pub count : length news ≡ length olds
  pub each : (i : ℕ) (p q : ProcView) → slice_get olds i ≡ Some p → slice_get news i ≡ Some q → HasForked old new p q

-- the clone lives at every station
abbrev pub LivesAtAll : ℕ → List ProcView → Type 0
LivesAtAll c procs = (i : ℕ) (p : ProcView) → slice_get procs i ≡ Some p → has p.living c ≡ true

-- the clone lives at no station
abbrev pub LivesNowhere : ℕ → List ProcView → Type 0
LivesNowhere c procs = (i : ℕ) (p : ProcView) → slice_get procs i ≡ Some p → has p.living c ≡ false
