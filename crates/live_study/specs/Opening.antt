-- What a live run of a script begins with, and what is reserved for its end.
use Rattle.std.specs.Prelude.{◌≡◌, ℕ, zero, suc, ◌+◌, ◌≤◌, List, [], ◌∷◌, ◌++◌, length, vec_capacity}
use Rattle.std.specs.List.{All, AllByRecursion}
use Rattle.atomic_table.specs.Seated.{TableId}
use Rattle.net_model.specs.Net.{Net}
use Rattle.decision_desk.specs.Desks.{desk_id}
use Rattle.decision_desk.specs.Passes.{new_helm, new_passes}
use Rattle.phys_proc.specs.Racks.{RackView}
use Rattle.shelf.specs.Racks.{OneEach}
use Rattle.world_core.specs.Worlds.{WorldView, opening_world}
use Rattle.live_study.specs.declared.prepared.Prepared.{Prepared}
use Rattle.live_study.specs.declared.reserve.Reserve.{Reserve}
use Rattle.live_study.specs.Asking.{SeatedAnalyst}
use Rattle.live_study.specs.Showing.{MayAct}

-- 1 .. n
abbrev pub numbers_to : ℕ → List ℕ
numbers_to zero = []
numbers_to (suc n) = numbers_to n ++ (n + 1) ∷ []

-- an analyst that has seen nothing, with memory reserved for all its looks, at a seat that shows the opening racks
pub record IsFresh (opening : List RackView) (a : SeatedAnalyst) : Type 0 where
  pub quiet : a.0.looks.items ≡ []
  pub reserved : a.0.looks.reserved ≡ length a.0.todo.items
  pub seat : a.1 ≡ opening

-- analysts that have done nothing yet, with memory reserved for their looks, each at a seat with a rack of each station
abbrev pub AreReadyAll : TableId → Net → List SeatedAnalyst → Type 0
AreReadyAll desk net seated = All (MayAct desk net) seated

-- a rack of the world as it is now
pub record IsRackNow (w : WorldView) (r : RackView) : Type 0 where
  pub net : r.net ≡ w.net
  pub clones : r.clones ≡ w.clones
  pub front : r.front ≡ w.front

-- one of each of the first stations, in order
pub record AreOpeningRacks (w : WorldView) (many : ℕ) (racks : List RackView) : Type 0 where
  pub many_is : length racks ≡ many
  pub each : OneEach racks
  pub now : AllByRecursion (IsRackNow w) racks

-- what is reserved for the end: nothing in it yet, and free places for what this number of analysts leaves
pub record HasReservedFor (many : ℕ) (reserve : Reserve) : Type 0 where
  pub no_passes : reserve.passes.items ≡ []
  pub no_looks : reserve.looks.items ≡ []
  pub for_passes : many ≤ vec_capacity reserve.passes
  pub for_looks : many ≤ vec_capacity reserve.looks

-- all that this number of analysts begins with over a network
pub record IsPrepared (net : Net) (many : ℕ) (p : Prepared) : Type 0 where
  pub world : p.world ≡ opening_world net
  pub racks : AreOpeningRacks p.world (length net.sites) p.racks.items
  pub passes : p.passes.items ≡ new_passes (desk_id p.desk) net many
  pub helm : p.helm ≡ new_helm (desk_id p.desk) net many
  pub reserve : HasReservedFor many p.reserve
