-- What analysts have done at their seats, and what the engine has published.
use Rattle.std.specs.Prelude.{◌≡◌, ℕ, ◌<◌, ◌≤◌, Bool, true, List, [], ◌∷◌, ◌++◌, length, map, slice_index_or}
use Rattle.std.specs.List.{AllByRecursion}
use Rattle.atomic_table.specs.Seated.{TableId}
use Rattle.net_model.specs.Net.{Net}
use Rattle.decision_script.specs.declared.item.Act.{Act}
use Rattle.decision_book.specs.declared.call.Call.{Call}
use Rattle.decision_book.specs.Journal.{NewFront, NewCall}
use Rattle.decision_desk.specs.Passes.{HelmView}
use Rattle.phys_proc.specs.Racks.{RackView}
use Rattle.world_core.specs.Worlds.{WorldView}
use Rattle.live_study.specs.declared.analyst.Analyst.{Analyst}
use Rattle.live_study.specs.Asking.{HasAskedNothing, IsDone, IsSameAnalyst, SeatedAnalyst}
use Rattle.live_study.specs.Looks.{AreAllAt, AreOfOneHistory, HasRacks, IsRackOf, IsReadLook, NeverFall, look_of}
use Rattle.live_study.specs.Scripts.{AskedLook, looks_in}

-- an analyst that has made the looks of these acts, each of them at a beginning of what its seat has read, and none at
-- an earlier front than one of the same station before it
pub record HasLooked (net : Net) (acts : List Act) (a : SeatedAnalyst) : Type 0 where
  pub asked : map look_of a.0.looks.items ≡ looks_in a.0.number acts
  pub read : AllByRecursion (IsReadLook net a.1) a.0.looks.items
  pub rise : NeverFall a.0.looks.items
  pub has_rack : HasRacks net a.1

-- with memory reserved for the looks of all its acts
abbrev pub HasReserved : Analyst → Type 0
HasReserved a = length a.todo.items ≤ a.looks.reserved

-- an analyst at its seat that has asked nothing and looked at nothing yet, with memory reserved for its looks
abbrev pub MayAct : TableId → Net → SeatedAnalyst → Type 0
MayAct desk net a = HasAskedNothing desk a.0 × HasLooked net [] a × HasReserved a.0

-- and that has done since all that it has to do
pub record HasActed (desk : TableId) (net : Net) (old new : SeatedAnalyst) : Type 0 where
  pub done : IsDone desk new.0
  pub looked : HasLooked net new.0.todo.items new
  pub same : IsSameAnalyst old.0 new.0

-- and so all of them, in order
pub record HaveActed (desk : TableId) (net : Net) (old new : List SeatedAnalyst) : Type 0 where
  pub len : length new ≡ length old
  pub each : (i : ℕ) (d : SeatedAnalyst) → i < length old
      → HasActed desk net (slice_index_or old i d) (slice_index_or new i d)

-- what is published: each is a rack of the helm's journal, at a front up to the world's; each station has one, which at
-- the horizon, for this number of stations, is at the horizon
pub record AreShownUpTo (h : HelmView) (w : WorldView) (done : ℕ) (published : List RackView) : Type 0 where
  pub racks : AllByRecursion (IsRackOf h.net h.helm) published
  pub time_max : AllByRecursion (λ q. q.front ≤ w.front) published
  pub has_rack : HasRacks w.net published
  pub last : w.front ≡ w.net.horizon → AreAllAt done w.front published

-- the same for all stations
abbrev pub AreShownOf : HelmView → WorldView → List RackView → Type 0
AreShownOf h w published = AreShownUpTo h w (length w.net.sites) published

-- the same while the racks of a front are published: this number of stations is done
pub record AreShownTo (h : HelmView) (w : WorldView) (done : ℕ) (published : List RackView) : Type 0 where
  pub up_to : AreShownUpTo h w done published
  pub below : AllByRecursion (λ q. done < q.station → q.front < w.front) published

-- a helm that raised its front to this one after calls
pub record Raises (old new : HelmView) (front : ℕ) : Type 0 where
  pub calls : List Call
  pub helm : new.helm ≡ (old.helm ++ map NewCall calls) ++ NewFront front ∷ []

-- what each of them has to look at, in order
abbrev pub looks_to_make : List SeatedAnalyst → List (List AskedLook)
looks_to_make as' = map (λ a. looks_in a.0.number a.0.todo.items) as'

-- what each of them has read is of one history with what was published
abbrev pub AllReadOneHistory : List RackView → List SeatedAnalyst → Type 0
AllReadOneHistory published as' = AllByRecursion (λ a. AreOfOneHistory published a.1) as'

-- something was published, and there is a handle to tell each reader of it
abbrev pub TellsEach : ℕ → Bool → ℕ → Type 0
TellsEach readers has_published spares = (has_published ≡ true) × (spares ≡ readers)
