-- The view of a station for readers.
use Rattle.std.specs.Prelude.{◌≡◌, ◌↔◌, ℕ, ◌<◌, ◌≤◌, List, [], ◌∷◌, true, length, Option, Some, None, IfSome, IfNone}
use Rattle.std.specs.Prelude.{⊤}
use Rattle.std.specs.List.{AllByRecursion}
use Rattle.sim_base.specs.Clones.{Clone, clone_at, place_of}
use Rattle.sim_base.specs.declared.lists.TheConstants.{MAX_CLONES}
use Rattle.sim_base.specs.declared.message.Msg.{Msg}
use Rattle.sim_base.specs.declared.entry.Entry.{Entry}
use Rattle.sim_base.specs.declared.entry.Line.{Line}
use Rattle.clone_sets.specs.Sets.{has, size}
use Rattle.clone_sets.specs.declared.set.CloneSet.{CloneSet}
use Rattle.net_model.specs.Net.{Net}
use Rattle.stations.specs.Runs.{log_at}
use Rattle.run_laws.specs.Queue.{In}
use Rattle.phys_proc.specs.Own.{StationCopy}
use Rattle.phys_proc.specs.declared.rack.Found.{Found}

-- the view of a copy for readers: its clones and its log
pub record RackCopyView : Type 0 where
  pub set : CloneSet
  pub log : List (Entry Msg Line)

-- the view of this copy
abbrev pub view_of_copy : StationCopy → RackCopyView
view_of_copy a = record { set = a.set; log = a.log }

-- a rack: the network, the clones' lists, the station, a front, and the copies at that front
pub record RackView : Type 0 where
  pub net : Net
  pub clones : List Clone
  pub station : ℕ
  pub front : ℕ
  pub copies : List RackCopyView

-- no clone is in two of the copies
abbrev pub AreDisjoint : List RackCopyView → Type 0
AreDisjoint [] = ⊤
AreDisjoint (h ∷ copies) = AllByRecursion (λ k. (c : ℕ) → has h.set c ≡ true → ¬ (has k.set c ≡ true)) copies
    × AreDisjoint copies

-- each clone is in one copy, whose log is that of the clone alone up to the front. Clones with equal logs share one,
-- and each copy has a clone
pub record ShowsClones (net : Net) (cs : List Clone) (s front : ℕ) (copies : List RackCopyView) : Type 0 where
  pub at_most : length cs ≤ MAX_CLONES
  pub time_max : front ≤ net.horizon
  pub inhabited : (h : RackCopyView) → In h copies → (c : ℕ) × (has h.set c ≡ true)
  pub disjoint : AreDisjoint copies
  pub carried : (c : ℕ) → c < length cs → (h : RackCopyView) × In h copies × (has h.set c ≡ true)
  pub living : (h : RackCopyView) (c : ℕ) → In h copies → has h.set c ≡ true → c < length cs
  pub log : (h : RackCopyView) (c : ℕ) → In h copies → has h.set c ≡ true → h.log ≡ log_at net (clone_at cs c) s front
  pub shared : (h k : RackCopyView) (c d : ℕ) → In h copies → In k copies → has h.set c ≡ true → has k.set d ≡ true →
      log_at net (clone_at cs c) s front ≡ log_at net (clone_at cs d) s front → h ≡ k

-- the clones whose logs equal that of clone c
abbrev pub IsClassOf : Net → List Clone → ℕ → ℕ → ℕ → CloneSet → Type 0
IsClassOf net cs s front c k = (d : ℕ) →
    (has k d ≡ true) ↔ ((d < length cs) × (log_at net (clone_at cs d) s front ≡ log_at net (clone_at cs c) s front))

-- the number of messages that clone c has handled, and the number of clones that share its log
pub record IsSeen (net : Net) (cs : List Clone) (s front c handled shared : ℕ) : Type 0 where
  pub log : handled ≡ length (log_at net (clone_at cs c) s front)
  pub class : CloneSet
  pub is_class : IsClassOf net cs s front c class
  pub size : shared ≡ size class

-- the data that was found of the clone with this name
abbrev pub IsFoundOf : Net → List Clone → ℕ → ℕ → List ℕ → Found → Type 0
IsFoundOf net cs s front who f = (c : ℕ) × (place_of who cs ≡ Some c) × IsSeen net cs s front c f.handled f.shared

-- the clone with this name is found, unless there is none
pub record FindsClone (net : Net) (cs : List Clone) (s front : ℕ) (who : List ℕ) (o : Option Found) : Type 0 where
  pub unknown : IfNone o (place_of who cs ≡ None)
  pub found : IfSome o (λ f. IsFoundOf net cs s front who f)
