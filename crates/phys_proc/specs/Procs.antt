-- All copies of a station.
use Rattle.std.specs.Prelude.{◌≡◌, ◌≢◌, ◌⊎◌, ℕ, ◌≤◌, List, Option, Some}
use Rattle.std.specs.List.{AllByRecursion}
use Rattle.sim_base.specs.declared.message.Msg.{Msg}
use Rattle.clone_sets.specs.Sets.{has, empty}
use Rattle.clone_sets.specs.declared.set.CloneSet.{CloneSet}
use Rattle.net_model.specs.Net.{Net, HasStation}
use Rattle.net_model.specs.Rules.{IsNet}
use Rattle.run_laws.specs.Queue.{In}
use Rattle.run_laws.specs.FrontLaws as laws
use Rattle.run_laws.specs.Fronts.{earlier}
use Rattle.run_laws.specs.Copies.{Carries, Disjoint}
use Rattle.phys_proc.specs.Own.{StationCopy, IsCopy, IsLowerBound, IsLowerBoundOfAll, all_clones, handled_alone_by}
use Rattle.phys_proc.specs.Own.{taken_at}

-- the view of a station's copies in contracts: the station's number, the living clones, the number of messages handled,
-- and the copies. A message counts once for all clones of a copy
pub record ProcView : Type 0 where
  pub station : ℕ
  pub living : CloneSet
  pub handled : ℕ
  pub copies : List StationCopy

-- the copies partition the living clones: no copy is empty, and each clone is in one copy
pub record AreShared (living : CloneSet) (copies : List StationCopy) : Type 0 where
  pub inhabited : AllByRecursion (λ a. a.set ≢ empty) copies
  pub disjoint : Disjoint has copies
  pub together : all_clones copies ≡ living

-- they partition the living clones, and the number handled once is at most the number that the clones would have
-- handled alone
pub record KeepsShares (p : ProcView) : Type 0 where
  pub shares : AreShared p.living p.copies
  pub once : p.handled ≤ handled_alone_by p.copies

-- they are copies of a station of the network, each with the state of the replay of its log
pub record IsProc (net : Net) (p : ProcView) : Type 0 where
  pub valid : IsNet net
  pub is_station : HasStation net p.station
  pub copies : AllByRecursion (IsCopy net p.station) p.copies

-- a message that clone c of a copy takes
pub record IsTakenBy (ends : ℕ → ℕ) (copies : List StationCopy) (c : ℕ) (m : Msg) : Type 0 where
  pub copy : StationCopy
  pub is_copy : In copy copies
  pub is_in : Carries has copy c
  pub is_taken : In m (taken_at ends c copy.pending)

-- t is the least time of a message with P, None if there is none
abbrev pub IsLeastTime : (Msg → Type 0) → Option ℕ → Type 0
IsLeastTime P t = laws.IsLeastTime (λ (m : Msg). m.key.time) P t

-- the least time of the messages that clone c takes
abbrev pub IsLeastOf : (ℕ → ℕ) → List StationCopy → ℕ → Option ℕ → Type 0
IsLeastOf ends copies c t = IsLeastTime (IsTakenBy ends copies c) t

-- the least time of the messages that any clone takes
abbrev pub IsLeast : (ℕ → ℕ) → List StationCopy → Option ℕ → Type 0
IsLeast ends copies t = IsLeastTime (λ m. (c : ℕ) × IsTakenBy ends copies c m) t

-- the least time of the messages that any of its clones takes of a copy
abbrev pub IsLeastOfCopy : (ℕ → ℕ) → StationCopy → Option ℕ → Type 0
IsLeastOfCopy ends a t = IsLeastTime (λ m. (c : ℕ) × Carries has a c × In m (taken_at ends c a.pending)) t

-- t is the lesser of a time found before and a least time; it is the first if that is a lower bound
abbrev pub IsWithTime : (ℕ → Type 0) → (Option ℕ → Type 0) → Option ℕ → Option ℕ → Type 0
IsWithTime LowerBound Least before t = ((time : ℕ) × (before ≡ Some time) × LowerBound time × (t ≡ before))
    ⊎ ((here : Option ℕ) × Least here × (t ≡ earlier before here))

-- with the least time of the messages that any clone takes of a copy
abbrev pub IsWithCopy : (ℕ → ℕ) → StationCopy → Option ℕ → Option ℕ → Type 0
IsWithCopy ends a before t = IsWithTime (λ time. IsLowerBound time a) (IsLeastOfCopy ends a) before t

-- and with that of all copies
abbrev pub IsWithLeast : (ℕ → ℕ) → List StationCopy → Option ℕ → Option ℕ → Type 0
IsWithLeast ends copies before t = IsWithTime (λ time. IsLowerBoundOfAll time copies) (IsLeast ends copies) before t
