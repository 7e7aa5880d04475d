-- What analysts see at their looks, and that it was correct when it was seen.
use Rattle.std.specs.Prelude.{◌≡◌, ◌⊎◌, ℕ, ◌≤◌, List, [], ◌∷◌, ◌++◌, length, map, take, Some, None, IfSome, IfNone}
use Rattle.std.specs.List.{AllByRecursion}
use mathlib.Core.List.{IsPrefix}
use Rattle.sim_base.specs.Clones.{Clone, base}
use Rattle.net_model.specs.Net.{HasStation, Net, station_named}
use Rattle.decision_script.specs.Stating.{ScriptView}
use Rattle.decision_book.specs.Journal.{Event, NewFront, after}
use Rattle.phys_proc.specs.Racks.{RackView, FindsClone}
use Rattle.phys_proc.specs.declared.rack.Glance.{Glance}
use Rattle.shelf.specs.Racks.{AreLegal, HasRack, IsGlance, latest}
use Rattle.journal_text.specs.declared.looked.Looked.{Looked}
use Rattle.live_study.specs.Scripts.{AskedLook, each_looks}

-- what was looked at
abbrev pub look_of : Looked → AskedLook
look_of l = (l.analyst, l.who, l.station)

-- ---- what a look is true of

-- the clones when the front was raised to this one: the base clone alone at front 0, and else those that were there
-- before the journal's line of that front
abbrev pub AreAtFront : Net → List Event → ℕ → List Clone → Type 0
AreAtFront net events front clones = ((front ≡ 0) × (clones ≡ base ∷ []))
    ⊎ ((before : List Event) × IsPrefix (before ++ NewFront front ∷ []) events × (clones ≡ (after net before).clones))

-- a glance at a station is true: it has the number of clones at its front of the journal. It finds the clone of the
-- name exactly if there is one, and then it has the number of messages in its log before the front, and the number of
-- clones with an equal log
pub record IsTrueGlance (net : Net) (events : List Event) (s : ℕ) (who : List ℕ) (g : Glance) : Type 0 where
  pub clones : List Clone
  pub at : AreAtFront net events g.front clones
  pub many : g.clones ≡ length clones
  pub found : FindsClone net clones s g.front who g.found

-- what was seen at a look: nothing exactly if the network has no such station, and else a true glance
pub record IsTrueLook (net : Net) (events : List Event) (l : Looked) : Type 0 where
  pub unknown : IfNone l.glance (station_named l.station net ≡ None)
  pub known : IfSome l.glance (λ g. (s : ℕ) × (station_named l.station net ≡ Some s)
      × IsTrueGlance net events s l.who g)

-- what a glance says of the clones that a journal leaves: the first of them were there at its front. The clone of the
-- name is one of these exactly if one was found. The glance has the number of messages in its log before the front, and
-- the number of those with an equal log
pub record IsTrueOf (net : Net) (clones : List Clone) (s : ℕ) (who : List ℕ) (g : Glance) : Type 0 where
  pub at_most : g.clones ≤ length clones
  pub found : FindsClone net (take g.clones clones) s g.front who g.found

-- a later look of the same analyst at the same station is at no earlier front
abbrev pub IsNoEarlier : Looked → Looked → Type 0
IsNoEarlier l later = later.analyst ≡ l.analyst → later.station ≡ l.station
    → (f g : Glance) → l.glance ≡ Some f → later.glance ≡ Some g → f.front ≤ g.front

-- no look is at an earlier front than one of the same analyst at the same station before it
abbrev pub NeverFall : List Looked → Type 0
NeverFall [] = Unit {0}
NeverFall (l ∷ ls) = AllByRecursion (IsNoEarlier l) ls × NeverFall ls

-- one look for each of the script, by analyst and then in the analyst's order
abbrev pub HasMadeLooks : ScriptView → List Looked → Type 0
HasMadeLooks s looks = map look_of looks ≡ each_looks s.items (length s.analysts)

-- nothing was seen exactly if the network has no such station
pub record SeesItsStation (net : Net) (l : Looked) : Type 0 where
  pub unknown : IfNone l.glance (station_named l.station net ≡ None)
  pub known : IfSome l.glance (λ g. (s : ℕ) × (station_named l.station net ≡ Some s))

-- the looks of a script, however its run ended: one for each look of the script, by analyst and then in the analyst's
-- order; nothing was seen exactly if there is no such station, and no analyst's front at a station falls
pub record AreMadeLooks (net : Net) (s : ScriptView) (looks : List Looked) : Type 0 where
  pub made : HasMadeLooks s looks
  pub seen : AllByRecursion (SeesItsStation net) looks
  pub rise : NeverFall looks

-- the looks of a script over a journal, each of which is true
pub record AreLooks (net : Net) (s : ScriptView) (events : List Event) (looks : List Looked) : Type 0 where
  pub made : AreMadeLooks net s looks
  pub true_ones : AllByRecursion (IsTrueLook net events) looks

-- ---- what a look has read

-- a glance of the last rack of the station in a prefix of these racks
pub record WasRead (read : List RackView) (s : ℕ) (who : List ℕ) (g : Glance) : Type 0 where
  pub before : List RackView
  pub begins : IsPrefix before read
  pub rack : RackView
  pub last : latest s before ≡ Some rack
  pub glance : IsGlance rack who g

-- a look that has read a prefix of these racks, or found no station to read
pub record IsReadLook (net : Net) (read : List RackView) (l : Looked) : Type 0 where
  pub unknown : IfNone l.glance (station_named l.station net ≡ None)
  pub known : IfSome l.glance (λ g. (s : ℕ) × (station_named l.station net ≡ Some s) × (s ≤ length net.sites)
      × WasRead read s l.who g)

-- each station has a rack
abbrev pub HasRacks : Net → List RackView → Type 0
HasRacks net racks = (s : ℕ) → HasStation net s → HasRack s racks

-- ---- what is published

-- a rack of this network, at a front of the journal or at front 0
pub record IsRackOf (net : Net) (events : List Event) (r : RackView) : Type 0 where
  pub net_is : r.net ≡ net
  pub at : AreAtFront net events r.front r.clones

-- the last rack of the station is at this front
abbrev pub IsAt : ℕ → List RackView → ℕ → Type 0
IsAt front racks s = (r : RackView) × (latest s racks ≡ Some r) × (r.front ≡ front)

-- the last rack of each of the first stations, up to this number, is at this front
abbrev pub AreAllAt : ℕ → ℕ → List RackView → Type 0
AreAllAt many front racks = (s : ℕ) → 1 ≤ s → s ≤ many → IsAt front racks s

-- what a seat has read and what was published begin one legal list
pub record AreOfOneHistory (published read : List RackView) : Type 0 where
  pub all : List RackView
  pub legal : AreLegal all
  pub begins : IsPrefix read all
  pub told : IsPrefix published all
