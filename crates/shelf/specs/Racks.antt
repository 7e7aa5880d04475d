-- Which lists of racks may be published, and what readers are shown after them.
use Rattle.std.specs.Prelude.{◌≡◌, ◌==◌, ℕ, ◌+◌, ◌<◌, ◌≤◌, Bool, true, false, List}
use Rattle.std.specs.Prelude.{[], ◌∷◌, Option, Some, None, length, slice_get}
use Rattle.std.specs.List.{AllByRecursion}
use Rattle.phys_proc.specs.Racks.{RackView, FindsClone}
use Rattle.phys_proc.specs.declared.rack.Glance.{Glance}

-- rack r may come later than rack q: it is of the same network, and of q's station it shows a later front, up to the
-- horizon
pub record MayComeAfter (r q : RackView) : Type 0 where
  pub net : r.net ≡ q.net
  pub later : q.station ≡ r.station → q.front < r.front
  pub within : q.station ≡ r.station → r.front ≤ r.net.horizon

-- rack r may be published after these
abbrev pub MayBePublished : List RackView → RackView → Type 0
MayBePublished racks r = AllByRecursion (λ q. MayComeAfter r q) racks

-- each rack may be published after those before it
abbrev pub AreLegal : List RackView → Type 0
AreLegal [] = Unit {0}
AreLegal (q ∷ racks) = AllByRecursion (λ r. MayComeAfter r q) racks × AreLegal racks

-- a later rack if one was found, or else this one if the condition holds
abbrev pub or_this : Option RackView → Bool → RackView → Option RackView
or_this (Some later) b r = Some later
or_this None true r = Some r
or_this None false r = None

-- the last rack of a station
abbrev pub latest : ℕ → List RackView → Option RackView
latest s [] = None
latest s (r ∷ racks) = or_this (latest s racks) (r.station == s) r

-- there is a rack of the station
abbrev pub HasRack : ℕ → List RackView → Type 0
HasRack s racks = (r : RackView) × (latest s racks ≡ Some r)

-- these are the racks that readers are shown: of each station the last that was published
pub record AreShown (shown published : List RackView) : Type 0 where
  pub each : (i : ℕ) → i < length shown → slice_get shown i ≡ latest (i + 1) published
  pub all : (s : ℕ) → HasRack s published → (1 ≤ s) × (s ≤ length shown)

-- one rack of each station, in order
abbrev pub OneEach : List RackView → Type 0
OneEach racks = (i : ℕ) (r : RackView) → slice_get racks i ≡ Some r → r.station ≡ i + 1

-- the racks that a shelf opens with: one of each station, in order, all of one network
pub record MayOpen (racks : List RackView) : Type 0 where
  pub each : OneEach racks
  pub net : (i j : ℕ) (q r : RackView) → slice_get racks i ≡ Some q → slice_get racks j ≡ Some r → r.net ≡ q.net

-- this rack if the condition holds, or else what was found
abbrev pub if_this : Bool → RackView → Option RackView → Option RackView
if_this true r found = Some r
if_this false r found = found

-- each index has the wanted element
abbrev pub EachIs : (ℕ → Option RackView) → List RackView → Type 0
EachIs want xs = (i : ℕ) → i < length xs → slice_get xs i ≡ want i

-- the wanted element at an index: the rack at its own place, and elsewhere the one that was there
abbrev pub with_rack : List RackView → ℕ → RackView → ℕ → Option RackView
with_rack shown place rack i = if_this (i == place) rack (slice_get shown i)

-- what a look at a rack reports of the named clone
pub record IsGlance (rack : RackView) (who : List ℕ) (glance : Glance) : Type 0 where
  pub front : glance.front ≡ rack.front
  pub clones : glance.clones ≡ length rack.clones
  pub found : FindsClone rack.net rack.clones rack.station rack.front who glance.found
