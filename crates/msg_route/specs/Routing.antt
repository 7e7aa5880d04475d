-- The part of a message for each copy of a receiver.
use Rattle.std.specs.Prelude.{◌≡◌, ◌≢◌, ℕ, ◌<◌, List, map, length, Option, option_map, All, Contains, slice_index}
use Rattle.std.specs.List.{filter_map, enumerate_from}
use Rattle.std.specs.List.Sorted.{IsStrictlyIncreasing}
use Rattle.clone_sets.specs.Sets.{empty, meet, common}
use Rattle.clone_sets.specs.declared.set.CloneSet.{CloneSet}
use Rattle.msg_route.specs.declared.parts.Part.{Part}

-- the part for the copy at a place: the clones that it shares with the senders, if there are any
abbrev pub part_for : CloneSet → ℕ × CloneSet → Option Part
part_for senders x = option_map (λ set. record { receiver = x.0; set = set }) (common senders x.1)

-- the parts of all copies, in their order
abbrev pub parts_of : CloneSet → List CloneSet → List Part
parts_of senders receivers = filter_map (part_for senders) (enumerate_from 0 receivers)

-- the clones in common to the senders and the receiver at place i
abbrev pub meet_at : CloneSet → List CloneSet → ℕ → CloneSet
meet_at senders receivers i = meet senders (slice_index receivers i)

-- the part has the clones that its receiver shares with the senders, and is not empty
pub record IsShared (senders : CloneSet) (receivers : List CloneSet) (part : Part) : Type 0 where
  pub in_range : part.receiver < length receivers
  pub set : part.set ≡ meet_at senders receivers part.receiver
  pub nonempty : part.set ≢ empty

-- exactly the nonempty intersections, in rising order of receiver
pub record IsCut (senders : CloneSet) (receivers : List CloneSet) (parts : List Part) : Type 0 where
  pub each : All (IsShared senders receivers) parts
  pub all : (i : ℕ) → i < length receivers → meet_at senders receivers i ≢ empty
      → Contains parts (record { receiver = i; set = meet_at senders receivers i })
  pub rising : IsStrictlyIncreasing (map (λ p. p.receiver) parts)
