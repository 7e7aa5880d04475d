-- What is true of all marked messages: the ones that a clone takes.
use Rattle.std.specs.Prelude.{◌≡◌, ◌↔◌, ℕ, ◌<◌, Bool, true, List, Contains}
use Rattle.sim_base.specs.Counts.{In}
use Rattle.sim_base.specs.declared.message.Msg.{Msg}
use Rattle.clone_sets.specs.Sets.{has}
use Rattle.clone_sets.specs.declared.set.CloneSet.{CloneSet}
use Rattle.run_laws.specs.Copies as copies
use Rattle.msg_route.specs.Grouping.{is_for, group_of}
use Rattle.msg_route.specs.declared.parts.Part.{Part}

-- clone c takes a message with these marks, if each clone c ends at `ends c`
abbrev pub takes_at : (ℕ → ℕ) → Msg → CloneSet → ℕ → Bool
takes_at ends = copies.takes_at (λ (m : Msg). m.key.time) has ends

-- the messages that clone c takes
abbrev pub taken_at : (ℕ → ℕ) → ℕ → List (Msg × CloneSet) → List Msg
taken_at ends c sent = copies.part (takes_at ends) c sent

-- a clone takes the messages that are for it and come before its end
abbrev pub TakenAreForClone : Type 0
TakenAreForClone = (ends : ℕ → ℕ) (m : Msg) (c : ℕ) (sent : List (Msg × CloneSet)) →
    In m (taken_at ends c sent) ↔ ((is_for m c sent ≡ true) × (m.key.time < ends c))

-- each clone takes the same of messages that are joined to their equals
abbrev pub GroupIsTaken : Type 0
GroupIsTaken = (ends : ℕ → ℕ) (m : Msg) (c : ℕ) (sent : List (Msg × CloneSet)) →
    In m (taken_at ends c (group_of sent)) ↔ In m (taken_at ends c sent)

-- the elements of a list of parts
abbrev pub PartsAreElements : Type 0
PartsAreElements = (parts : List Part) (p : Part) → Contains parts p ↔ In p parts
