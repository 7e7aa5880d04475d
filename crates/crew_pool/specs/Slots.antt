-- The slots of a forked crew: each holds a task's item, and then its answer.
use Rattle.std.specs.Prelude.{◌≡◌, ℕ, ◌<◌, List, length, slice_index_or, Option, Some, None, IfSome}
use Rattle.crew_pool.specs.declared.forked.Slot.{Slot}

-- a slot that holds an item
abbrev pub slot_with : {X Y : Type 0} → X → Slot X Y
slot_with x = record { item = Some x; answer = None }

-- the answer in a slot
abbrev pub answer_in : {X Y : Type 0} → Slot X Y → Option Y
answer_in slot = slot.answer

-- the item in each slot may be given to the task of this number
abbrev pub EachSlotReady : {X Y : Type 0} → (ℕ → X → Type 0) → List (Slot X Y) → Type 0
EachSlotReady {X} {Y} ready slots =
    (i : ℕ) (d : Slot X Y) → i < length slots → IfSome (slice_index_or slots i d).item (λ x. ready i x)

-- the new slot holds no answer, or the task's answer to the item of the old one
abbrev pub SlotAnswers : {X Y : Type 0} → (ℕ → X → Y → Type 0) → ℕ → Slot X Y → Slot X Y → Type 0
SlotAnswers {X} answers i old new = IfSome new.answer (λ y. (x : X) → old.item ≡ Some x → answers i x y)

-- the same of each slot
abbrev pub EachSlotAnswers : {X Y : Type 0} → (ℕ → X → Y → Type 0) → List (Slot X Y) → List (Slot X Y) → Type 0
EachSlotAnswers {X} {Y} answers olds news =
    (i : ℕ) (d : Slot X Y) → i < length olds → SlotAnswers answers i (slice_index_or olds i d) (slice_index_or news i d)
