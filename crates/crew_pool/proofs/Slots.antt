-- The slots of a forked crew.
use Rattle.std.proofs.Common.{
  ◌≡◌,
  ℕ,
  zero,
  suc,
  ◌<◌,
  List,
  [],
  ◌∷◌,
  length,
  map,
  sym,
  ap,
  ◌∙◌,
  subst,
  arith,
  slice_index_or,
  Some,
  None,
  IfSome,
}
use Rattle.std.proofs.lemmas.List.{get_or-map}
use Rattle.std.proofs.Math.ListN.{length-map}
use Rattle.crew_pool.specs.declared.forked.Slot.{Slot}
use Rattle.crew_pool.specs.Tasks.{EachAt, AnswersTo}
use Rattle.crew_pool.specs.Slots.{slot_with, answer_in, EachSlotReady, EachSlotAnswers}

-- ---- slot_with

-- an item that is ready is so in its slot
slot_with-ready : {X Y : Type 0} (ready : ℕ → X → Type 0) (xs : List X) → EachAt ready xs
    → (i : ℕ) (d : Slot X Y) → i < length xs → IfSome (slice_index_or (map slot_with xs) i d).item (λ x. ready i x)
slot_with-ready ready [] each i d less = absurd (omega (arith, less))
slot_with-ready ready (x ∷ xs) each zero d less = each zero x less
slot_with-ready {X} {Y} ready (x ∷ xs) each (suc i) d less =
    slot_with-ready {X = X} {Y = Y} (λ n. ready (suc n)) xs (λ j e below. each (suc j) e (omega (arith, below))) i d
    (omega (arith, less))

-- ---- EachSlotReady

-- slots that hold items that are ready are ready
pub EachSlotReady-filled : {X Y : Type 0} (ready : ℕ → X → Type 0) (items : List X) (slots : List (Slot X Y))
    → slots ≡ map slot_with items → EachAt ready items → EachSlotReady ready slots
EachSlotReady-filled {X} {Y} ready items slots filled each =
    let below = length-map items (slot_with {X = X} {Y = Y}) in
    subst (λ l. EachSlotReady ready l) (sym filled)
    (λ i d less. slot_with-ready {X = X} {Y = Y} ready items each i d (omega (arith, less, below)))

-- ---- length

-- as many answers as items
pub slots_count : {X Y : Type 0} (items : List X) (olds news : List (Slot X Y)) (ys : List Y)
    → olds ≡ map slot_with items → length news ≡ length olds → map answer_in news ≡ map Some ys
    → length ys ≡ length items
slots_count {X} {Y} items olds news ys filled same taken =
    omega (
      arith,
      ap length filled,
      length-map items (slot_with {X = X} {Y = Y}),
      same,
      ap length taken,
      length-map news (answer_in {X = X} {Y = Y}),
      length-map ys (λ (y : Y). Some y),
    )

-- ---- EachAt

-- the answers of the slots are answers to the items that they held
pub EachAt-slots : {X Y : Type 0} (answers : ℕ → X → Y → Type 0) (items : List X) (olds news : List (Slot X Y))
    (ys : List Y)
    → olds ≡ map slot_with items → length news ≡ length olds → map answer_in news ≡ map Some ys
    → EachSlotAnswers answers olds news → EachAt (AnswersTo answers items) ys
EachAt-slots {X} {Y} answers items olds news ys filled same taken each i e less d =
    let slot : Slot X Y = slot_with d in
    let many = slots_count items olds news ys filled same taken in
    let below : i < length items = omega (arith, less, many) in
    let here : i < length olds = omega (arith, below, ap length filled, length-map items (slot_with {X = X} {Y = Y})) in
    let there : i < length news = omega (arith, here, same) in
    let answer : (slice_index_or news i slot).answer ≡ Some (slice_index_or ys i e) =
    sym (get_or-map (answer_in {X = X} {Y = Y}) news i slot None there)
    ∙ (ap (λ l. slice_index_or l i None) taken ∙ get_or-map (λ (y : Y). Some y) ys i e None less) in
    let item : (slice_index_or olds i slot).item ≡ Some (slice_index_or items i d) =
    ap (λ (l : List (Slot X Y)). (slice_index_or l i slot).item) filled
    ∙ ap (λ (q : Slot X Y). q.item) (get_or-map (slot_with {X = X} {Y = Y}) items i d slot below) in
    subst (λ o. IfSome o (λ y. (x : X) → (slice_index_or olds i slot).item ≡ Some x → answers i x y)) answer
    (each i slot here) (slice_index_or items i d) item
