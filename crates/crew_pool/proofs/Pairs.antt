-- Lists of values together with their numbers.
use Rattle.std.proofs.Common.{◌≡◌, ℕ, ◌+◌, List, [], ◌∷◌, ◌++◌, length, sym, ap, ◌∙◌, subst, arith, get_or}
use Rattle.std.proofs.Common.{length-append}
use Rattle.std.proofs.lemmas.List.{map-append, get_or_append_left, get_or-append-add, length_push}
use Rattle.crew_pool.specs.declared.task_deque.SeatView.{SeatView}
use Rattle.crew_pool.specs.Deque.{seat_view, occurrences, one_if_same, numbers, EachPair, IsItemAt, TakesTasks}
use Rattle.crew_pool.specs.Tasks.{EachAt, AnswersTo}

-- ---- numbers

-- the numbers of pairs with one more at the end are theirs, and then the number of that one
pub numbers-push : {X : Type 0} (ps : List (ℕ × X)) (p : ℕ × X) → numbers (ps ++ p ∷ []) ≡ numbers ps ++ p.0 ∷ []
numbers-push {X} ps p = map-append (λ (q : ℕ × X). q.0) ps (p ∷ [])

-- the numbers of two lists together are those of the first, and then those of the second
pub numbers-append : {X : Type 0} (ps qs : List (ℕ × X)) → numbers (ps ++ qs) ≡ numbers ps ++ numbers qs
numbers-append {X} ps qs = map-append (λ (p : ℕ × X). p.0) ps qs

-- ---- EachPair

-- with one more pair at the end, each pair is as its number asks
pub EachPair-push : {X : Type 0} (asks : ℕ → X → Type 0) (ps : List (ℕ × X)) (p : ℕ × X)
    → asks p.0 p.1 → EachPair asks ps → EachPair asks (ps ++ p ∷ [])
EachPair-push asks [] p one all = (one, tt)
EachPair-push asks (q ∷ qs) p one all = (all.0, EachPair-push asks qs p one all.1)

-- and so is each pair of two such lists together
pub EachPair-append : {X : Type 0} (asks : ℕ → X → Type 0) (ps qs : List (ℕ × X))
    → EachPair asks ps → EachPair asks qs → EachPair asks (ps ++ qs)
EachPair-append asks [] qs all more = more
EachPair-append asks (p ∷ ps) qs all more = (all.0, EachPair-append asks ps qs all.1 more)

-- a weaker property holds too
pub EachPair-weaken : {X : Type 0} (asks needs : ℕ → X → Type 0) (ps : List (ℕ × X))
    → ((i : ℕ) (x : X) → asks i x → needs i x) → EachPair asks ps → EachPair needs ps
EachPair-weaken asks needs [] less all = tt
EachPair-weaken asks needs (p ∷ ps) less all = (less p.0 p.1 all.0, EachPair-weaken asks needs ps less all.1)

-- if no number is in the list there is no pair
pub EachPair-none : {X : Type 0} (asks : ℕ → X → Type 0) (ps : List (ℕ × X))
    → ((x : ℕ) → occurrences x (numbers ps) ≡ 0) → EachPair asks ps
EachPair-none asks [] none = tt
EachPair-none asks (p ∷ ps) none = absurd (omega (arith, none p.0, same p.0))
  where
    same : (x : ℕ) → one_if_same x x ≡ 1
    same x = grind arith

-- ---- IsItemAt

-- an item keeps its place if more follow it
pub IsItemAt-more : {X : Type 0} (items more : List X) (i : ℕ) (x : X) → IsItemAt items i x
    → IsItemAt (items ++ more) i x
IsItemAt-more items more i x is =
    (omega (arith, is.0, length-append items more), λ d. get_or_append_left items more d i is.0 ∙ is.1 d)

-- the last one comes after the others
pub IsItemAt-last : {X : Type 0} (items : List X) (x : X) → IsItemAt (items ++ x ∷ []) (length items) x
IsItemAt-last items x =
    let here : length items + 0 ≡ length items = omega arith in (
      omega (arith, length_push items x),
      λ d. subst (λ (n : ℕ). get_or (items ++ x ∷ []) n d ≡ x) here (get_or-append-add items (x ∷ []) 0 d),
    )

-- an item may be given to the task of its place
pub IsItemAt-ready : {X : Type 0} (ready : ℕ → X → Type 0) (items : List X) (i : ℕ) (x : X)
    → EachAt ready items → IsItemAt items i x → ready i x
IsItemAt-ready ready items i x each is = subst (λ y. ready i y) (is.1 x) (each i x is.0)

-- an answer to an item is an answer at its place
pub IsItemAt-answers : {X Y : Type 0} (answers : ℕ → X → Y → Type 0) (items : List X) (i : ℕ) (x : X) (y : Y)
    → IsItemAt items i x → answers i x y → AnswersTo answers items i y
IsItemAt-answers answers items i x y is one d = subst (λ z. answers i z y) (sym (is.1 d)) one

-- ---- TakesTasks

-- the tasks that a seat with a known view takes: one task with the item of its number, which joins those that it has
-- taken
pub TakesTasks-one : {X : Type 0} (v u w : SeatView X) (p : ℕ × X) → v ≡ u → TakesTasks v (p ∷ []) w
    → IsItemAt u.dealt p.0 p.1 × (w ≡ seat_view u.parts u.dealt (u.taken ++ p.0 ∷ []))
TakesTasks-one v u w p e t = let s = subst (λ (y : SeatView _). TakesTasks y (p ∷ []) w) e t in (s.0.0, s.1)

-- the view after a thief's seat was taken back
pub seat_view-merged : {X Y : Type 0} (parts : ℕ) (items : List X) (v u w : SeatView X) (ps qs rs : List (ℕ × Y))
    → v ≡ seat_view parts items (numbers ps) → u ≡ seat_view 1 items (numbers qs) → rs ≡ ps ++ qs
    → w ≡ seat_view (v.parts + u.parts) v.dealt (v.taken ++ u.taken)
    → w ≡ seat_view (parts + 1) items (numbers rs)
seat_view-merged {X} parts items v u w ps qs rs e f more is =
    is
    ∙ (ap (λ (y : SeatView X). seat_view (y.parts + u.parts) y.dealt (y.taken ++ u.taken)) e
    ∙ (ap (λ (y : SeatView X). seat_view (parts + y.parts) items (numbers ps ++ y.taken)) f
    ∙ ap (λ l. seat_view (parts + 1) items l) (sym (numbers-append ps qs) ∙ ap numbers (sym more))))
