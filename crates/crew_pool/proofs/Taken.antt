-- The knowledge of the owner during a call.
use Rattle.std.proofs.Common.{◌≡◌, ℕ, ◌+◌, ◌-◌, ◌<◌, List, [], refl, sym, ap, ◌∙◌, subst, arith}
use Rattle.crew_pool.specs.declared.workers.TheConstants.{MAX_WORKERS}
use Rattle.crew_pool.specs.declared.task_deque.TheConstants.{MAX_PARTS}
use Rattle.crew_pool.specs.declared.task_deque.SeatView.{SeatView}
use Rattle.crew_pool.specs.Deque.{seat_view, numbers, EachPair}

-- ---- HasTaken

-- a view given by parts and items has these
pub HasTaken-own : {X Y : Type 0} (asks : List X → ℕ → Y → Type 0) (parts : ℕ) (items : List X) (v : SeatView X)
    (ps : List (ℕ × Y))
    → (v ≡ seat_view parts items (numbers ps)) × EachPair (asks items) ps
    → (v ≡ seat_view v.parts v.dealt (numbers ps)) × EachPair (asks v.dealt) ps
HasTaken-own {X} asks parts items v ps h =
    subst (λ (y : SeatView X). (y ≡ seat_view y.parts y.dealt (numbers ps)) × EachPair (asks y.dealt) ps) (sym h.0)
    (refl, h.1)

-- and so has the view after it
pub HasTaken-next : {X Y : Type 0} (asks : List X → ℕ → Y → Type 0) (parts more now : ℕ) (items : List X)
    (v w : SeatView X) (taken : List ℕ) (ps : List (ℕ × Y))
    → v ≡ seat_view parts items taken → now ≡ parts + more
    → (w ≡ seat_view (v.parts + more) v.dealt (numbers ps)) × EachPair (asks v.dealt) ps
    → (w ≡ seat_view now items (numbers ps)) × EachPair (asks items) ps
HasTaken-next {X} asks parts more now items v w taken ps e sum h =
    let s = subst (λ (y : SeatView X). (w ≡ seat_view (y.parts + more) y.dealt (numbers ps))
    × EachPair (asks y.dealt) ps) e h in
    (s.0 ∙ ap (λ (k : ℕ). seat_view k items (numbers ps)) (sym sum), s.1)

-- ---- the end of a call

-- after the owner has popped, taken n seats back and popped again, it has every part, and knows the items
pub parts_back : {X : Type 0} (n : ℕ) (items : List X) (v0 v1 v2 v3 : SeatView X) (l1 l2 l3 : List ℕ)
    → n < MAX_WORKERS → v0 ≡ seat_view (MAX_PARTS - n) items [] → v1 ≡ seat_view v0.parts v0.dealt l1
    → v2 ≡ seat_view (v1.parts + n) v1.dealt l2 → v3 ≡ seat_view v2.parts v2.dealt l3
    → (v3.parts ≡ MAX_PARTS) × (v3.dealt ≡ items) × (v3.taken ≡ l3) × (v2.dealt ≡ items)
parts_back {X} n items v0 v1 v2 v3 l1 l2 l3 few e0 e1 e2 e3 =
    let parts : SeatView X → ℕ = λ v. v.parts in
    let dealt : SeatView X → List X = λ v. v.dealt in
    let d2 : v2.dealt ≡ items = ap dealt e2 ∙ (ap dealt e1 ∙ ap dealt e0) in (
      omega (arith, few, ap parts e0, ap parts e1, ap parts e2, ap parts e3),
      ap dealt e3 ∙ d2,
      ap (λ (v : SeatView X). v.taken) e3,
      d2,
    )
