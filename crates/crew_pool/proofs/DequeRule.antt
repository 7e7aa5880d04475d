-- Each step of the deque keeps the rule of the tasks.
use Rattle.std.proofs.Common.{
  ◌≡◌,
  ◌≢◌,
  ℕ,
  zero,
  suc,
  ◌+◌,
  ◌-◌,
  ◌<◌,
  ◌≤◌,
  List,
  [],
  ◌∷◌,
  ◌++◌,
  length,
  set,
  sym,
  refl,
  ap,
  ◌∙◌,
  subst,
  ⊎_elim,
  arith,
}
use Rattle.std.proofs.lemmas.List.Sums.{sum_by-cons, sum_by_push}
use Rattle.std.proofs.lemmas.List.{length_push}
use Rattle.std.specs.Prelude.{sum_by}
use mathlib.Core.Option.{some, some-ne-none, some-injective}
use lib.ListN.{get_elem?}
use Rattle.crossbeam_deque.specs.Tasks.{Pushes, Takes, Forks, Merges, Finds}
use Rattle.crossbeam_deque.proofs.Lists.{at_set, at_snoc, set_else}
use Rattle.crew_pool.specs.declared.task_deque.SeatView.{SeatView}
use Rattle.crew_pool.specs.Deque.{seat_view, occurrences, one_if_same, one_if_below}
use Rattle.crew_pool.specs.Deque.{KnowsDealt, EachKnowsDealt, TasksOnce, TakesTasks, DealsTask, IsComplete}
use Rattle.crew_pool.specs.Deque.{numbers, IsItemAt, view_after}
use Rattle.crew_pool.proofs.Pairs.{numbers-push, EachPair-push, EachPair-weaken, EachPair-none, IsItemAt-more}
use Rattle.crew_pool.proofs.Pairs.{IsItemAt-last}
use Rattle.crew_pool.specs.declared.task_deque.TheConstants.{MAX_PARTS}

-- ---- occurrences

-- the occurrences of x in two lists together are the sum of those in each
pub occurrences-append : (x : ℕ) (xs ys : List ℕ) → occurrences x (xs ++ ys) ≡ occurrences x xs + occurrences x ys
occurrences-append x [] ys = omega arith
occurrences-append x (y ∷ xs) ys = omega (arith, occurrences-append x xs ys)

-- ---- sum_by

-- the sum after one seat has changed
sum_by-set : {X : Type 0} (f : SeatView X → ℕ) (views : List (SeatView X)) (port : ℕ) (v w : SeatView X)
    → get_elem? views port ≡ some v → sum_by f (set views port w) + f v ≡ sum_by f views + f w
sum_by-set f [] port v w e = absurd (some-ne-none v (sym e))
sum_by-set f (u ∷ us) zero v w e =
    let d : f u ≡ f v = ap f (some-injective u v e) in omega (arith, d, sum_by-cons f u us, sum_by-cons f w us)
sum_by-set f (u ∷ us) (suc port) v w e =
    omega (arith, sum_by-set f us port v w e, sum_by-cons f u us, sum_by-cons f u (set us port w))

-- no seat has more than the sum
sum_by-bounds : {X : Type 0} (f : SeatView X → ℕ) (views : List (SeatView X)) (port : ℕ) (v : SeatView X)
    → get_elem? views port ≡ some v
    → f v ≤ sum_by f views
sum_by-bounds f [] port v e = absurd (some-ne-none v (sym e))
sum_by-bounds f (u ∷ us) zero v e =
    let d : f u ≡ f v = ap f (some-injective u v e) in omega (arith, d, sum_by-cons f u us)
sum_by-bounds f (u ∷ us) (suc port) v e = omega (arith, sum_by-bounds f us port v e, sum_by-cons f u us)

-- if one seat has every part, the others have none
sum_by-alone : {X : Type 0} (views : List (SeatView X)) (port : ℕ) (v : SeatView X)
    → sum_by (λ u. u.parts) views ≡ MAX_PARTS → get_elem? views port ≡ some v → v.parts ≡ MAX_PARTS
    → (j : ℕ) (u : SeatView X) → j ≢ port → get_elem? views j ≡ some u → u.parts ≡ 0
sum_by-alone {X} views port v sum at every j u other e =
    let w : SeatView X = seat_view 0 [] [] in
    let s = sum_by-set (λ u. u.parts) views port v w at in
    let b = sum_by-bounds (λ u. u.parts) (set views port w) j u (set_else views port j w other ∙ e) in
    omega (arith, s, b, sum, every)

-- ---- EachKnowsDealt

-- all seats still know it if one has changed and knows it
EachKnowsDealt-set : {X : Type 0} (dealt : List X) (views : List (SeatView X)) (port : ℕ) (w : SeatView X)
    → KnowsDealt dealt w → EachKnowsDealt dealt views → EachKnowsDealt dealt (set views port w)
EachKnowsDealt-set {X} dealt views port w mine others j u e =
    ⊎_elim (λ (x : (j ≡ port) × (w ≡ u)). subst (λ (y : SeatView X). KnowsDealt dealt y) x.1 mine)
    (λ (x : (j ≢ port) × (get_elem? views j ≡ some u)). others j u x.1) (at_set views port j w u e)

-- and if there is one more seat, which knows it
EachKnowsDealt-push : {X : Type 0} (dealt : List X) (views : List (SeatView X)) (w : SeatView X)
    → KnowsDealt dealt w → EachKnowsDealt dealt views → EachKnowsDealt dealt (views ++ w ∷ [])
EachKnowsDealt-push {X} dealt views w mine others j u e =
    ⊎_elim (λ x. others j u x) (λ (x : w ≡ u). subst (λ (y : SeatView X). KnowsDealt dealt y) x mine)
    (at_snoc views w u j e)

-- one seat may learn of other items if the others have no part
EachKnowsDealt-alone : {X : Type 0} (dealt more : List X) (views : List (SeatView X)) (port : ℕ) (w : SeatView X)
    → KnowsDealt more w
    → ((j : ℕ) (u : SeatView X) → j ≢ port → get_elem? views j ≡ some u → u.parts ≡ 0)
    → EachKnowsDealt dealt views → EachKnowsDealt more (set views port w)
EachKnowsDealt-alone {X} dealt more views port w mine idle others j u e =
    ⊎_elim (λ (x : (j ≡ port) × (w ≡ u)). subst (λ (y : SeatView X). KnowsDealt more y) x.1 mine)
    (λ (x : (j ≢ port) × (get_elem? views j ≡ some u)).
    ((others j u x.1).0, λ part. absurd (omega (arith, part, idle j u x.0 x.1)))) (at_set views port j w u e)

-- seats with no part have taken nothing
EachKnowsDealt-idle : {X : Type 0} (x : ℕ) (dealt : List X) (views : List (SeatView X))
    → EachKnowsDealt dealt views → sum_by (λ u. u.parts) views ≡ 0 → sum_by (λ u. occurrences x u.taken) views ≡ 0
EachKnowsDealt-idle x dealt [] each none = refl
EachKnowsDealt-idle {X} x dealt (u ∷ us) each none =
    let parts = sum_by-cons (λ (v : SeatView X). v.parts) u us in
    let t : u.taken ≡ [] = (each 0 u refl).0 (omega (arith, none, parts)) in
    let t' : occurrences x u.taken ≡ 0 = ap (occurrences x) t in
    omega (
      arith,
      t',
      EachKnowsDealt-idle x dealt us (λ j v e. each (suc j) v e) (omega (arith, none, parts)),
      sum_by-cons (λ (v : SeatView X). occurrences x v.taken) u us,
    )

-- ---- TasksOnce

-- the rule holds of an empty deque whose owner has every part
pub TasksOnce-begins : {X : Type 0} → TasksOnce {X = X} [] (seat_view MAX_PARTS [] [] ∷ [])
TasksOnce-begins {X} = ([], refl, (λ x. none x), only, tt)
  where
    none : (x : ℕ) → 0 + 0 + 0 ≡ one_if_below x 0
    none x = grind arith

    only : EachKnowsDealt {X = X} [] (seat_view MAX_PARTS [] [] ∷ [])
    only zero v e =
        subst (λ (u : SeatView X). KnowsDealt [] u) (some-injective _ v e) ((λ _. refl), λ _. refl)
    only (suc j) v e = absurd (some-ne-none v (sym e))

-- the rule stays when a seat with a part takes one task, whose number then joins those that it has taken
pub TasksOnce-takes : {X : Type 0} (port : ℕ) (v : SeatView X) → 0 < v.parts
    → Takes TasksOnce port v 1 (TakesTasks v)
TasksOnce-takes {X} port v part (x ∷ []) rest views _ _ h at =
    let w : SeatView X = view_after v (x ∷ []) in
    let known = (h.3 port v at).1 part in (
      w,
      (
        h.0,
        omega (arith, sum_by-set (λ u. u.parts) views port v w at, h.1),
        (λ y.
            omega (
              arith,
              sum_by-set (λ u. occurrences y u.taken) views port v w at,
              h.2 y,
              occurrences-append y v.taken (x.0 ∷ []),
            )),
        EachKnowsDealt-set h.0 views port w ((λ none. absurd (omega (arith, none, part))), λ _. known) h.3,
        h.4.1,
      ),
      ((subst (λ (l : List X). IsItemAt l x.0 x.1) (sym known) h.4.0, tt), refl),
    )
TasksOnce-takes port v part [] rest views less most h at = absurd (omega (arith, less))
TasksOnce-takes port v part (x ∷ y ∷ ys) rest views less most h at = absurd (omega (arith, most))

-- and when a seat with every part deals one more task, whose number is the next
pub TasksOnce-deals : {X : Type 0} (port : ℕ) (v : SeatView X) (i : ℕ) (x : X) → v.parts ≡ MAX_PARTS
    → i ≡ length v.dealt
    → Pushes TasksOnce port v ((i, x) ∷ []) (DealsTask v ((i, x) ∷ []))
TasksOnce-deals {X} port v i x every number tasks views h at =
    let w : SeatView X = seat_view v.parts (v.dealt ++ x ∷ []) v.taken in
    let known : v.dealt ≡ h.0 = (h.3 port v at).1 (omega (arith, every)) in
    let dealt : List X = h.0 ++ x ∷ [] in
    let mine : KnowsDealt dealt w =
    ((λ none. absurd (omega (arith, none, every))), λ _. ap (λ l. l ++ x ∷ []) known) in
    let idle = sum_by-alone views port v h.1 at every in
    let place : i ≡ length h.0 = number ∙ ap length known in
    let last = subst (λ (n : ℕ). IsItemAt dealt n x) (sym place) (IsItemAt-last h.0 x) in (
      w,
      (
        dealt,
        omega (arith, sum_by-set (λ u. u.parts) views port v w at, h.1),
        (λ y.
            omega (
              arith,
              sum_by-set (λ u. occurrences y u.taken) views port v w at,
              h.2 y,
              ap (occurrences y) (numbers-push tasks (i, x)),
              occurrences-append y (numbers tasks) (i ∷ []),
              next y (length h.0) i (length dealt) place (length_push h.0 x),
            )),
        EachKnowsDealt-alone h.0 dealt views port w mine idle h.3,
        EachPair-push (IsItemAt dealt) tasks (i, x) last
            (EachPair-weaken (IsItemAt h.0) (IsItemAt dealt) tasks (IsItemAt-more h.0 (x ∷ [])) h.4),
      ),
      refl,
    )
  where
    next : (x n k m : ℕ) → k ≡ n → m ≡ n + 1 → one_if_below x m ≡ one_if_below x n + one_if_same x k
    next x n k m e f = grind (arith, e, f)

-- and when a seat with two parts or more gives one to a new seat, which has taken nothing
pub TasksOnce-forks : {X : Type 0} (port : ℕ) (v : SeatView X) → 1 < v.parts
    → Forks TasksOnce port v (seat_view (v.parts - 1) v.dealt v.taken) (seat_view 1 v.dealt [])
TasksOnce-forks {X} port v two tasks views h at =
    let l : SeatView X = seat_view (v.parts - 1) v.dealt v.taken in
    let r : SeatView X = seat_view 1 v.dealt [] in
    let known = (h.3 port v at).1 (omega (arith, two)) in
    let left : KnowsDealt h.0 l = ((λ none. absurd (omega (arith, none, two))), λ _. known) in
    let vs : List (SeatView X) = set views port l in (
      h.0,
      omega (
        arith,
        sum_by-set (λ u. u.parts) views port v l at,
        sum_by_push (λ (u : SeatView X). u.parts) vs r,
        h.1,
        two,
      ),
      (λ x.
          omega (
            arith,
            sum_by-set (λ u. occurrences x u.taken) views port v l at,
            sum_by_push (λ (u : SeatView X). occurrences x u.taken) vs r,
            h.2 x,
          )),
      EachKnowsDealt-push h.0 vs r ((λ none. refl), λ _. known) (EachKnowsDealt-set h.0 views port l left h.3),
      h.4,
    )

-- and when a seat with every part, which has taken each task that was dealt, forgets them: a call has ended, and the
-- deque is empty; the seat that is made has no part
pub TasksOnce-renews : {X : Type 0} (port : ℕ) (v : SeatView X) → v.parts ≡ MAX_PARTS → IsComplete v
    → Forks TasksOnce port v (seat_view v.parts [] []) (seat_view 0 [] [])
TasksOnce-renews {X} port v every complete tasks views h at =
    let l : SeatView X = seat_view v.parts [] [] in
    let r : SeatView X = seat_view 0 [] [] in
    let known : v.dealt ≡ h.0 = (h.3 port v at).1 (omega (arith, every)) in
    let vs : List (SeatView X) = set views port l in
    let mine : KnowsDealt {X = X} [] l = ((λ none. refl), λ _. refl) in
    let none : (x : ℕ) → sum_by (λ u. occurrences x u.taken) (vs ++ r ∷ []) + occurrences x (numbers tasks) ≡ 0 =
    λ x. let all : one_if_below x (length v.dealt) ≡ one_if_below x (length h.0) =
    ap (λ (d : List X). one_if_below x (length d)) known in
    omega (
      arith,
      sum_by-set (λ u. occurrences x u.taken) views port v l at,
      sum_by_push (λ (u : SeatView X). occurrences x u.taken) vs r,
      h.2 x,
      complete every x,
      all,
    ) in (
      [],
      omega (
        arith,
        sum_by-set (λ u. u.parts) views port v l at,
        sum_by_push (λ (u : SeatView X). u.parts) vs r,
        h.1,
      ),
      (λ x. none x ∙ nothing x),
      EachKnowsDealt-push [] vs r ((λ _. refl), λ part. absurd (omega (arith, part)))
          (EachKnowsDealt-alone h.0 [] views port l mine (sum_by-alone views port v h.1 at every) h.3),
      EachPair-none (IsItemAt []) tasks (λ x. omega (arith, none x)),
    )
  where
    nothing : (x : ℕ) → 0 ≡ one_if_below x 0
    nothing x = grind arith

-- and when a seat with a part takes over the parts and numbers of another, which is left with none
pub TasksOnce-merges : {X : Type 0} (port : ℕ) (v : SeatView X) (other : ℕ) (u : SeatView X) → 0 < v.parts
    → Merges TasksOnce port v other u (seat_view (v.parts + u.parts) v.dealt (v.taken ++ u.taken)) (seat_view 0 [] [])
TasksOnce-merges {X} port v other u part tasks views h at two at' =
    let b : SeatView X = seat_view (v.parts + u.parts) v.dealt (v.taken ++ u.taken) in
    let s : SeatView X = seat_view 0 [] [] in
    let known = (h.3 port v at).1 part in
    let both : KnowsDealt h.0 b = ((λ none. absurd (omega (arith, none, part))), λ _. known) in
    let vs : List (SeatView X) = set views port b in (
      h.0,
      omega (arith, sum_by-set (λ u. u.parts) views port v b at, sum_by-set (λ u. u.parts) vs other u s at', h.1),
      (λ x.
          omega (
            arith,
            sum_by-set (λ u. occurrences x u.taken) views port v b at,
            sum_by-set (λ u. occurrences x u.taken) vs other u s at',
            h.2 x,
            occurrences-append x v.taken u.taken,
          )),
      EachKnowsDealt-set h.0 vs other s ((λ _. refl), λ none. absurd (omega (arith, none)))
          (EachKnowsDealt-set h.0 views port b both h.3),
      h.4,
    )

-- if the deque is empty, a seat with every part has taken each number that was dealt, once
pub TasksOnce-finds : {X : Type 0} (port : ℕ) (v : SeatView X) → Finds TasksOnce port v (IsComplete v)
TasksOnce-finds {X} port v views h at every x =
    let w : SeatView X = seat_view 0 [] [] in
    let none : KnowsDealt h.0 w = ((λ _. refl), λ part. absurd (omega (arith, part))) in
    let parts : sum_by (λ u. u.parts) (set views port w) ≡ 0 =
    omega (arith, sum_by-set (λ u. u.parts) views port v w at, h.1, every) in
    let rest = EachKnowsDealt-idle x h.0 (set views port w) (EachKnowsDealt-set h.0 views port w none h.3) parts in
    let known = (h.3 port v at).1 (omega (arith, every)) in
    let same : one_if_below x (length h.0) ≡ one_if_below x (length v.dealt) =
    ap (λ (d : List X). one_if_below x (length d)) (sym known) in
    omega (arith, sum_by-set (λ u. occurrences x u.taken) views port v w at, rest, h.2 x, same)
