-- The decision lists of the clones in memory, and their view in contracts.
use Rattle.std.proofs.Common.{◌≡◌, ℕ, ◌+◌, ◌<◌, ◌≤◌, List, [], ◌∷◌, ◌++◌, length, map, refl, ap, ◌∙◌, sym, arith, zero}
use Rattle.std.proofs.Common.{suc, Some, slice_set, length-set, position, Result, Ok, Err, OnOk, OnErr}
use Rattle.sim_base.proofs.ListLaws.{all_push, all_pop, position-map}
use Rattle.std.specs.Str.{bytes_eq}
use Rattle.std.specs.List.{AllByRecursion}
use Rattle.std.proofs.lemmas.List.{length_push, map_push, length-map, map-set}
use Rattle.sim_base.specs.declared.decision.Planned.{Planned}
use Rattle.sim_base.specs.Reserved.{ReservedView}
use Rattle.sim_base.specs.Clones.{Clone, clone_at, clones_with_fork, clones_with_plan, place_of, clones_with_end}
use Rattle.sim_base.specs.Clones.{fork_of}
use Rattle.sim_base.specs.CloneListViews.{CloneListView, AreReserved, clone_of, list_at}
use Rattle.sim_base.specs.CloneListViews.{list_fork, lists_with_plan, list_with_plan, lists_with_end}

-- ---- clone_of: the view in contracts

-- of the list of a clone
pub seen_at : (lists : List CloneListView) (c : ℕ) → clone_at (map clone_of lists) c ≡ clone_of (list_at lists c)
seen_at [] c = refl
seen_at (k ∷ ks) zero = refl
seen_at (k ∷ ks) (suc c) = seen_at ks c

-- of a fork
pub seen_fork : (lists : List CloneListView) (new : List ℕ) (old reserved : ℕ)
    → map clone_of (lists ++ list_fork lists new old reserved ∷ []) ≡ clones_with_fork (map clone_of lists) new old
seen_fork lists new old reserved = map_push clone_of lists (list_fork lists new old reserved)
    ∙ ap (λ c. map clone_of lists ++ (fork_of c new) ∷ [])
    (sym (seen_at lists old))

-- of a decision more
pub seen_added : (lists : List CloneListView) (c : ℕ) (plan : Planned)
    → map clone_of (lists_with_plan lists c plan) ≡ clones_with_plan (map clone_of lists) c plan
seen_added lists c plan = map-set clone_of lists c (list_with_plan (list_at lists c) plan)
    ∙ ap (λ k. slice_set (map clone_of lists) c (record k { plans = k.plans ++ plan ∷ [] })) (sym (seen_at lists c))

-- of an end
pub seen_end : (lists : List CloneListView) (c : ℕ) → (clone_at (map clone_of lists) c).end ≡ (list_at lists c).end
seen_end lists c = ap (λ k. k.end) (seen_at lists c)

-- of an end given
pub seen_ended : (lists : List CloneListView) (c at : ℕ)
    → map clone_of (lists_with_end lists c at) ≡ clones_with_end (map clone_of lists) c at
seen_ended lists c at = map-set clone_of lists c (record (list_at lists c) { end = Some at })
    ∙ ap (λ k. slice_set (map clone_of lists) c (record k { end = Some at })) (sym (seen_at lists c))

-- and of the place of a name
pub seen_place : (name : List ℕ) (lists : List CloneListView)
    → place_of name (map clone_of lists) ≡ position (λ k. bytes_eq k.name name) lists
seen_place name lists = position-map (λ c. bytes_eq c.name name) clone_of lists

-- ---- AreReserved

-- a fork takes one spare list, and leaves the others
pub reserved_after_fork : (lists : List CloneListView) (reserved_clones : ℕ)
    (before after : ReservedView (ReservedView Planned)) (plans : ReservedView Planned) (most : ℕ) (new : List ℕ)
    (old : ℕ) → AreReserved lists reserved_clones before most → before.items ≡ after.items ++ plans ∷ []
    → AreReserved (lists ++ list_fork lists new old plans.reserved ∷ []) reserved_clones after most
reserved_after_fork lists reserved_clones before after plans most new old h popped =
    let all = all_pop (λ s. (s.items ≡ []) × (most ≤ s.reserved)) after.items plans (rw popped at h.spare_plans) in
    let longer = length_push after.items plans in
    let shorter : length before.items ≡ length after.items + 1 = ap length popped ∙ longer in
    record {
      plans = all_push (λ k. most ≤ k.plans.reserved) lists (list_fork lists new old plans.reserved) h.plans all.1.1;
      spare_plans = all.0;
      clones = omega (arith, length_push lists (list_fork lists new old plans.reserved), h.clones);
    }

-- a fork with a list of its own
pub reserved_push : (lists : List CloneListView) (reserved_clones : ℕ) (spare : ReservedView (ReservedView Planned))
    (most reserved : ℕ) (new : List ℕ) (old : ℕ) → AreReserved lists reserved_clones spare most → most ≤ reserved
    → AreReserved (lists ++ list_fork lists new old reserved ∷ []) reserved_clones spare most
reserved_push lists reserved_clones spare most reserved new old h enough = record {
  plans = all_push (λ k. most ≤ k.plans.reserved) lists (list_fork lists new old reserved) h.plans enough;
  spare_plans = h.spare_plans;
  clones = omega (arith, length_push lists (list_fork lists new old reserved), h.clones);
}

-- each list still has its memory reserved if one is replaced by one with as much
plans_set : (most : ℕ) (lists : List CloneListView) (c : ℕ) (k : CloneListView)
    → k.plans.reserved ≡ (list_at lists c).plans.reserved → AllByRecursion (λ k. most ≤ k.plans.reserved) lists
    → AllByRecursion (λ k. most ≤ k.plans.reserved) (slice_set lists c k)
plans_set most [] c k e h = h
plans_set most (x ∷ xs) zero k e h = (rw e h.0, h.1)
plans_set most (x ∷ xs) (suc c) k e h = (h.0, plans_set most xs c k e h.1)

-- a list in another's place, with as much reserved
pub reserved_set : (lists : List CloneListView) (reserved_clones : ℕ) (spare : ReservedView (ReservedView Planned))
    (most c : ℕ) (k : CloneListView) → k.plans.reserved ≡ (list_at lists c).plans.reserved
    → AreReserved lists reserved_clones spare most → AreReserved (slice_set lists c k) reserved_clones spare most
reserved_set lists reserved_clones spare most c k e h =
    let long : length (slice_set lists c k) ≡ length lists = length-set lists c k in
    record {
      plans = plans_set most lists c k e h.plans;
      spare_plans = h.spare_plans;
      clones = omega (arith, long, h.clones);
    }

-- each list has at least `most` reserved
plans_at : (most : ℕ) (lists : List CloneListView) (c : ℕ) → c < length lists
    → AllByRecursion (λ k. most ≤ k.plans.reserved) lists → most ≤ (list_at lists c).plans.reserved
plans_at most [] c b h = absurd (omega arith)
plans_at most (k ∷ ks) zero b h = h.0
plans_at most (k ∷ ks) (suc c) b h = plans_at most ks c (omega arith) h.1

-- a list shorter than its reserved memory can take one more
pub reserved_to_add : (lists : List CloneListView) (seen : List Clone) (most c : ℕ) → map clone_of lists ≡ seen
    → c < length seen → AllByRecursion (λ k. most ≤ k.plans.reserved) lists → length (clone_at seen c).plans < most
    → length (list_at lists c).plans.items < (list_at lists c).plans.reserved
reserved_to_add lists seen most c same b h fits =
    let there : c < length lists = rw (← same, length-map) at b in
    let enough = plans_at most lists c there h in
    let short : length (list_at lists c).plans.items < most = rw (← same, seen_at lists c) at fits in
    omega (arith, enough)

-- ---- properties of either value

-- a property of the new value and of the old one holds afterwards, whichever it is
pub holds_after : {X T E : Type 0} (P : X → Type 0) (r : Result T E) (new old after : X) → OnOk r (after ≡ new)
    → OnErr r (after ≡ old) → P new → P old → P after
holds_after P (Ok v) new old after ok err n o = rw ok n
holds_after P (Err e) new old after ok err n o = rw err o
