-- One trigger among the others: its outcomes at a window's front and bound, and its new name.
use Rattle.std.proofs.Common.{◌≡◌, ◌⊎◌, ℕ, zero, suc, ◌+◌, ◌<◌, ◌≤◌, List, [], ◌∷◌, inl, inr, Option, Some, None, refl}
use Rattle.std.proofs.Common.{sym, ap, ◌∙◌, arith, subst, cond, map, length, take}
use Rattle.std.specs.Prelude.{slice_get}
use Rattle.std.proofs.lemmas.Bool.{cases_lt, lt-ltb, le-ltb}
use Rattle.std.specs.List.{range_with_len}
use Rattle.sim_base.specs.Clones.{Clone, clone_at}
use Rattle.run_laws.specs.Queue.{In}
use Rattle.run_laws.specs.Simulation.{Simulation}
use Rattle.run_laws.specs.Fronts.{IsWindow}
use Rattle.run_laws.specs.Handlers.{IsStationOf, AreForStations}
use Rattle.run_laws.proofs.Lists.{in_append}
use Rattle.watch_points.specs.Branches.{Branch, Trigger, initial_branch, present, with_branch, branch_by, branch_named}
use Rattle.watch_points.specs.Branches.{outcomes, branches_at, HaveNewNames, TargetsAreStations}
use Rattle.watch_points.specs.Keeping.{HoldsAfter, outcome_after, IsPlaced, option_at, trigger_order, outcome_at}
use Rattle.watch_points.specs.BranchLaws.{DueAtFront, DueIsNotLate, AreValidTriggers}
use Rattle.watch_points.specs.PassLaws.{SameOrLate}
use Rattle.watch_points.proofs.Branches.{AgreeAtEnd, branch_by-made, branch_named-kept, agree-all, agree-initial}
use Rattle.watch_points.proofs.Branches.{branch_by-same_or_late, branches_at-old}
use Rattle.watch_points.proofs.Keeping.{present-at, range-below, range-has}
use Rattle.run_laws.proofs.Orders.{in_permuted}
use Rattle.watch_points.proofs.HeldBranches.{window_fronts}

-- ---- take

module _ {N : Type 0} where
  -- the first triggers have new names if all have
  new_names-take : (names : List (List ℕ)) (ws : List (Trigger N)) (i : ℕ) → HaveNewNames names ws →
      HaveNewNames names (take i ws)
  new_names-take names [] zero h = tt
  new_names-take names [] (suc i) h = tt
  new_names-take names (w ∷ ws) zero h = tt
  new_names-take names (w ∷ ws) (suc i) h = (h.0, new_names-take (w.new ∷ names) ws i h.1)

  -- the targets of the first triggers are stations
  targets-take : (n : ℕ) (ws : List (Trigger N)) (i : ℕ) → TargetsAreStations n ws → TargetsAreStations n (take i ws)
  targets-take n [] zero h = tt
  targets-take n [] (suc i) h = tt
  targets-take n (w ∷ ws) zero h = tt
  targets-take n (w ∷ ws) (suc i) h = (h.0, targets-take n ws i h.1)

  -- the target of a trigger is a station
  pub targets-at : (n : ℕ) (ws : List (Trigger N)) (i : ℕ) (w : Trigger N) → TargetsAreStations n ws →
      slice_get ws i ≡ Some w → IsStationOf n w.target
  targets-at n [] i w h e = absurd (cc)
  targets-at n (v ∷ ws) zero w h e = let same : v ≡ w = cc in subst (λ (u : Trigger N). IsStationOf n u.target) same h.0
  targets-at n (v ∷ ws) (suc i) w h e = targets-at n ws i w h.1 e

  -- the new name of a trigger is none of the first names
  new_names-at : (names : List (List ℕ)) (ws : List (Trigger N)) (i : ℕ) (w : Trigger N) → HaveNewNames names ws →
      slice_get ws i ≡ Some w → In w.new names → ⊥
  new_names-at names [] i w h e k = absurd (cc)
  new_names-at names (v ∷ ws) zero w h e k = let same : w ≡ v = cc in
      h.0 (subst (λ (u : Trigger N). In u.new names) same k)
  new_names-at names (v ∷ ws) (suc i) w h e k = new_names-at (v.new ∷ names) ws i w h.1 e (inr k)

  -- two triggers have different new names
  new_names-apart : (names : List (List ℕ)) (ws : List (Trigger N)) (i j : ℕ) (w v : Trigger N) →
      HaveNewNames names ws → slice_get ws i ≡ Some w → slice_get ws j ≡ Some v → (i ≡ j → ⊥) → w.new ≡ v.new → ⊥
  new_names-apart names [] i j w v h e f n s = absurd (cc)
  new_names-apart names (u ∷ ws) zero zero w v h e f n s = n refl
  new_names-apart names (u ∷ ws) zero (suc j) w v h e f n s = let same : u ≡ w = cc in
      new_names-at (u.new ∷ names) ws j v h.1 f (inl (sym s ∙ ap (λ (x : Trigger N). x.new) (sym same)))
  new_names-apart names (u ∷ ws) (suc i) zero w v h e f n s = let same : u ≡ v = cc in
      new_names-at (u.new ∷ names) ws i w h.1 e (inl (s ∙ ap (λ (x : Trigger N). x.new) (sym same)))
  new_names-apart names (u ∷ ws) (suc i) (suc j) w v h e f n s =
      new_names-apart (u.new ∷ names) ws i j w v h.1 e f (λ d. n (ap suc d)) s

module _ {S M N : Type 0} (sim : Simulation S M N) where
  -- a branch after the first triggers is a branch after all triggers
  branches_at-take : (front : ℕ) (bs : List Branch) (ws : List (Trigger N)) (i : ℕ) (x : Branch) →
      In x (branches_at sim front bs (take i ws)) → In x (branches_at sim front bs ws)
  branches_at-take front bs [] zero x h = h
  branches_at-take front bs [] (suc i) x h = h
  branches_at-take front bs (w ∷ ws) zero x h = branches_at-old sim front bs (w ∷ ws) x h
  branches_at-take front bs (w ∷ ws) (suc i) x h =
      branches_at-take front (with_branch bs (branch_by sim front bs w)) ws i x h

  -- a trigger makes its branch from the branches after the triggers before it
  pub outcomes-at : (front : ℕ) (bs : List Branch) (ws : List (Trigger N)) (i : ℕ) (w : Trigger N) →
      slice_get ws i ≡ Some w →
      option_at (outcomes sim front bs ws) i ≡ branch_by sim front (branches_at sim front bs (take i ws)) w
  outcomes-at front bs [] i w e = absurd (cc)
  outcomes-at front bs (v ∷ ws) zero w e = let same : v ≡ w = cc in ap (branch_by sim front bs) same
  outcomes-at front bs (v ∷ ws) (suc i) w e = outcomes-at front (with_branch bs (branch_by sim front bs v)) ws i w e

  -- after the last trigger there is no outcome
  outcomes-past_end : (front : ℕ) (bs : List Branch) (ws : List (Trigger N)) (i : ℕ) → slice_get ws i ≡ None →
      option_at (outcomes sim front bs ws) i ≡ None
  outcomes-past_end front bs [] i e = refl
  outcomes-past_end front bs (v ∷ ws) zero e = absurd (cc)
  outcomes-past_end front bs (v ∷ ws) (suc i) e =
      outcomes-past_end front (with_branch bs (branch_by sim front bs v)) ws i e

  -- ---- branch_named

  -- a name that finds a branch still finds it after all triggers
  pub branch_named-branches_at : (front : ℕ) (bs : List Branch) (ws : List (Trigger N)) (name : List ℕ) (x : Branch) →
      branch_named name bs ≡ Some x → branch_named name (branches_at sim front bs ws) ≡ Some x
  branch_named-branches_at front bs [] name x e = e
  branch_named-branches_at front bs (w ∷ ws) name x e =
      branch_named-branches_at front (with_branch bs (branch_by sim front bs w)) ws name x
      (branch_named-kept name bs (branch_by sim front bs w) x e)

module _ {S M N : Type 0} {sim : Simulation S M N} (known : DueAtFront sim) (not_late : DueIsNotLate sim)
    (names : List (List ℕ)) (ls : List Clone) (ws : List (Trigger N))
    (valid : AreValidTriggers sim names (map initial_branch ls) ws) where
  module _ (cs : List Clone) (front bound : ℕ) (w : IsWindow sim cs front bound)
      (all : (x : Branch) → In x (branches_at sim front (map initial_branch ls) ws) → In x.clone cs) where
    -- the branches after the first triggers agree at front and bound
    agree-take : (i : ℕ) → AgreeAtEnd sim known (window_fronts known not_late cs front bound w)
        (branches_at sim front (map initial_branch ls) (take i ws))
        (branches_at sim bound (map initial_branch ls) (take i ws))
    agree-take i = agree-all sim known (window_fronts known not_late cs front bound w) names
        (map initial_branch ls) (map initial_branch ls) (take i ws)
        (agree-initial sim known (window_fronts known not_late cs front bound w) names
        (map initial_branch ls) valid.clones)
        (new_names-take names ws i valid.new_names) (targets-take sim.stations ws i valid.targets)
        (λ x h. all x (branches_at-take sim front (map initial_branch ls) ws i x h))

    -- an outcome is the same at front and bound, or it is new and its change comes at the bound or later
    pub outcome_at-same_or_late : (i : ℕ) (v : Trigger N) → slice_get ws i ≡ Some v →
        SameOrLate (λ t. bound ≤ t) (outcome_at sim front ls ws i) (outcome_at sim bound ls ws i)
    outcome_at-same_or_late i v e =
        let p = agree-take i in
        subst (λ o. SameOrLate (λ t. bound ≤ t) o (outcome_at sim bound ls ws i))
        (sym (outcomes-at sim front (map initial_branch ls) ws i v e))
        (subst (λ o. SameOrLate (λ t. bound ≤ t)
        (branch_by sim front (branches_at sim front (map initial_branch ls) (take i ws)) v) o)
        (sym (outcomes-at sim bound (map initial_branch ls) ws i v e))
        (branch_by-same_or_late sim known (window_fronts known not_late cs front bound w) v p.names
        (branches_at sim front (map initial_branch ls) (take i ws))
        (branches_at sim bound (map initial_branch ls) (take i ws))
        p.at (λ x h. all x (branches_at-take sim front (map initial_branch ls) ws i x h))))

    -- a branch has its trigger's new name, and decisions for stations
    pub outcome_at-made : (i : ℕ) (v : Trigger N) (y : Branch) → slice_get ws i ≡ Some v →
        outcome_at sim bound ls ws i ≡ Some y → (y.clone.name ≡ v.new) × AreForStations sim y.clone.plans
    outcome_at-made i v y e f =
        let p = agree-take i in
        branch_by-made sim known (window_fronts known not_late cs front bound w) v p.names
        (branches_at sim front (map initial_branch ls) (take i ws))
        (branches_at sim bound (map initial_branch ls) (take i ws))
        p.at (targets-at sim.stations ws i v valid.targets e) y
        (sym (outcomes-at sim bound (map initial_branch ls) ws i v e) ∙ f)

    -- in a pass, an outcome is that of the bound or that of the front
    outcome_after-cases : (i j : ℕ) → (outcome_after sim front bound ls ws i j ≡ outcome_at sim bound ls ws j)
        ⊎ (outcome_after sim front bound ls ws i j ≡ outcome_at sim front ls ws j)
    outcome_after-cases i j = elim (cases_lt j i) [
      | inl l ↦ inl (ap (λ b. cond b (outcome_at sim bound ls ws j) (outcome_at sim front ls ws j)) (lt-ltb j i l))
      | inr l ↦ inr (ap (λ b. cond b (outcome_at sim bound ls ws j) (outcome_at sim front ls ws j)) (le-ltb j i l))
    ]

    -- so in a pass a branch has its trigger's new name
    outcome_after-name : (i j : ℕ) (v : Trigger N) (y : Branch) → slice_get ws j ≡ Some v →
        outcome_after sim front bound ls ws i j ≡ Some y → y.clone.name ≡ v.new
    outcome_after-name i j v y e f = by (outcome_after-cases i j) f
      where
        by : (outcome_after sim front bound ls ws i j ≡ outcome_at sim bound ls ws j)
            ⊎ (outcome_after sim front bound ls ws i j ≡ outcome_at sim front ls ws j)
            → outcome_after sim front bound ls ws i j ≡ Some y → y.clone.name ≡ v.new
        by (inl is) g = (outcome_at-made j v y e (sym is ∙ g)).0
        by (inr is) g = elim (outcome_at-same_or_late j v e) [
          | inl same ↦ (outcome_at-made j v y e (sym same ∙ (sym is ∙ g))).0
          | inr now ↦ (let a = now.0 in let no : ⊥ = cc in absurd no)
        ]

    -- no clone so far has the new name of a trigger that has made no branch
    pub name_is_new : (i : ℕ) (clones : List Clone) (places : List (Option ℕ)) (v : Trigger N) →
        slice_get ws i ≡ Some v → option_at places i ≡ None → HoldsAfter sim front bound ls ws i clones places →
        (k : ℕ) → k < length clones → (clone_at clones k).name ≡ v.new → ⊥
    name_is_new i clones places v e none h k l same =
        elim (in_append (range_with_len 0 (length ls)) (present places) k
        (in_permuted (range_with_len 0 (length clones)) (trigger_order (length ls) places) k h.order
        (range-has 0 (length clones) k (omega arith) (omega (arith, l))))) [
          | inl i1 ↦
              let below : k < 0 + length ls = range-below 0 (length ls) k i1 in
              let below' : k < length ls = omega (arith, below) in
              new_names-at names ws i v valid.new_names e
              (subst (λ n. In n names) (ap (λ (c : Clone). c.name) (sym (h.script k below')) ∙ same)
              (valid.clones (initial_branch (clone_at ls k)) (begin_has ls k below')).1)
          | inr i2 ↦ let m = present-at places k i2 in placed m.0 m.1 (slice_get ws m.0) refl
        ]
      where
        -- each clone of the script is one of the first branches
        begin_has : (cs : List Clone) (k : ℕ) → k < length cs →
            In (initial_branch (clone_at cs k)) (map initial_branch cs)
        begin_has [] k l = absurd (omega (arith, l))
        begin_has (c ∷ cs) zero l = inl refl
        begin_has (c ∷ cs) (suc k) l = inr (begin_has cs k (omega (arith, l)))

        -- the clone is at some trigger's place
        placed : (j : ℕ) → option_at places j ≡ Some k → (o : Option (Trigger N)) → slice_get ws j ≡ o → ⊥
        placed j p None q =
            let at = subst (IsPlaced clones (outcome_after sim front bound ls ws i j)) p (h.placed j) in
            let gone : outcome_after sim front bound ls ws i j ≡ None = nothing j q in
            subst (λ o. IsPlaced clones o (Some k)) gone at
          where
            nothing : (j : ℕ) → slice_get ws j ≡ None → outcome_after sim front bound ls ws i j ≡ None
            nothing j q = elim (outcome_after-cases i j) [
              | inl is ↦ is ∙ outcomes-past_end sim bound (map initial_branch ls) ws j q
              | inr is ↦ is ∙ outcomes-past_end sim front (map initial_branch ls) ws j q
            ]
        placed j p (Some u) q = with_outcome (outcome_after sim front bound ls ws i j) refl
            (subst (IsPlaced clones (outcome_after sim front bound ls ws i j)) p (h.placed j))
          where
            with_outcome : (o : Option Branch) → outcome_after sim front bound ls ws i j ≡ o →
                IsPlaced clones o (Some k) → ⊥
            with_outcome None g at = at
            with_outcome (Some y) g at =
                new_names-apart names ws i j v u valid.new_names e q
                (λ d. let f : option_at places i ≡ Some k = subst (λ n. option_at places n ≡ Some k) (sym d) p in
                let no : ⊥ = cc in no)
                (sym same ∙ ap (λ (c : Clone). c.name) at.1 ∙ outcome_after-name i j u y q g)
