-- One step of a pass, case by case: the outcome, and the conditions of the fork and the set that make the branch.
use Rattle.std.proofs.Common.{◌≡◌, ℕ, zero, suc, ◌+◌, ◌<◌, ◌≤◌, List, [], ◌∷◌, ◌++◌, inl, inr, Option, Some, None, refl}
use Rattle.std.proofs.Common.{sym, ap, ◌∙◌, arith, subst, cond, map, length, slice_set, Bool, true, false, not, nat_lt}
use Rattle.std.specs.List.{range_with_len, position_or_len}
use Rattle.std.specs.Str.{bytes_eq}
use Rattle.std.proofs.lemmas.Slice.Eq.{bytes_eq-Decides}
use Rattle.std.proofs.lemmas.Option.{slice_get_within}
use Rattle.std.proofs.lemmas.Bool.{lt-ltb, le-ltb}
use Rattle.std.proofs.Common.{length-append}
use Rattle.std.proofs.lemmas.List.Sorted.{length_permutation}
use Rattle.sim_base.specs.Clones.{Clone, clone_at, clones_with_fork, clones_with_plan, fork_of, with_plan, place_of}
use Rattle.sim_base.specs.declared.decision.Planned.{Planned}
use Rattle.run_laws.specs.Simulation.{Simulation}
use Rattle.run_laws.specs.Handlers.{IsStation}
use Rattle.run_laws.proofs.Places.{clone_push_same}
use Rattle.watch_points.specs.Branches.{Branch, Trigger, initial_branch, present, branch_if_due, branch_from}
use Rattle.watch_points.specs.Branches.{branch_of, due_time}
use Rattle.watch_points.specs.Keeping.{HoldsAfter, IsPlaced, option_at, trigger_order, outcome_at}
use Rattle.watch_points.specs.BranchLaws.{DueAtFront, DueIsNotLate}
use Rattle.watch_points.specs.PassLaws.{SameOrLate, Fires, IsInPass, PassGoesOn, source_at}
use Rattle.watch_points.proofs.Keeping.{pass_grows, pass_stays, no_place, outcome_after-ahead, present-fewer}
use Rattle.watch_points.proofs.BranchSteps.{name_is_new, outcome_at-same_or_late, outcomes-at, targets-at}

-- ---- clones_with_fork, clones_with_plan

-- a decision of the last clone
with_plan-last : (cs : List Clone) (c : Clone) (p : Planned) →
    slice_set (cs ++ c ∷ []) (length cs) (with_plan c p) ≡ cs ++ with_plan c p ∷ []
with_plan-last [] c p = refl
with_plan-last (x ∷ cs) c p = ap (λ l. x ∷ l) (with_plan-last cs c p)

-- a fork, and then a decision of the new clone, append one clone with both
pub fork_with_plan : (cs : List Clone) (old : ℕ) (name : List ℕ) (p : Planned) →
    clones_with_plan (clones_with_fork cs name old) (length cs) p
    ≡ cs ++ with_plan (fork_of (clone_at cs old) name) p ∷ []
fork_with_plan cs old name p =
    let c : Clone = fork_of (clone_at cs old) name in
    ap (λ k. slice_set (cs ++ fork_of (clone_at cs old) name ∷ []) (length cs) (with_plan k p))
    (clone_push_same cs (fork_of (clone_at cs old) name))
    ∙ with_plan-last cs (fork_of (clone_at cs old) name) p

-- ---- trigger_order

-- if a trigger has made no branch, there are fewer clones than clones of the script and triggers
pub few_clones : (n : ℕ) (cs : List Clone) (places : List (Option ℕ)) (i : ℕ) → i < length places →
    option_at places i ≡ None → length (trigger_order n places) ≡ length (range_with_len 0 (length cs)) →
    length cs < n + length places
few_clones n cs places i l e same =
    let fewer = present-fewer places i l e in
    omega (arith, fewer, same, length-append (range_with_len 0 n) (present places), long 0 (length cs), long 0 n)
  where
    long : (a n : ℕ) → length (range_with_len a n) ≡ n
    long a zero = refl
    long a (suc n) = ap suc (long (a + 1) n)

-- ---- place_of

-- if no clone has a name, the name has no place
place_of-none : (name : List ℕ) (cs : List Clone) → ((k : ℕ) → k < length cs → (clone_at cs k).name ≡ name → ⊥) →
    place_of name cs ≡ None
place_of-none name cs f = ap (λ n. cond (nat_lt n (length cs)) (Some n) None) (past cs f)
    ∙ ap (λ b. cond b (Some (length cs)) None) (le-ltb (length cs) (length cs) (omega arith))
  where
    past : (cs : List Clone) → ((k : ℕ) → k < length cs → (clone_at cs k).name ≡ name → ⊥) →
        position_or_len (λ (c : Clone). bytes_eq c.name name) cs ≡ length cs
    past [] f = refl
    past (c ∷ cs) f = by (bytes_eq c.name name) refl (past cs (λ k l. f (suc k) (omega (arith, l))))
      where
        by : (b : Bool) → bytes_eq c.name name ≡ b →
            position_or_len (λ (c : Clone). bytes_eq c.name name) cs ≡ length cs →
            cond (not b) (1 + position_or_len (λ (c : Clone). bytes_eq c.name name) cs) 0 ≡ suc (length cs)
        by true e rest = absurd (f zero (omega arith) ((bytes_eq-Decides c.name name).0 e))
        by false e rest = omega (arith, rest)

-- ---- StepHolds

module _ {S M N : Type 0} {sim : Simulation S M N} (known : DueAtFront sim) (not_late : DueIsNotLate sim)
    {window_clones : List Clone} {front bound : ℕ} {ls : List Clone} {ws : List (Trigger N)} {i : ℕ} {w : Trigger N}
    {cs : List Clone} {places : List (Option ℕ)}
    (p : IsInPass sim window_clones front bound ls ws i w cs places) where
  -- the outcome at front and bound
  step_outcome : SameOrLate (λ t. bound ≤ t) (outcome_at sim front ls ws i) (outcome_at sim bound ls ws i)
  step_outcome = outcome_at-same_or_late known not_late p.names ls ws p.valid window_clones front bound p.window p.held
      i w p.trigger

  -- if the trigger has no place, its outcome at the front is none
  none_before : option_at places i ≡ None → outcome_at sim front ls ws i ≡ None
  none_before e = by (outcome_at sim front ls ws i) refl
      (subst (λ o. IsPlaced cs o (option_at places i)) (outcome_after-ahead sim front bound ls ws i i (omega arith))
      (p.so_far.placed i))
    where
      by : (o : Option Branch) → outcome_at sim front ls ws i ≡ o →
          IsPlaced cs (outcome_at sim front ls ws i) (option_at places i) → outcome_at sim front ls ws i ≡ None
      by None f g = f
      by (Some b) f g = absurd (subst (IsPlaced cs (Some b)) e (subst (λ o. IsPlaced cs o (option_at places i)) f g))

  -- the trigger has made its branch before, and the branch stays
  step_made : (k : ℕ) → option_at places i ≡ Some k → HoldsAfter sim front bound ls ws (i + 1) cs places
  step_made k e = elim step_outcome [
    | inl same ↦ pass_stays sim front bound ls ws i cs places same p.so_far
    | inr now ↦ (let no : option_at places i ≡ None = no_place sim front bound ls ws i cs places now.0 p.so_far in
        let never : ⊥ = cc in absurd never)
  ]

  -- the trigger makes none now
  none_now : outcome_at sim bound ls ws i ≡ None → option_at places i ≡ None →
      HoldsAfter sim front bound ls ws (i + 1) cs places
  none_now e f = pass_stays sim front bound ls ws i cs places (none_before f ∙ sym e) p.so_far

  -- the outcome at the bound, by the source
  outcome_of_source : (o : Option Branch) → source_at sim bound ls ws i w ≡ o →
      outcome_at sim bound ls ws i ≡ branch_from sim bound w o
  outcome_of_source o e = outcomes-at sim bound (map initial_branch ls) ws i w p.trigger
      ∙ ap (branch_from sim bound w) e

  -- the source is not there
  step_absent : source_at sim bound ls ws i w ≡ None → option_at places i ≡ None →
      HoldsAfter sim front bound ls ws (i + 1) cs places
  step_absent e f = none_now (outcome_of_source None e) f

  module _ (b : Branch) (source : source_at sim bound ls ws i w ≡ Some b) (none : option_at places i ≡ None) where
    -- the trigger is not due
    step_not_due : due_time sim bound w b ≡ None → HoldsAfter sim front bound ls ws (i + 1) cs places
    step_not_due e = none_now (outcome_of_source (Some b) source ∙ ap (branch_if_due sim w b.clone) e) none

    -- the change would come at the horizon or later
    step_past_horizon : (t : ℕ) → due_time sim bound w b ≡ Some t → sim.horizon ≤ t + sim.lookahead →
        HoldsAfter sim front bound ls ws (i + 1) cs places
    step_past_horizon t e l = none_now (outcome_of_source (Some b) source ∙ ap (branch_if_due sim w b.clone) e
        ∙ ap (λ c. cond c (Some (branch_of sim w b.clone t)) None) (le-ltb (t + sim.lookahead) sim.horizon l)) none

  module _ (b : Branch) (t : ℕ) (f : Fires sim bound ls ws i w places b t) where
    -- the trigger makes a branch
    makes : outcome_at sim bound ls ws i ≡ Some (branch_of sim w b.clone t)
    makes = outcome_of_source (Some b) f.is_source ∙ ap (branch_if_due sim w b.clone) f.is_due
        ∙ ap (λ c. cond c (Some (branch_of sim w b.clone t)) None) (lt-ltb (t + sim.lookahead) sim.horizon f.in_time)

    -- the change is not late
    step_not_late : bound ≤ t + sim.lookahead
    step_not_late = elim step_outcome [
      | inl same ↦ (let a = none_before f.no_place in let b = makes in let never : ⊥ = cc in absurd never)
      | inr now ↦ (let same : now.1.0 ≡ branch_of sim w b.clone t = let a = now.1.1 in let b = makes in cc in
          subst (λ (y : Branch). bound ≤ y.start) same now.1.2)
    ]

    -- the fork and the set make the branch
    step_fires : (k : ℕ) → clone_at cs k ≡ b.clone →
        HoldsAfter sim front bound ls ws (i + 1)
        (clones_with_plan (clones_with_fork cs w.new k) (length cs)
        (record { at = t + sim.lookahead; station = w.target; change = w.change }))
        (slice_set places i (Some (length cs)))
    step_fires k is =
        subst (λ l. HoldsAfter sim front bound ls ws (i + 1) l (slice_set places i (Some (length cs))))
        (sym (fork_with_plan cs k w.new (record { at = t + sim.lookahead; station = w.target; change = w.change })
        ∙ ap (λ (c : Clone). cs ++ with_plan (fork_of c w.new)
        (record { at = t + sim.lookahead; station = w.target; change = w.change }) ∷ []) is))
        (pass_grows sim front bound ls ws i cs places (branch_of sim w b.clone t) (slice_get_within ws i w p.trigger)
        (none_before f.no_place) makes p.so_far)

  -- the set is for a station
  step_is_station : IsStation sim w.target
  step_is_station = targets-at sim.stations ws i w p.valid.targets p.trigger

  -- the fork has room
  step_room : option_at places i ≡ None → length cs < length ls + length places
  step_room none =
      let below = slice_get_within ws i w p.trigger in
      let same = p.so_far.same_length in
      few_clones (length ls) cs places i (omega (arith, below, same)) none
      (length_permutation (range_with_len 0 (length cs)) (trigger_order (length ls) places) p.so_far.order)

  -- the fork has an unused name
  step_unused : option_at places i ≡ None → place_of w.new cs ≡ None
  step_unused none = place_of-none w.new cs (name_is_new known not_late p.names ls ws p.valid window_clones front bound
      p.window p.held i cs places w p.trigger none p.so_far)

module _ {S M N : Type 0} {sim : Simulation S M N} (known : DueAtFront sim) (not_late : DueIsNotLate sim) where
  -- each step of a pass holds the branches
  pub pass_goes_on : PassGoesOn sim
  pass_goes_on window_clones front bound ls ws i w cs places p = record {
    outcome = step_outcome known not_late p;
    made = step_made known not_late p;
    absent = step_absent known not_late p;
    not_due = step_not_due known not_late p;
    past_horizon = step_past_horizon known not_late p;
    fires = step_fires known not_late p;
    not_late = step_not_late known not_late p;
    is_station = step_is_station known not_late p;
    room = step_room known not_late p;
    unused = step_unused known not_late p;
  }
