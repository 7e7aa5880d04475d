-- The number handled once at a front: 0 at the start, and unchanged by a decision, an end and a fork.
use Rattle.std.proofs.Common.{◌≡◌, ℕ, zero, suc, ◌<◌, ◌≤◌, List, [], ◌∷◌, ◌++◌, inl, inr}
use Rattle.std.proofs.Common.{Bool, refl, sym, ap, ◌∙◌, subst, arith, map, length, slice_set}
use Rattle.std.specs.List.{flat_map}
use Rattle.std.specs.Set.{distinct_count}
use Rattle.sim_base.specs.Clones.{Clone, clone_at, clones_with_plan, clones_with_end, clones_with_fork, fork_of}
use Rattle.sim_base.specs.Clones.{with_plan, with_end}
use Rattle.sim_base.specs.declared.decision.Planned.{Planned}
use Rattle.sim_base.specs.declared.entry.Entry.{Entry}
use Rattle.run_laws.specs.Queue.{In}
use Rattle.run_laws.specs.Simulation.{Simulation}
use Rattle.run_laws.specs.World.{log_of}
use Rattle.run_laws.specs.Runs.{IsTimelyPlan, IsTimelyEnd, MayFork, log_at}
use Rattle.run_laws.specs.Handlers.{HandlesLawfully}
use Rattle.run_laws.specs.Sharing.{prefixes, same_list, logs_at, handled_once}
use Rattle.run_laws.specs.CountLaws.{TellsEntries}
use Rattle.run_laws.specs.Prefixes.{IsGained}
use Rattle.run_laws.proofs.Lists.{in_append, append_old}
use Rattle.run_laws.proofs.Prefixes.{gained_same, count_unique}
use Rattle.run_laws.proofs.Counts.{prefixes_count, in_map, map_has}
use Rattle.run_laws.proofs.Stands.{clone_in}
use Rattle.run_laws.proofs.Beginning.{run_at_0}
use Rattle.run_laws.proofs.Forks.{log_at-fork}
use Rattle.run_laws.proofs.Late.{decision_adds_due, end_drops_due}

-- ---- map, prefixes

-- a list in which the element at a place is changed to one with the same image has the same images
map-set : {Y : Type 0} (f : Clone → Y) (cs : List Clone) (who : ℕ) (k : Clone) → who < length cs →
    f k ≡ f (clone_at cs who) → map f (slice_set cs who k) ≡ map f cs
map-set f [] who k l e = absurd (omega arith)
map-set f (c ∷ cs) zero k l e = ap (λ y. y ∷ map f cs) e
map-set f (c ∷ cs) (suc who) k l e = ap (λ ys. f c ∷ ys) (map-set f cs who k (omega arith) e)

-- empty lists have no prefixes
no_prefixes : {E C : Type 0} (f : C → List E) (cs : List C) → ((c : C) → f c ≡ []) → flat_map prefixes (map f cs) ≡ []
no_prefixes f [] h = refl
no_prefixes f (c ∷ cs) h = ap (λ l. prefixes l ++ flat_map prefixes (map f cs)) (h c) ∙ no_prefixes f cs h

-- ---- handled_once

module _ {S M N : Type 0} (sim : Simulation S M N) where
  -- at front 0 each log is empty
  pub log_at-0 : (c : Clone) (s : ℕ) → log_at sim c s 0 ≡ []
  log_at-0 c s = ap (λ w. log_of sim.to s w.at.trace) (run_at_0 sim c)

  -- so nothing was handled once at front 0
  pub handled-0 : (same : Entry M N → Entry M N → Bool) (cs : List Clone) (s : ℕ) → handled_once sim same cs s 0 ≡ 0
  handled-0 same cs s = ap (λ l. distinct_count (same_list same) l)
      (no_prefixes (λ c. log_at sim c s 0) cs (λ c. log_at-0 c s))

module _ {S M N : Type 0} {sim : Simulation S M N} {Good : ℕ → S → Type 0} (law : HandlesLawfully sim Good) where
  -- a decision at the front or later
  pub handled-added : (same : Entry M N → Entry M N → Bool) (cs : List Clone) (front s who : ℕ) (p : Planned)
      (m : M) → IsTimelyPlan sim cs front who p m →
      handled_once sim same (clones_with_plan cs who p) s front ≡ handled_once sim same cs s front
  handled-added same cs front s who p m timely =
      ap (λ l. distinct_count (same_list same) (flat_map prefixes l))
      (map-set (λ c. log_at sim c s front) cs who (with_plan (clone_at cs who) p) timely.in_range
      (ap (λ w. log_of sim.to s w.trace) (decision_adds_due law (clone_at cs who) p front
      (subst (λ m. front ≤ sim.time m) timely.is timely.late)).world))

  -- an end at the front or later
  pub handled-ended : (same : Entry M N → Entry M N → Bool) (cs : List Clone) (front s who at : ℕ) → who < length cs →
      IsTimelyEnd sim (clone_at cs who) front at →
      handled_once sim same (clones_with_end cs who at) s front ≡ handled_once sim same cs s front
  handled-ended same cs front s who at there end =
      ap (λ l. distinct_count (same_list same) (flat_map prefixes l))
      (map-set (λ c. log_at sim c s front) cs who (with_end (clone_at cs who) at) there
      (ap (λ w. log_of sim.to s w.trace) (end_drops_due law (clone_at cs who) at front end).world))

module _ {S M N : Type 0} (sim : Simulation S M N) (same : Entry M N → Entry M N → Bool)
    (decides : TellsEntries same) where
  -- the same logs have the same prefixes
  same_prefixes : (xs ys : List (List (Entry M N))) → ((l : List (Entry M N)) → In l xs → In l ys) →
      ((l : List (Entry M N)) → In l ys → In l xs) →
      distinct_count (same_list same) (flat_map prefixes xs) ≡ distinct_count (same_list same) (flat_map prefixes ys)
  same_prefixes xs ys f g = count_unique (IsGained (λ l. In l ys) [])
      (distinct_count (same_list same) (flat_map prefixes xs)) (distinct_count (same_list same) (flat_map prefixes ys))
      (gained_same (λ l. In l xs) (λ l. In l ys) [] (distinct_count (same_list same) (flat_map prefixes xs)) f g
      (prefixes_count same decides xs))
      (prefixes_count same decides ys)

  -- a fork has the log of its old clone
  pub handled-forked : (cs : List Clone) (name : List ℕ) (old s front : ℕ) → MayFork cs old →
      handled_once sim same (clones_with_fork cs name old) s front
      ≡ handled_once sim same cs s front
  handled-forked cs name old s front may =
      let k : Clone = fork_of (clone_at cs old) name in
      let f : Clone → List (Entry M N) = λ c. log_at sim c s front in
      let here : List (List (Entry M N)) = logs_at sim cs s front in
      let log : f k ≡ f (clone_at cs old) = log_at-fork sim (clone_at cs old) name may.going s front in
      same_prefixes (logs_at sim (clones_with_fork cs name old) s front) here
      (λ l i. let h = in_map f (cs ++ k ∷ []) l i in elim (in_append cs (k ∷ []) h.0 h.1) [
        | inl j ↦ subst (λ u. In u here) (sym h.2) (map_has f cs h.0 j)
        | inr j ↦ elim j [
          | inl e ↦ subst (λ u. In u here) (sym (h.2 ∙ ap f e ∙ log))
              (map_has f cs (clone_at cs old) (clone_in cs old may.in_range))
          | inr z ↦ absurd z
        ]
      ])
      (λ l i. let h = in_map f cs l i in subst (λ u. In u (logs_at sim (clones_with_fork cs name old) s front))
      (sym h.2)
      (map_has f (cs ++ k ∷ []) h.0 (append_old cs (k ∷ []) h.0 h.1)))
