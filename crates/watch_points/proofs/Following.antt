-- Triggers that are followed: at the start, and at the beginning and the end of a pass.
use Rattle.std.proofs.Common.{◌≡◌, ℕ, zero, suc, ◌+◌, ◌≤◌, Bool, List, [], ◌∷◌, cond, Option, Some, None}
use Rattle.std.proofs.Common.{refl, sym, ap}
use Rattle.std.proofs.Common.{◌∙◌, subst, arith, map, length, take, length-append}
use Rattle.std.specs.Prelude.{slice_get}
use Rattle.std.proofs.lemmas.Bool.{lt-ltb, le-ltb}
use Rattle.std.proofs.lemmas.List.{take-append-le}
use Rattle.std.proofs.lemmas.List.Sorted.{IsPermutation-sym}
use Rattle.std.proofs.lemmas.Option.{slice_get_within}
use Rattle.sim_base.specs.Clones.{Clone, clone_at, clones_with_fork, clones_with_plan, fork_of, with_plan}
use Rattle.sim_base.specs.declared.decision.Planned.{Planned}
use Rattle.sim_base.specs.declared.entry.Entry.{Entry}
use Rattle.run_laws.specs.Queue.{In}
use Rattle.run_laws.specs.Simulation.{Simulation}
use Rattle.run_laws.specs.Runs.{MayFork}
use Rattle.run_laws.specs.Handlers.{HandlesLawfully}
use Rattle.run_laws.specs.Sharing.{handled_once}
use Rattle.run_laws.specs.CountLaws.{TellsEntries}
use Rattle.run_laws.proofs.Counts.{map_has}
use Rattle.run_laws.proofs.HandledStays.{handled-added, handled-forked, log_at-0}
use Rattle.watch_points.specs.Due.{due_in}
use Rattle.watch_points.specs.Branches.{Branch, Trigger, branches_at, initial_branch}
use Rattle.watch_points.specs.Keeping.{HoldsBranches, trigger_order}
use Rattle.run_laws.specs.Orders.{in_order}
use Rattle.watch_points.specs.PassLaws.{source_at}
use Rattle.watch_points.proofs.BranchBodies.{fork_with_plan}
use Rattle.watch_points.proofs.Keeping.{clones_in_trigger_order, holds_at_start, pass_begins, pass_ends}
use Rattle.run_laws.proofs.Orders.{in_order-permutation, in_permuted}
use Rattle.watch_points.specs.Passes.{AreFollowed, HavePassed}
use Rattle.watch_points.specs.Progress.{HasProgress, IsWaiting, made_place, places_of}
use Rattle.watch_points.specs.declared.watcher.Progress.{Progress}
use Rattle.watch_points.specs.declared.watcher.Progress.TheVariants.{Waiting}

-- ---- places_of

-- if all triggers wait, no branch was made
places_of-waiting : {N : Type 0} (ts : List (Trigger N)) (progress : List Progress) → length progress ≡ length ts →
    ((j : ℕ) (p : Progress) → slice_get progress j ≡ Some p → p ≡ Waiting 0) →
    places_of progress ≡ map (λ t. None) ts
places_of-waiting [] [] l f = refl
places_of-waiting [] (p ∷ progress) l f = absurd (omega (arith, l))
places_of-waiting (t ∷ ts) [] l f = absurd (omega (arith, l))
places_of-waiting (t ∷ ts) (p ∷ progress) l f =
    ap (λ q. made_place q ∷ places_of progress) (f zero p refl)
    ∙ ap (λ l. None ∷ l) (places_of-waiting ts progress (omega (arith, l)) (λ j. f (suc j)))

-- ---- clones_with_plan, clones_with_fork

-- a fork and a set of the new clone leave the first clones
pub take-branch : (n : ℕ) (cs : List Clone) (k : ℕ) (name : List ℕ) (p : Planned) → n ≤ length cs →
    take n (clones_with_plan (clones_with_fork cs name k) (length cs) p) ≡ take n cs
take-branch n cs k name p l =
    ap (take n) (fork_with_plan cs k name p)
    ∙ take-append-le n cs (with_plan (fork_of (clone_at cs k) name) p ∷ []) l

-- and append one clone
pub length-branch : (cs : List Clone) (k : ℕ) (name : List ℕ) (p : Planned) →
    length (clones_with_plan (clones_with_fork cs name k) (length cs) p) ≡ length cs + 1
length-branch cs k name p = ap length (fork_with_plan cs k name p)
    ∙ length-append cs (with_plan (fork_of (clone_at cs k) name) p ∷ [])

module _ {S M N : Type 0} {sim : Simulation S M N} {Good : ℕ → S → Type 0} (law : HandlesLawfully sim Good) where
  -- and leave what was handled once
  pub handled-branch : (same : Entry M N → Entry M N → Bool) → TellsEntries same →
      ((k : ℕ) (p : Planned) → sim.time (sim.set_message k p) ≡ p.at) →
      (cs : List Clone) (k : ℕ) (name : List ℕ) (p : Planned) (s front : ℕ) → MayFork cs k → front ≤ p.at →
      handled_once sim same (clones_with_plan (clones_with_fork cs name k) (length cs) p) s front
      ≡ handled_once sim same cs s front
  handled-branch same tells at cs k name p s front may late =
      handled-added law same (clones_with_fork cs name k) front s (length cs) p
      (sim.set_message (length (clone_at (clones_with_fork cs name k) (length cs)).plans) p)
      (record {
        in_range = omega (arith, length-append cs (fork_of (clone_at cs k) name ∷ []));
        is = refl;
        late = omega (arith, late, at (length (clone_at (clones_with_fork cs name k) (length cs)).plans) p);
      })
      ∙ handled-forked sim same tells cs name k s front may

module _ {S M N : Type 0} (sim : Simulation S M N) (script : List Clone) (ts : List (Trigger N)) where
  -- ---- AreFollowed

  -- at front 0 all triggers wait
  pub followed_at_start : (progress : List Progress) → length progress ≡ length ts →
      ((j : ℕ) (p : Progress) → slice_get progress j ≡ Some p → p ≡ Waiting 0) →
      AreFollowed sim script ts 0 progress script
  followed_at_start progress same waiting = record {
    holds = subst (λ ps. HoldsBranches sim 0 script ts script ps)
        (sym (places_of-waiting ts progress same waiting)) (holds_at_start sim script ts);
    have_progress = λ j t p e f. subst (HasProgress sim script ts 0 j t) (sym (waiting j p f))
        (waits t (source_at sim 0 script ts j t));
  }
    where
      waits : (t : Trigger N) (o : Option Branch) → IsWaiting sim script ts 0 t 0 o
      waits t None = refl
      waits t (Some b) = (ap (due_in sim.time t.condition b.start) (log_at-0 sim b.clone t.station), omega arith)

  -- a branch of a followed world is one of its clones
  pub followed-held : (front : ℕ) (progress : List Progress) (cs : List Clone) →
      AreFollowed sim script ts front progress cs → (b : Branch) →
      In b (branches_at sim front (map initial_branch script) ts) → In b.clone cs
  followed-held front progress cs f b i =
      in_permuted (in_order cs (trigger_order (length script) (places_of progress))) cs b.clone
      (IsPermutation-sym cs (in_order cs (trigger_order (length script) (places_of progress)))
      (in_order-permutation cs (trigger_order (length script) (places_of progress)) f.holds.order))
      (subst (In b.clone) (sym (clones_in_trigger_order sim front script ts cs (places_of progress) f.holds))
      (map_has (λ (b : Branch). b.clone) (branches_at sim front (map initial_branch script) ts) b i))

  -- ---- HavePassed

  -- before a pass
  pub pass_starts : (front bound : ℕ) (progress : List Progress) (cs : List Clone) →
      AreFollowed sim script ts front progress cs → HavePassed sim script ts front bound 0 progress cs
  pass_starts front bound progress cs f = record {
    holds = pass_begins sim front bound script ts cs (places_of progress) f.holds;
    have_progress = λ j t p e g. subst (λ n. HasProgress sim script ts n j t p)
        (sym (ap (λ b. cond b bound front) (le-ltb j 0 (omega arith)))) (f.have_progress j t p e g);
  }

  -- after a pass
  pub pass_stops : (front bound : ℕ) (progress : List Progress) (cs : List Clone) →
      HavePassed sim script ts front bound (length ts) progress cs → AreFollowed sim script ts bound progress cs
  pass_stops front bound progress cs h = record {
    holds = pass_ends sim front bound script ts cs (places_of progress) h.holds;
    have_progress = λ j t p e g. subst (λ n. HasProgress sim script ts n j t p)
        (ap (λ b. cond b bound front) (lt-ltb j (length ts) (slice_get_within ts j t e))) (h.have_progress j t p e g);
  }
