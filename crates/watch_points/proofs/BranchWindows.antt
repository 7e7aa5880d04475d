-- Due times at a window's end.
use Rattle.std.proofs.Common.{◌≡◌, ℕ, ◌+◌, ◌≤◌, min, List, [], ◌∷◌, inl, inr, Bool, Option, Some, None, nat_lt, sym, ap}
use Rattle.std.proofs.Common.{◌∙◌, arith, cond}
use Rattle.std.specs.Prelude.{max}
use Rattle.std.specs.List.{AllByRecursion}
use Rattle.std.specs.declared.cmp.Ordering.TheVariants.{Less}
use Rattle.std.proofs.lemmas.Bool.{cases_lt, lt-ltb}
use Rattle.sim_base.specs.Clones.{Clone}
use Rattle.sim_base.specs.declared.entry.Entry.{Entry}
use Rattle.sim_base.proofs.ListLaws.{all_weaker}
use Rattle.sim_base.proofs.OrderEqual.{ordering_then-le}
use Rattle.run_laws.specs.Queue.{In, Sorted}
use Rattle.run_laws.specs.Simulation.{Simulation}
use Rattle.run_laws.specs.Runs.{log_at, all_due}
use Rattle.run_laws.specs.Fronts.{least, window_end}
use Rattle.run_laws.specs.FrontLaws.{time_before, IsLeastTime}
use Rattle.run_laws.specs.Merges.{entry_order}
use Rattle.run_laws.specs.Handlers.{HandlesLawfully, SendsToStations, HandlesFreshly, AreForStations}
use Rattle.run_laws.proofs.Queue.{all_in, all_from}
use Rattle.run_laws.proofs.Fronts.{log_at_front}
use Rattle.run_laws.proofs.NextFronts.{all_due-from_front, log_at-nothing_due}
use Rattle.run_laws.proofs.DueTimes.{least-is}
use Rattle.run_laws.proofs.Traces.{log_rises}
use Rattle.watch_points.specs.Due.{RisesByTime, due_in}
use Rattle.watch_points.specs.BranchLaws.{DueAtFront, DueIsNotLate}
use Rattle.watch_points.proofs.Due.{due_in-before_front}

-- ---- RisesByTime

module _ {M N : Type 0} (time sender number : M → ℕ) where
  -- an entry that comes before others by key is not later than they are
  entry_order-time : (e : Entry M N) (es : List (Entry M N)) →
      AllByRecursion (λ f. entry_order time sender number e f ≡ Less) es →
      AllByRecursion (λ f. time e.msg ≤ time f.msg) es
  entry_order-time e es h = all_weaker (λ f. entry_order time sender number e f ≡ Less)
      (λ f. time e.msg ≤ time f.msg) es (λ f l. ordering_then-le (time e.msg) (time f.msg) _ l) h

  -- a log that rises by key rises by time
  rises_by_time : (es : List (Entry M N)) → Sorted (entry_order time sender number) es → RisesByTime time es
  rises_by_time [] s = tt
  rises_by_time (e ∷ es) s = (entry_order-time e es s.0, rises_by_time es s.1)

-- ---- least

module _ {S M N : Type 0} (sim : Simulation S M N) (front : ℕ) where
  -- a message is due in one of the clones
  abbrev DueIn : List Clone → M → Type 0
  DueIn cs m = (c : Clone) × In c cs × In m (all_due sim c front)

module _ {S M N : Type 0} {sim : Simulation S M N} {Good : ℕ → S → Type 0} {sender number : M → ℕ} {next : S → ℕ}
    (law : HandlesLawfully sim Good) (stations : SendsToStations sim Good)
    (fresh : HandlesFreshly sim Good sender number next) where
  -- the log at a front has the due times before the front
  pub due_at_front : DueAtFront sim
  due_at_front condition c s start front bound there l =
      ap (due_in sim.time condition start) (sym (log_at_front law c s front bound l))
      ∙ due_in-before_front sim.time condition start front (log_at sim c s bound)
      (rises_by_time sim.time sender number (log_at sim c s bound) (log_rises law stations fresh c bound there s))

  -- if no message is due before a time at a window's beginning, the window's due times are at that time or later
  due_in-at_least : (condition : N → Bool) (c : Clone) (s start front until bound t : ℕ) → AreForStations sim c.plans →
      front ≤ until → until ≤ bound → AllByRecursion (λ m. until ≤ sim.time m) (all_due sim c front) →
      due_in sim.time condition start (log_at sim c s front) ≡ None →
      due_in sim.time condition start (log_at sim c s bound) ≡ Some t → until ≤ t
  due_in-at_least condition c s start front until bound t there l k due before at =
      let is : None ≡ time_before until (Some t) =
      sym before ∙ ap (due_in sim.time condition start) (sym (log_at-nothing_due law c s front until l due))
      ∙ due_at_front condition c s start until bound there k ∙ ap (time_before until) at in
      elim (cases_lt t until) [
        | inl e ↦ (let yes : time_before until (Some t) ≡ Some t = ap (λ c. cond c (Some t) None) (lt-ltb t until e) in
            let no : ⊥ = cc in absurd no)
        | inr e ↦ e
      ]

  -- so a change that is decided at the window's end, later than the due time by the lookahead, is not late
  pub due_is_not_late : DueIsNotLate sim
  due_is_not_late condition cs c s start front bound t there i w before at =
      by (least sim cs front) (least-is sim front cs) w.within
    where
      -- the messages due in the clone are at the front or later
      from_front : AllByRecursion (λ m. front ≤ sim.time m) (all_due sim c front)
      from_front = all_due-from_front law c front

      -- by the least time that is due in the clones
      by : (o : Option ℕ) → IsLeastTime sim.time (DueIn sim front cs) o → bound ≤ window_end sim o →
          bound ≤ t + sim.lookahead
      by None none h =
          let far : bound ≤ t = due_in-at_least condition c s start front bound bound t there w.later (omega arith)
          (all_from (λ m. bound ≤ sim.time m) (all_due sim c front) (λ m j. absurd (none m (c, i, j)))) before at in
          omega (arith, far)
      by (Some least) is h =
          let least_far : AllByRecursion (λ m. max front (min least bound) ≤ sim.time m) (all_due sim c front) =
          all_from (λ m. max front (min least bound) ≤ sim.time m) (all_due sim c front) (λ m j.
          let a : least ≤ sim.time m = is.1 m (c, i, j) in
          let b : front ≤ sim.time m = all_in (λ m. front ≤ sim.time m) (all_due sim c front) m from_front j in
          omega (arith, a, b)) in
          let later = w.later in
          let far : max front (min least bound) ≤ t =
          due_in-at_least condition c s start front (max front (min least bound)) bound t there (omega arith)
          (omega (arith, later)) least_far before at in
          omega (arith, far, h)
