-- The trace of a clone is the merge of its stations' logs.
use Rattle.std.proofs.Common.{◌≡◌, ℕ, zero, suc, ◌<◌, ◌≤◌, min, List, [], ◌∷◌}
use Rattle.std.proofs.Common.{inl, inr, ◌==◌, refl, ap, subst, arith, map, eq-eqb, eqb-true}
use Rattle.std.specs.declared.cmp.Ordering.{Ordering}
use Rattle.std.specs.declared.cmp.Ordering.TheVariants.{Less, Equal}
use Rattle.std.proofs.lemmas.Bool.{cases_eq}
use Rattle.sim_base.specs.Clones.{Clone}
use Rattle.sim_base.specs.declared.entry.Entry.{Entry}
use Rattle.sim_base.proofs.ListLaws.{all_of_map}
use Rattle.sim_base.proofs.OrderLaws.{entry_total}
use Rattle.run_laws.specs.Queue.{In, Sorted}
use Rattle.run_laws.specs.Simulation.{Simulation}
use Rattle.run_laws.specs.Runs.{end_of, run_of, log_at}
use Rattle.run_laws.specs.Handlers.{IsStation, AreForStations, key_order}
use Rattle.run_laws.specs.Handlers.{HandlesLawfully, SendsToStations, HandlesFreshly, IsStationOf}
use Rattle.run_laws.proofs.Queue.{all_in, same_elements}
use Rattle.run_laws.proofs.Lists.{in_filter, filter_keeps, sorted_filter}
use Rattle.run_laws.proofs.ForStations.{trace_for_stations}
use Rattle.run_laws.proofs.Rising.{trace_rises}
use Rattle.run_laws.specs.Merges.{entry_order, merge_of_lists, merge_of_logs}
use Rattle.run_laws.specs.TraceLaws.{InLists, InLogs}
use Rattle.run_laws.proofs.Merges.{in_merge, merge_has, sorted_merge, ties_are_one}

-- entries whose messages are in order are in order
sorted_entries : {M N : Type 0} (cmp : M → M → Ordering) (es : List (Entry M N)) → Sorted cmp (map (λ e. e.msg) es) →
    Sorted (λ e f. cmp e.msg f.msg) es
sorted_entries cmp [] s = tt
sorted_entries {M} {N} cmp (e ∷ es) s =
    (all_of_map (λ (m : M). cmp e.msg m ≡ Less) (λ (f : Entry M N). f.msg) es s.0, sorted_entries cmp es s.1)

module _ {S M N : Type 0} {sim : Simulation S M N} {Good : ℕ → S → Type 0} {sender number : M → ℕ} {next : S → ℕ}
    (law : HandlesLawfully sim Good) (stations : SendsToStations sim Good)
    (fresh : HandlesFreshly sim Good sender number next) where
  -- the order of entries by key
  abbrev by_key : Entry M N → Entry M N → Ordering
  by_key = entry_order sim.time sender number

  module _ (c : Clone) (front : ℕ) (there : AreForStations sim c.plans) where
    -- the trace of the clone at the front
    abbrev trace : List (Entry M N)
    trace = (run_of sim c front).at.trace

    -- a trace rises by key
    pub trace_sorted : Sorted by_key trace
    trace_sorted = sorted_entries (key_order sim.time sender number) trace
        (trace_rises law stations fresh c front there)

    -- each entry of the trace is of a station
    pub of_station : (e : Entry M N) → In e trace → IsStation sim (sim.to e.msg)
    of_station e i = all_in (λ e. IsStation sim (sim.to e.msg)) trace e
        (trace_for_stations law stations c.plans (min front (end_of sim c)) there) i

    -- and in its log
    in_some_log : (e : Entry M N) → In e trace → InLogs sim c front e
    in_some_log e i = (
      sim.to e.msg,
      of_station e i,
      filter_keeps (λ f. sim.to f.msg == sim.to e.msg) trace e i (eq-eqb (sim.to e.msg) (sim.to e.msg) refl),
    )

    -- and each entry of a log is in the trace
    pub in_trace : (s : ℕ) (e : Entry M N) → In e (log_at sim c s front) → In e trace
    in_trace s e i = (in_filter (λ f. sim.to f.msg == s) trace e i).0

    -- a list that rises by key, with the entries of the logs, is the trace
    pub trace_of_logs : (es : List (Entry M N)) → Sorted by_key es
        → ((e : Entry M N) → In e es → InLogs sim c front e) →
        ((e : Entry M N) → InLogs sim c front e → In e es) → es ≡ trace
    trace_of_logs es sorted from all = same_elements (entry_total sim.time sender number N) es trace sorted trace_sorted
        (λ e i. let h = from e i in in_trace h.0 e h.2)
        (λ e i. all e (in_some_log e i))

    -- ---- merge_of_lists

    -- a list for each station, in order and of entries of its log
    module _ (list : ℕ → List (Entry M N)) (rises : (s : ℕ) → Sorted by_key (list s))
        (own : (s : ℕ) (e : Entry M N) → In e (list s) → In e (log_at sim c s front)) where
      -- the elements of the merged lists of the stations 1 to n
      in_merged : (n : ℕ) (e : Entry M N) → In e (merge_of_lists sim sender number list n) →
          (s : ℕ) × IsStationOf n s × In e (list s)
      in_merged zero e i = absurd i
      in_merged (suc n) e i = elim (in_merge by_key (merge_of_lists sim sender number list n) (list (suc n)) e i) [
        | inl j ↦ let h = in_merged n e j in let high : h.0 ≤ n = h.1.1 in
            (h.0, (h.1.0, omega (arith, high)), h.2)
        | inr j ↦ (suc n, (omega arith, omega arith), j)
      ]

      -- each of them is from a station's list
      pub merged_in_lists : (e : Entry M N) → In e (merge_of_lists sim sender number list sim.stations)
          → InLists sim list e
      merged_in_lists e i = in_merged sim.stations e i

      -- the merged lists of the stations 1 to n have all that is in one of them
      merged_has : (n : ℕ) (e : Entry M N) (s : ℕ) → IsStationOf n s → In e (list s) →
          In e (merge_of_lists sim sender number list n)
      merged_has zero e s here i = let low : 0 < s = here.0 in let high : s ≤ 0 = here.1 in
          absurd (omega (arith, low, high))
      merged_has (suc n) e s here i = merge_has by_key (merge_of_lists sim sender number list n) (list (suc n)) e (
          elim (cases_eq s (suc n)) [
            | inl a ↦ inr (subst (λ r. In e (list r)) a i)
            | inr b ↦ inl (merged_has n e s
                (here.0, let high : s ≤ suc n = here.1 in let k : s ≤ n = omega (arith, b, high) in k) i)
          ])

      -- and the merge of all stations has the elements of a station's list
      pub in_lists_merged : (e : Entry M N) → InLists sim list e
          → In e (merge_of_lists sim sender number list sim.stations)
      in_lists_merged e h = merged_has sim.stations e h.0 h.1 h.2

      -- no entry of an earlier station's list ties with one of the next
      no_ties : (n : ℕ) (x y : Entry M N) → In x (merge_of_lists sim sender number list n) → In y (list (suc n)) →
          by_key x y ≡ Equal → ⊥
      no_ties n x y i j tie =
          let h = in_merged n x i in
          let in_x = own h.0 x h.2 in
          let in_y = own (suc n) y j in
          let same : x ≡ y = ties_are_one (entry_total sim.time sender number N) trace x y trace_sorted
          (in_trace h.0 x in_x) (in_trace (suc n) y in_y) tie in
          let a : sim.to x.msg ≡ h.0 = eqb-true (sim.to x.msg) h.0
          (in_filter (λ f. sim.to f.msg == h.0) trace x in_x).1 in
          let b : sim.to y.msg ≡ suc n =
          eqb-true (sim.to y.msg) (suc n) (in_filter (λ f. sim.to f.msg == suc n) trace y in_y).1 in
          let l : h.0 ≤ n = h.1.1 in
          let same_to : sim.to x.msg ≡ sim.to y.msg = ap (λ e. sim.to e.msg) same in
          omega (arith, l, a, b, same_to)

      -- so the merged lists of the stations 1 to n rise by key
      merged_sorted : (n : ℕ) → Sorted by_key (merge_of_lists sim sender number list n)
      merged_sorted zero = tt
      merged_sorted (suc n) = sorted_merge (entry_total sim.time sender number N)
          (merge_of_lists sim sender number list n) (list (suc n)) (merged_sorted n) (rises (suc n)) (no_ties n)

      -- and those of all stations
      pub merged_rises : Sorted by_key (merge_of_lists sim sender number list sim.stations)
      merged_rises = merged_sorted sim.stations

    -- each log rises by key, as the trace does
    pub log_rises : (s : ℕ) → Sorted by_key (log_at sim c s front)
    log_rises s = sorted_filter by_key (λ f. sim.to f.msg == s) trace trace_sorted

    -- the logs merged are the trace
    pub merge_of_logs-trace : merge_of_logs sim sender number c front sim.stations ≡ trace
    merge_of_logs-trace =
        let log : ℕ → List (Entry M N) = λ s. log_at sim c s front in
        trace_of_logs (merge_of_logs sim sender number c front sim.stations) (merged_rises log log_rises (λ s e i. i))
        (merged_in_lists log log_rises (λ s e i. i)) (in_lists_merged log log_rises (λ s e i. i))
