-- The total length of a trace's lines, from the logs, and the lines that two clones share.
use Rattle.std.proofs.Common.{◌≡◌, ℕ, zero, suc, ◌+◌, ◌<◌, ◌≤◌, List, [], ◌∷◌, ◌++◌, ◌==◌, inl, inr, Bool}
use Rattle.std.proofs.Common.{true, false, not, cond, nat_lt, refl, sym, ap, ◌∙◌, subst, arith, length, take, eq-eqb}
use Rattle.std.specs.Prelude.{sum_by}
use Rattle.std.specs.List.{filter, flat_map, AllByRecursion}
use Rattle.std.specs.declared.cmp.Ordering.{Ordering}
use Rattle.std.specs.declared.cmp.Ordering.TheVariants.{Less}
use Rattle.std.proofs.lemmas.Bool.{cases_eq, ne_eqb, cases_lt, lt-ltb, le-ltb}
use Rattle.std.proofs.lemmas.List.Sums.{sum_by-cons}
use Rattle.std.proofs.lemmas.List.Concat.{length-flat_map}
use Rattle.std.proofs.lemmas.Grind.{flat_map-append}
use Rattle.std.proofs.lemmas.List.{take-append-le, take_all}
use Rattle.sim_base.specs.Clones.{Clone}
use Rattle.sim_base.specs.declared.decision.Planned.{Planned}
use Rattle.sim_base.specs.declared.entry.Entry.{Entry}
use Rattle.run_laws.specs.Queue.{In, Sorted}
use Rattle.run_laws.specs.Simulation.{Simulation}
use Rattle.run_laws.specs.World.{log_of}
use Rattle.run_laws.specs.Runs.{end_of, trace_of, log_at}
use Rattle.run_laws.specs.Handlers.{IsStation, AreForStations, HandlesLawfully, SendsToStations, HandlesFreshly}
use Rattle.run_laws.specs.Handlers.{IsStationOf}
use Rattle.run_laws.specs.Laws.{entries_before}
use Rattle.sim_base.proofs.ListLaws.{all_weaker}
use Rattle.sim_base.proofs.OrderEqual.{ordering_then-le}
use Rattle.sim_base.proofs.OrderLaws.{entry_total}
use Rattle.run_laws.proofs.Queue.{all_in, all_from, same_elements}
use Rattle.run_laws.proofs.Lists.{in_filter, filter_keeps, filter_swap, filter_all, filter_none, sorted_filter}
use Rattle.run_laws.specs.Merges.{entry_order}
use Rattle.run_laws.proofs.Traces.{trace_sorted, of_station, in_trace}
use Rattle.run_laws.specs.SharedTexts.{station_sum, entries_from, log_from, parting_of, TellsPlans}
use Rattle.run_laws.specs.TraceLaws.{InLists}
use Rattle.run_laws.proofs.SharedTextsAgreeing.{agree_to_parting}

-- ---- station_sum

-- sums of equal numbers are equal
sum_same : (f g : ℕ → ℕ) (n : ℕ) → ((s : ℕ) → f s ≡ g s) → station_sum f n ≡ station_sum g n
sum_same f g zero h = refl
sum_same f g (suc n) h = let a = sum_same f g n h in let b = h (suc n) in omega (arith, a, b)

-- if only a number past the last differs, the sum is the same
sum_less : (f g : ℕ → ℕ) (n r : ℕ) → ((s : ℕ) → (r ≡ s → ⊥) → g s ≡ f s) → n < r → station_sum g n ≡ station_sum f n
sum_less f g zero r h l = refl
sum_less f g (suc n) r h l =
    let a = sum_less f g n r h (omega arith) in
    let b = h (suc n) (λ e. omega (arith, e, l)) in
    omega (arith, a, b)

-- if one number is greater by w, the sum is too
sum_more : (f g : ℕ → ℕ) (n r w : ℕ) → g r ≡ w + f r → ((s : ℕ) → (r ≡ s → ⊥) → g s ≡ f s) → 0 < r → r ≤ n →
    station_sum g n ≡ w + station_sum f n
sum_more f g zero r w e h l k = absurd (omega arith)
sum_more f g (suc n) r w e h l k = elim (cases_eq r (suc n)) [
  | inl p ↦
      let a = sum_less f g n r h (omega (arith, p)) in
      let b : g (suc n) ≡ w + f (suc n) = subst (λ s. g s ≡ w + f s) p e in
      omega (arith, a, b)
  | inr q ↦
      let a = sum_more f g n r w e h l (omega (arith, q, k)) in
      let b = h (suc n) q in
      omega (arith, a, b)
]

module _ {M N : Type 0} (to : M → ℕ) (weigh : Entry M N → ℕ) where
  -- the weight of the entries of a station's log
  abbrev weight : List (Entry M N) → ℕ → ℕ
  weight es s = sum_by weigh (log_of to s es)

  -- no entries weigh nothing
  sum_of_none : (n : ℕ) → station_sum (weight []) n ≡ 0
  sum_of_none zero = refl
  sum_of_none (suc n) = let a = sum_of_none n in omega (arith, a)

  -- the weight of entries for the stations 1 to n is the sum of the stations' weights
  sum_by-station_sum : (n : ℕ) (es : List (Entry M N)) → AllByRecursion (λ e. IsStationOf n (to e.msg)) es →
      sum_by weigh es ≡ station_sum (weight es) n
  sum_by-station_sum n [] h = sym (sum_of_none n)
  sum_by-station_sum n (e ∷ es) h =
      let r : ℕ = to e.msg in
      -- the log of a station with the entry or without it
      let with_it : Bool → ℕ → ℕ = λ b s. sum_by weigh (cond b (e ∷ log_of to s es) (log_of to s es)) in
      let here = ap (λ b. with_it b r) (eq-eqb r r refl) ∙ sum_by-cons weigh e (log_of to r es) in
      let others = sum_more (weight es) (weight (e ∷ es)) n r (weigh e) here
      (λ s q. ap (λ b. with_it b s) (ne_eqb r s q)) h.0.0 h.0.1 in
      let rest = sum_by-station_sum n es h.1 in
      let all = sum_by-cons weigh e es in
      omega (arith, others, rest, all)

-- ---- is_early, is_late

-- x comes before a time
abbrev is_early : {X : Type 0} → (X → ℕ) → ℕ → X → Bool
is_early time t x = nat_lt (time x) t

-- and x does not
abbrev is_late : {X : Type 0} → (X → ℕ) → ℕ → X → Bool
is_late time t x = not (nat_lt (time x) t)

module _ {X : Type 0} (time : X → ℕ) (cmp : X → X → Ordering) (timed : (x y : X) → cmp x y ≡ Less → time x ≤ time y)
    (t : ℕ) where
  -- an element before the time
  abbrev early : X → Bool
  early = is_early time t

  -- and one at it or later
  abbrev late : X → Bool
  late = is_late time t

  -- after an element at the time or later all are
  all_late : (x : X) (xs : List X) → Sorted cmp (x ∷ xs) → t ≤ time x → AllByRecursion (λ y. early y ≡ false) (x ∷ xs)
  all_late x xs s l = (
    le-ltb (time x) t l,
    all_from (λ y. early y ≡ false) xs
        (λ y i. let k = timed x y (all_in (λ y. cmp x y ≡ Less) xs y s.0 i) in le-ltb (time y) t (omega (arith, k, l))),
  )

  -- a list that rises by time is its part before a time, followed by the rest
  split_at : (xs : List X) → Sorted cmp xs → xs ≡ filter early xs ++ filter late xs
  split_at [] s = refl
  split_at (x ∷ xs) s = elim (cases_lt (time x) t) [
    | inl l ↦ let h = split_at xs s.1 in rw (lt-ltb (time x) t l) (ap (λ l. x ∷ l) h)
    | inr l ↦
        let all = all_late x xs s l in
        let none : filter early (x ∷ xs) ≡ [] = filter_none early (x ∷ xs) all in
        let whole : filter late (x ∷ xs) ≡ x ∷ xs =
        filter_all late (x ∷ xs) (all_weaker (λ y. early y ≡ false) (λ y. late y ≡ true) (x ∷ xs)
        (λ y e. ap not e) all) in
        sym (ap (λ l. l ++ filter late (x ∷ xs)) none ∙ whole)
  ]

module _ {S M N : Type 0} {sim : Simulation S M N} {Good : ℕ → S → Type 0} {sender number : M → ℕ} {next : S → ℕ}
    (law : HandlesLawfully sim Good) (stations : SendsToStations sim Good)
    (fresh : HandlesFreshly sim Good sender number next) where
  -- the order of entries by key
  abbrev by_key : Entry M N → Entry M N → Ordering
  by_key = entry_order sim.time sender number

  -- the time of an entry
  abbrev time_of : Entry M N → ℕ
  time_of e = sim.time e.msg

  -- the order by key goes by time
  keys_timed : (e f : Entry M N) → by_key e f ≡ Less → time_of e ≤ time_of f
  keys_timed e f h = ordering_then-le (time_of e) (time_of f) _ h

  -- a trace is its part before a time, followed by the rest
  pub trace_split : (c : Clone) (t : ℕ) → AreForStations sim c.plans →
      trace_of sim c ≡ entries_before sim t (trace_of sim c) ++ entries_from sim t (trace_of sim c)
  trace_split c t there =
      split_at time_of by_key keys_timed t (trace_of sim c) (trace_sorted law stations fresh c sim.horizon there)

  -- the lines that two clones share
  pub lines_agree : (same : Planned → Planned → Bool) (c d : Clone) (line : Entry M N → List ℕ) → TellsPlans sim same →
      end_of sim c ≤ sim.horizon → end_of sim d ≤ sim.horizon → AreForStations sim c.plans
      → AreForStations sim d.plans →
      flat_map line (trace_of sim d) ≡
      take (length (flat_map line (entries_before sim (parting_of sim same c d) (trace_of sim d))))
      (flat_map line (trace_of sim c))
      ++ flat_map line (entries_from sim (parting_of sim same c d) (trace_of sim d))
  lines_agree same c d line tells hc hd tc td =
      let t : ℕ = parting_of sim same c d in
      let kept : List ℕ = flat_map line (entries_before sim t (trace_of sim d)) in
      let rest : Clone → List ℕ = λ k. flat_map line (entries_from sim t (trace_of sim k)) in
      let agree : entries_before sim t (trace_of sim c) ≡ entries_before sim t (trace_of sim d) =
      agree_to_parting law same c d tells hc hd in
      let split : (k : Clone) → AreForStations sim k.plans
      → flat_map line (trace_of sim k) ≡ flat_map line (entries_before sim t (trace_of sim k)) ++ rest k = λ k tk.
      ap (flat_map line) (trace_split k t tk) ∙ flat_map-append line (entries_before sim t (trace_of sim k))
      (entries_from sim t (trace_of sim k)) in
      let whole : flat_map line (trace_of sim c) ≡ kept ++ rest c =
      split c tc ∙ ap (λ l. flat_map line l ++ rest c) agree in
      let first : take (length kept) (flat_map line (trace_of sim c)) ≡ kept =
      ap (take (length kept)) whole
      ∙ take-append-le (length kept) kept (rest c) (omega arith)
      ∙ take_all (length kept) kept (omega arith) in
      split d td ∙ ap (λ l. l ++ rest d) (sym first)

  -- how long the lines from a time on are
  pub rest_length : (c : Clone) (t : ℕ) (line : Entry M N → List ℕ) → AreForStations sim c.plans →
      length (flat_map line (entries_from sim t (trace_of sim c))) ≡
      station_sum (λ s. sum_by (λ e. length (line e)) (log_from sim c t s)) sim.stations
  rest_length c t line there =
      let trace : List (Entry M N) = trace_of sim c in
      let es : List (Entry M N) = entries_from sim t trace in
      let long : Entry M N → ℕ = λ e. length (line e) in
      let for_stations = all_from (λ e. IsStation sim (sim.to e.msg)) es (λ e i.
      of_station law stations fresh c sim.horizon there e (in_filter (is_late time_of t) trace e i).0) in
      length-flat_map line es
      ∙ sum_by-station_sum sim.to long sim.stations es for_stations
      ∙ sum_same (weight sim.to long es) (λ s. sum_by long (log_from sim c t s)) sim.stations
      (λ s. ap (sum_by long) (filter_swap (λ e. sim.to e.msg == s) (is_late time_of t) trace))

  -- the rest of a trace, by the logs
  pub rest_of_logs : (c : Clone) (t : ℕ) (es : List (Entry M N)) → AreForStations sim c.plans → Sorted by_key es →
      ((e : Entry M N) → In e es → InLists sim (log_from sim c t) e) →
      ((e : Entry M N) → InLists sim (log_from sim c t) e → In e es) → es ≡ entries_from sim t (trace_of sim c)
  rest_of_logs c t es there sorted from all =
      let later : Entry M N → Bool = is_late time_of t in
      let trace : List (Entry M N) = trace_of sim c in
      let rises = sorted_filter by_key later trace (trace_sorted law stations fresh c sim.horizon there) in
      same_elements (entry_total sim.time sender number N) es (entries_from sim t trace) sorted rises
      (λ e i.
      let h = from e i in
      let k = in_filter later (log_at sim c h.0 sim.horizon) e h.2 in
      filter_keeps later trace e (in_trace law stations fresh c sim.horizon there h.0 e k.0) k.1)
      (λ e i.
      let k = in_filter later trace e i in
      let s : ℕ = sim.to e.msg in
      let here = filter_keeps (λ f. sim.to f.msg == s) trace e k.0 (eq-eqb s s refl) in
      let is_station = of_station law stations fresh c sim.horizon there e k.0 in
      all e (s, is_station, filter_keeps later (log_at sim c s sim.horizon) e here k.1))
