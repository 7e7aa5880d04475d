-- The beginning that two traces share, and the rest, merged from the logs.
use Rattle.std.proofs.Common.{◌≡◌, ℕ, ◌<◌, Bool, false, not, nat_lt, cond, List, [], ◌∷◌, ◌++◌}
use Rattle.std.proofs.Common.{inl, inr, refl, sym, ap, ◌∙◌, ◌==◌, eq-eqb}
use Rattle.std.specs.List.{AllByRecursion, filter}
use Rattle.std.specs.declared.cmp.Ordering.{Ordering}
use Rattle.std.specs.declared.cmp.Ordering.TheVariants.{Less}
use Rattle.std.proofs.lemmas.Bool.{cases_lt, lt-ltb, le-ltb}
use Rattle.sim_base.specs.Clones.{Clone}
use Rattle.sim_base.specs.declared.entry.Entry.{Entry}
use Rattle.sim_base.proofs.OrderLaws.{entry_total}
use Rattle.run_laws.specs.Queue.{In, Sorted}
use Rattle.run_laws.specs.Simulation.{Simulation}
use Rattle.run_laws.specs.Runs.{trace_of, log_at}
use Rattle.run_laws.specs.Laws.{entries_before}
use Rattle.run_laws.specs.Handlers.{AreForStations, HandlesLawfully, SendsToStations, HandlesFreshly}
use Rattle.run_laws.specs.Merges.{entry_order, merge_of_lists}
use Rattle.run_laws.proofs.Queue.{all_in, all_from, same_elements}
use Rattle.run_laws.proofs.Lists.{in_filter, filter_keeps, sorted_filter}
use Rattle.run_laws.proofs.Traces.{trace_sorted, of_station, in_trace, log_rises}
use Rattle.run_laws.proofs.Traces.{merged_rises, merged_in_lists, in_lists_merged}
use Rattle.run_laws.specs.Beginnings.{before, from, Rise, WordsFollowKeys, WordsAreBefore, merge_from}
use Rattle.run_laws.proofs.BeginningParts.{filter_twice, before_from}

-- a part of a list has what all have
pub all_filter : {X : Type 0} (P : X → Type 0) (p : X → Bool) (xs : List X) → AllByRecursion P xs
    → AllByRecursion P (filter p xs)
all_filter P p xs h = all_from P (filter p xs) (λ x i. all_in P xs x h (in_filter p xs x i).0)

module _ {S M N : Type 0} {sim : Simulation S M N} {Good : ℕ → S → Type 0} {sender number : M → ℕ} {next : S → ℕ}
    (law : HandlesLawfully sim Good) (stations : SendsToStations sim Good)
    (fresh : HandlesFreshly sim Good sender number next) (word : Entry M N → ℕ) where
  -- words that follow the keys of a part of a trace rise
  rise_of : (c : Clone) (es : List (Entry M N)) → Sorted (entry_order sim.time sender number) es
      → ((e : Entry M N) → In e es → In e (trace_of sim c)) → WordsFollowKeys sim sender number word c → Rise word es
  rise_of c [] s i h = tt
  rise_of c (e ∷ es) s i h = (
    all_from (λ f. word e < word f) es (λ f j. h e f (i e (inl refl)) (i f (inr j))
        (all_in (λ f. entry_order sim.time sender number e f ≡ Less) es f s.0 j)),
    rise_of c es s.1 (λ f j. i f (inr j)) h,
  )

  -- the words of a trace rise
  pub trace_words_rise : (c : Clone) → AreForStations sim c.plans → WordsFollowKeys sim sender number word c
      → Rise word (trace_of sim c)
  trace_words_rise c there h = rise_of c (trace_of sim c) (trace_sorted law stations fresh c sim.horizon there)
      (λ e i. i) h

  -- the entries before a word of an earlier time come before the time
  before_of_time : (w t : ℕ) → WordsAreBefore sim sender number word w t → (es : List (Entry M N))
      → before word w (entries_before sim t es) ≡ before word w es
  before_of_time w t h es = filter_twice (λ e. nat_lt (word e) w) (λ e. nat_lt (sim.time e.msg) t)
      (λ e. nat_lt (word e) w) here es
    where
      here : (e : Entry M N) → cond (nat_lt (sim.time e.msg) t) (nat_lt (word e) w) false ≡ nat_lt (word e) w
      here e = elim (cases_lt (word e) w) [
        | inl l ↦ rw (lt-ltb (sim.time e.msg) t (h e l)) refl
        | inr l ↦ elim (cases_lt (sim.time e.msg) t) [
          | inl k ↦ rw (lt-ltb (sim.time e.msg) t k) refl
          | inr k ↦ rw (le-ltb (sim.time e.msg) t k, le-ltb (word e) w l) refl
        ]
      ]

  -- two traces that are equal before a time are equal before each word of an earlier time
  pub beginning_is_same : (c d : Clone) (t w : ℕ) → WordsAreBefore sim sender number word w t
      → entries_before sim t (trace_of sim c) ≡ entries_before sim t (trace_of sim d)
      → before word w (trace_of sim c) ≡ before word w (trace_of sim d)
  beginning_is_same c d t w h same =
      sym (before_of_time w t h (trace_of sim c)) ∙ ap (before word w) same ∙ before_of_time w t h (trace_of sim d)

  -- so the trace of the second begins as that of the first
  pub beginning_is_kept : (c d : Clone) (t w : ℕ) → AreForStations sim d.plans
      → WordsFollowKeys sim sender number word d → WordsAreBefore sim sender number word w t
      → entries_before sim t (trace_of sim c) ≡ entries_before sim t (trace_of sim d)
      → trace_of sim d ≡ before word w (trace_of sim c) ++ from word w (trace_of sim d)
  beginning_is_kept c d t w there follow h same =
      before_from word w (trace_of sim d) (trace_words_rise d there follow)
      ∙ ap (λ k. k ++ from word w (trace_of sim d)) (sym (beginning_is_same c d t w h same))

-- ---- merge_from

module _ {S M N : Type 0} {sim : Simulation S M N} {Good : ℕ → S → Type 0} {sender number : M → ℕ} {next : S → ℕ}
    (law : HandlesLawfully sim Good) (stations : SendsToStations sim Good)
    (fresh : HandlesFreshly sim Good sender number next) (c : Clone) (there : AreForStations sim c.plans) where
  -- the order of entries by key
  abbrev by_key : Entry M N → Entry M N → Ordering
  by_key = entry_order sim.time sender number

  module _ (test : Entry M N → Bool) where
    -- the entries of a log that pass a test
    abbrev part : ℕ → List (Entry M N)
    part s = filter test (log_at sim c s sim.horizon)

    -- they rise by key
    part_rises : (s : ℕ) → Sorted by_key (part s)
    part_rises s = sorted_filter by_key test (log_at sim c s sim.horizon)
        (log_rises law stations fresh c sim.horizon there s)

    -- and are of the log
    in_log : (s : ℕ) (e : Entry M N) → In e (part s) → In e (log_at sim c s sim.horizon)
    in_log s e i = (in_filter test (log_at sim c s sim.horizon) e i).0

    -- merged, the entries of the logs that pass a test are those of the trace
    pub merged_part : merge_of_lists sim sender number part sim.stations ≡ filter test (trace_of sim c)
    merged_part =
        let trace : List (Entry M N) = trace_of sim c in
        let merged : List (Entry M N) = merge_of_lists sim sender number part sim.stations in
        same_elements (entry_total sim.time sender number N) merged (filter test trace)
        (merged_rises law stations fresh c sim.horizon there part part_rises in_log)
        (sorted_filter by_key test trace (trace_sorted law stations fresh c sim.horizon there))
        (λ e i.
        let h = merged_in_lists law stations fresh c sim.horizon there part part_rises in_log e i in
        let k = in_filter test (log_at sim c h.0 sim.horizon) e h.2 in
        filter_keeps test trace e (in_trace law stations fresh c sim.horizon there h.0 e k.0) k.1)
        (λ e i.
        let k = in_filter test trace e i in
        let s : ℕ = sim.to e.msg in
        let here = filter_keeps (λ f. sim.to f.msg == s) trace e k.0 (eq-eqb s s refl) in
        in_lists_merged law stations fresh c sim.horizon there part part_rises in_log e (
          s,
          of_station law stations fresh c sim.horizon there e k.0,
          filter_keeps test (log_at sim c s sim.horizon) e here k.1,
        ))

  -- the logs from a word on, merged, are the trace from there on
  pub merged_from : (word : Entry M N → ℕ) (w : ℕ) → merge_from sim sender number word c w sim.stations
      ≡ from word w (trace_of sim c)
  merged_from word w = merged_part (λ e. not (nat_lt (word e) w))
