-- Merging the logs of a clone's stations, one after the other.
use Rattle.std.proofs.Common.{subst, ◌≡◌, ℕ, suc, ◌+◌, ◌-◌, inl, inr, ◌<◌, ◌≤◌, List, [], ◌∷◌, ◌++◌, Some, refl}
use Rattle.std.proofs.Common.{sym, ap, ◌∙◌, arith, length, drop, slice_get, false, true, append-nil, append_assoc}
use Rattle.std.specs.List.{AllByRecursion}
use Rattle.std.specs.declared.cmp.Ordering.{Ordering}
use Rattle.std.proofs.lemmas.Bool.{cases_lt, false≢true}
use Rattle.std.proofs.lemmas.Option.{slice_get_cases}
use Rattle.std.proofs.lemmas.List.{drop_all}
use Rattle.sim_base.specs.Clones.{Clone, clone_at}
use Rattle.sim_base.specs.declared.message.Msg.{Msg}
use Rattle.sim_base.specs.declared.entry.Entry.{Entry}
use Rattle.sim_base.specs.declared.entry.Line.{Line}
use Rattle.clone_sets.specs.Sets.{has, empty, IsFirst}
use Rattle.clone_sets.specs.declared.set.CloneSet.{CloneSet}
use Rattle.clone_sets.proofs.SetLaws.{has-empty}
use Rattle.net_model.specs.Net.{Net}
use Rattle.stations.specs.Good.{sender_of, number_of}
use Rattle.stations.specs.Runs.{simulation, IsBeyond}
use Rattle.stations.proofs.GoodLaws.{lawful-stations, stations-to_stations, fresh-stations}
use Rattle.run_laws.specs.Queue.{In}
use Rattle.run_laws.specs.Merges.{merge, merge_of_logs}
use Rattle.run_laws.specs.Runs.{run_of, log_at}
use Rattle.run_laws.proofs.Queue.{all_in}
use Rattle.run_laws.proofs.Traces.{merge_of_logs-trace}
use Rattle.phys_proc.specs.Own.{StationCopy, IsCopy}
use Rattle.phys_proc.specs.Procs.{ProcView}
use Rattle.world_core.specs.Worlds.{WorldStands}
use Rattle.world_core.specs.Overs.{NoneBeyond}
use Rattle.world_core.specs.Tracing.{by_key}

-- ---- merge

module _ {X : Type 0} (cmp : X → X → Ordering) where
  -- a list merged with an empty list is unchanged
  none_left : (xs : List X) → merge cmp xs [] ≡ xs
  none_left [] = refl
  none_left (x ∷ xs) = ap (λ l. x ∷ l) (none_left xs)

  module _ (xs ys out : List X) (i j : ℕ) (so_far : out ++ merge cmp (drop i xs) (drop j ys) ≡ merge cmp xs ys) where
    -- if the second list is at its end, only the rest of the first is left
    pub first_left : length ys ≤ j → (out ++ drop i xs) ++ drop j ys ≡ merge cmp xs ys
    first_left l =
        append_assoc out (drop i xs) (drop j ys)
        ∙ ap (λ l. out ++ l) (ap (λ l. drop i xs ++ l) (drop_all j ys l) ∙ append-nil (drop i xs)
        ∙ sym (none_left (drop i xs)) ∙ ap (merge cmp (drop i xs)) (sym (drop_all j ys l)))
        ∙ so_far

    -- if the first is at its end, only the rest of the second is left
    pub second_left : length xs ≤ i → (out ++ drop i xs) ++ drop j ys ≡ merge cmp xs ys
    second_left l =
        append_assoc out (drop i xs) (drop j ys)
        ∙ ap (λ l. out ++ l) (ap (λ l. l ++ drop j ys) (drop_all i xs l)
        ∙ ap (λ l. merge cmp l (drop j ys)) (sym (drop_all i xs l)))
        ∙ so_far

-- ---- the logs of a clone

-- the merged logs of the stations so far, merged with that of the next, are those up to the next
pub one_more : (net : Net) (c : Clone) (front i : ℕ) (before log after : List (Entry Msg Line))
    → before ≡ merge_of_logs (simulation net) sender_of number_of c front i
    → log ≡ log_at (simulation net) c (i + 1) front
    → after ≡ merge by_key before log → after ≡ merge_of_logs (simulation net) sender_of number_of c front (i + 1)
one_more net c front i before log after e h f =
    let up : i + 1 ≡ suc i = omega arith in
    f ∙ ap (λ l. merge by_key l log) e
    ∙ ap (merge by_key (merge_of_logs (simulation net) sender_of number_of c front i))
    (h ∙ ap (λ s. log_at (simulation net) c s front) up)
    ∙ ap (merge_of_logs (simulation net) sender_of number_of c front) (sym up)

module _ (net : Net) (cs : List Clone) (ended : List (ℕ × ℕ)) (front : ℕ) (procs : List ProcView)
    (world : WorldStands net cs ended front procs) where
  -- the log of a copy is that of each clone that the copy represents
  pub log_is : (i : ℕ) (p : ProcView) (copy : StationCopy) (c : ℕ) → slice_get procs i ≡ Some p → In copy p.copies
      → has copy.set c ≡ true → copy.log ≡ log_at (simulation net) (clone_at cs c) (i + 1) front
  log_is i p copy c got is_copy is_in = (world.each i p got).copies.log copy c is_copy is_in

  -- it is within the limit
  pub log_short : (i : ℕ) (p : ProcView) (copy : StationCopy) → slice_get procs i ≡ Some p → In copy p.copies
      → length copy.log ≤ net.limit
  log_short i p copy got is_copy =
      let is : IsCopy net p.station copy =
      all_in (IsCopy net p.station) p.copies copy (world.each i p got).station.proc.copies is_copy in
      is.length_max

  -- a clone with the same log as a clone of the copy is in the copy
  pub alike_is_in : (i : ℕ) (p : ProcView) (copy : StationCopy) (who c : ℕ) → slice_get procs i ≡ Some p
      → In copy p.copies → has copy.set who ≡ true → c < length cs
      → log_at (simulation net) (clone_at cs c) (i + 1) front ≡ log_at (simulation net) (clone_at cs who) (i + 1) front
      → has copy.set c ≡ true
  alike_is_in i p copy who c got is_copy is_in there same =
      let st = (world.each i p got).copies in
      let own = st.carried c there in
      subst (λ (a : StationCopy). has a.set c ≡ true)
      (st.shared own.0 copy c who own.1 is_copy own.2 is_in same) own.2

  module _ (who : ℕ) (there : who < length cs) where
    -- at each station some copy has the clone
    pub has_a_copy : (i : ℕ) (p : ProcView) → slice_get procs i ≡ Some p
        → AllByRecursion (λ (a : StationCopy). has a.set who ≡ false) p.copies → ⊥
    has_a_copy i p got none =
        let a = (world.each i p got).copies.carried who there in
        false≢true (sym (all_in (λ (a : StationCopy). has a.set who ≡ false) p.copies a.0 none a.1) ∙ a.2)

    -- the log of the clone is beyond the limit at no station
    log_within : (i : ℕ) → i < length procs → IsBeyond net (i + 1) front (clone_at cs who) → ⊥
    log_within i l beyond = elim (slice_get_cases procs i).1 [
      | inl found ↦
          let a = (world.each i found.0 found.2).copies.carried who there in
          let short = log_short i found.0 a.0 found.2 a.1 in
          let same : length a.0.log ≡ length (log_at (simulation net) (clone_at cs who) (i + 1) front) =
          ap length (log_is i found.0 a.0 who found.2 a.1 a.2) in
          omega (arith, beyond, short, same)
      | inr past ↦ absurd (let p = past.0 in omega (arith, p, l))
    ]

    -- the merged logs of all stations are the clone's trace
    pub all_merged : (n : ℕ) (trace : List (Entry Msg Line)) → n ≡ length net.sites
        → trace ≡ merge_of_logs (simulation net) sender_of number_of (clone_at cs who) front n
        → trace ≡ (run_of (simulation net) (clone_at cs who) front).at.trace
    all_merged n trace many e =
        e ∙ ap (merge_of_logs (simulation net) sender_of number_of (clone_at cs who) front) many
        ∙ merge_of_logs-trace (lawful-stations net world.valid) (stations-to_stations net world.valid)
        (fresh-stations net world.valid) (clone_at cs who) front (world.for_stations who there)

-- no log of a world is beyond the limit
pub none_is_beyond : (net : Net) (cs : List Clone) (ended : List (ℕ × ℕ)) (front : ℕ) (procs : List ProcView)
    → WorldStands net cs ended front procs → NoneBeyond net cs front
none_is_beyond net cs ended front procs world = λ c there s is beyond.
    let low : 1 ≤ s = is.0 in
    let high : s ≤ length net.sites = is.1 in
    let same : s ≡ s - 1 + 1 = omega (arith, low) in
    let many = world.count in
    log_within net cs ended front procs world c there (s - 1) (omega (arith, low, high, many))
    (subst (λ k. IsBeyond net k front (clone_at cs c)) same beyond)

-- ---- the first clone of a copy

-- the first of a set is no later than any clone in it
pub first_within : (set : CloneSet) (first who : ℕ) → IsFirst set first → has set who ≡ true → first ≤ who
first_within set first who h is_in = elim (cases_lt who first) [
  | inl l ↦ absurd (false≢true (sym (h.least who l) ∙ is_in))
  | inr l ↦ l
]

-- a set with a clone in it has a first
pub not_empty : (set : CloneSet) (who : ℕ) → has set who ≡ true → set ≡ empty → ⊥
not_empty set who is_in none = false≢true (sym (ap (λ k. has k who) none ∙ has-empty who) ∙ is_in)
