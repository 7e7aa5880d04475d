-- The entries of a run up to a front are counted by the states that its snapshot restores.
use Rattle.std.proofs.Common.{◌≡◌, ℕ, zero, suc, ◌+◌, ◌<◌, ◌≤◌, ◌⊎◌, inl, inr, List, [], ◌∷◌, ◌++◌, length, refl, sym}
use Rattle.std.proofs.Common.{ap, ◌∙◌, subst, arith, min, ◌==◌, false, append-nil, append_assoc}
use Rattle.std.proofs.Common.{length-append}
use Rattle.std.specs.List.{AllByRecursion, sum_by}
use Rattle.std.proofs.lemmas.Bool.{cases_eq, cases_lt, ne_eqb}
use Rattle.std.proofs.lemmas.List.Sums.{sum_by-cons}
use Rattle.std.proofs.lemmas.Option.{slice_get_within}
use Rattle.sim_base.specs.Clones.{Clone}
use Rattle.sim_base.specs.declared.entry.Entry.{Entry}
use Rattle.sim_base.specs.declared.entry.Line.{Line}
use Rattle.sim_base.specs.declared.message.Msg.{Msg}
use Rattle.sim_base.proofs.ListLaws.{all_weaker}
use Rattle.run_laws.specs.Handlers.{IsStationOf}
use Rattle.run_laws.specs.Runs.{end_of, run}
use Rattle.run_laws.specs.World.{log_of}
use Rattle.run_laws.proofs.ForStations.{trace_for_stations}
use Rattle.run_laws.proofs.Lists.{filter_none}
use Rattle.run_laws.proofs.Replaying.{state_is_replay}
use Rattle.run_laws.proofs.Worlds.{log_here, log_there}
use Rattle.net_model.specs.Net.{Net}
use Rattle.net_model.specs.Rules.{IsNet}
use Rattle.stations.specs.Handling.{StateView}
use Rattle.stations.specs.Runs.{simulation}
use Rattle.stations.proofs.GoodLaws.{lawful-stations, stations-to_stations}
use Rattle.stations.proofs.ReplayLaws.{replay-counts}
use Rattle.solo_run.specs.Limit.{receiver}
use Rattle.solo_run.specs.SoloView.{Entries}
use Rattle.checkpoint.specs.Laws.{HasHandled, IsPastOf}
use Rattle.checkpoint.specs.RunSnapshots.{HasSnapshot, snapshot_of, states_from}
use Rattle.checkpoint.proofs.RunSnapshots.{length-states_from, restored_states, slice_get-states_from}

-- ---- the entries of some stations

-- the number of entries of n stations from station s on
abbrev count : ℕ → ℕ → Entries → ℕ
count s zero es = 0
count s (suc n) es = length (log_of receiver s es) + count (suc s) n es

-- at first there are none
count-none : (s n : ℕ) → count s n [] ≡ 0
count-none s zero = refl
count-none s (suc n) = let rest = count-none (suc s) n in omega (arith, rest)

-- an entry of another station is not counted
count-other : (s n : ℕ) (p : Entries) (e : Entry Msg Line) → (e.msg.to < s) ⊎ (s + n ≤ e.msg.to)
    → count s n (p ++ e ∷ []) ≡ count s n p
count-other s zero p e other = refl
count-other s (suc n) p e (inl below) =
    let first = ap (λ (l : Entries). length l) (log_there receiver s p e (λ same. absurd (omega (arith, below, same))))
    in
    let rest = count-other (suc s) n p e (inl (omega (arith, below))) in
    omega (arith, first, rest)
count-other s (suc n) p e (inr above) =
    let first = ap (λ (l : Entries). length l) (log_there receiver s p e (λ same. absurd (omega (arith, above, same))))
    in
    let rest = count-other (suc s) n p e (inr (omega (arith, above))) in
    omega (arith, first, rest)

-- an entry of one of them is
count-one : (s n : ℕ) (p : Entries) (e : Entry Msg Line) → s ≤ e.msg.to → e.msg.to < s + n
    → count s n (p ++ e ∷ []) ≡ suc (count s n p)
count-one s zero p e low high = absurd (omega (arith, low, high))
count-one s (suc n) p e low high = elim (cases_eq e.msg.to s) [
  | inl here ↦
      let first = ap (λ (l : Entries). length l) (log_here receiver s p e here) in
      let one = length-append (log_of receiver s p) (e ∷ []) in
      let rest = count-other (suc s) n p e (inl (omega (arith, here))) in
      omega (arith, first, one, rest)
  | inr other ↦
      let first = ap (λ (l : Entries). length l) (log_there receiver s p e other) in
      let rest = count-one (suc s) n p e (omega (arith, low, other)) (omega (arith, high)) in
      omega (arith, first, rest)
]

-- entries of these stations are counted once each
count-all : (n : ℕ) (p es : Entries) → AllByRecursion (λ e. IsStationOf n e.msg.to) es
    → count 1 n (p ++ es) ≡ count 1 n p + length es
count-all n p [] are = let same = ap (count 1 n) (append-nil p) in omega (arith, same)
count-all n p (e ∷ es) are =
    let low = are.0.0 in
    let high = are.0.1 in
    let one = count-one 1 n p e (omega (arith, low)) (omega (arith, high)) in
    let rest = count-all n (p ++ e ∷ []) es are.1 in
    let whole = ap (count 1 n) (append_assoc p (e ∷ []) es) in
    omega (arith, one, rest, whole)

-- the states of stations that handled these entries have handled as many
handled-count : (f : ℕ → StateView) (s n : ℕ) (es : Entries)
    → ((i : ℕ) → i < n → (f (s + i)).handled ≡ length (log_of receiver (s + i) es))
    → sum_by (λ st. st.handled) (states_from f s n) ≡ count s n es
handled-count f s zero es each = refl
handled-count f s (suc n) es each =
    let here : s + 0 ≡ s = omega arith in
    let first : (f s).handled ≡ length (log_of receiver s es) =
    subst (λ r. (f r).handled ≡ length (log_of receiver r es)) here (each 0 (omega arith)) in
    let rest = handled-count f (suc s) n es (λ i less.
    let next : s + suc i ≡ suc s + i = omega arith in
    subst (λ r. (f r).handled ≡ length (log_of receiver r es)) next (each (suc i) (omega (arith, less)))) in
    let parts = sum_by-cons (λ (st : StateView). st.handled) (f s) (states_from f (suc s) n) in
    omega (arith, first, rest, parts)

-- ---- a run

module _ (net : Net) (valid : IsNet net) (c : Clone) (front : ℕ) (has : HasSnapshot net c front) where
  -- the entries of the run up to the front
  abbrev past : Entries
  past = (run (simulation net) c.plans front).at.trace

  -- the states of all stations then
  abbrev states : ℕ → StateView
  states = (run (simulation net) c.plans front).at.states

  -- they are for stations
  for_stations : AllByRecursion (λ e. IsStationOf (length net.sites) e.msg.to) past
  for_stations = trace_for_stations (lawful-stations net valid) (stations-to_stations net valid) c.plans front
      has.clone.stations

  -- a number without a station has none
  none_elsewhere : (s : ℕ) → (IsStationOf (length net.sites) s → ⊥) → length (log_of receiver s past) ≡ 0
  none_elsewhere s other = ap (λ (l : Entries). length l) (filter_none (λ e. e.msg.to == s) past
      (all_weaker (λ (e : Entry Msg Line). IsStationOf (length net.sites) e.msg.to)
      (λ (e : Entry Msg Line). (e.msg.to == s) ≡ false) past
      (λ e is. ne_eqb e.msg.to s (λ same. other (subst (IsStationOf (length net.sites)) same is))) for_stations))

  -- the clone's end is not before the front
  bounded : min front (end_of (simulation net) c) ≡ front
  bounded = let within = has.within in omega (arith, within)

  -- a station has handled the messages of its log
  handled_is : (s : ℕ) → (states s).handled ≡ length (log_of receiver s past)
  handled_is s =
      subst (λ n. ((run (simulation net) c.plans n).at.states s).handled
      ≡ length (log_of receiver s (run (simulation net) c.plans n).at.trace)) bounded
      (ap (λ (st : StateView). st.handled) (state_is_replay (lawful-stations net valid) c s front)
      ∙ replay-counts net s _)

  -- so the states of the run count its entries
  counted : HasHandled (states_from states 1 (length net.sites)) past
  counted = record {
    each = λ i st is.
        let long = length-states_from states 1 (length net.sites) in
        let within = slice_get_within (states_from states 1 (length net.sites)) i st is in
        let found = slice_get-states_from states 1 (length net.sites) i (omega (arith, long, within)) in
        let same : states (1 + i) ≡ st = let e = sym found ∙ is in cc in
        let place : 1 + i ≡ i + 1 = omega arith in
        ap (λ (u : StateView). u.handled) (sym same) ∙ handled_is (1 + i)
        ∙ ap (λ r. length (log_of receiver r past)) place;
    none = λ s outside. none_elsewhere s (λ is.
        let long = length-states_from states 1 (length net.sites) in
        let low = is.0 in
        let high = is.1 in
        elim outside [
          | inl zero_is ↦ absurd (omega (arith, zero_is, low))
          | inr beyond ↦ absurd (omega (arith, beyond, high, long))
        ]);
    total =
        let all = count-all (length net.sites) [] past for_stations in
        let none = count-none 1 (length net.sites) in
        let sum = handled-count states 1 (length net.sites) past (λ i less. handled_is (1 + i)) in
        omega (arith, all, none, sum);
  }

  -- and so do those that its snapshot restores
  pub past_is_counted : IsPastOf net (snapshot_of net c front) past
  past_is_counted = subst (λ (sts : List StateView). HasHandled sts past) (sym (restored_states net valid c front has))
      counted

  -- no log of the run is beyond the limit then
  pub past_is_short : (s : ℕ) → length (log_of receiver s past) ≤ net.limit
  past_is_short s = elim (cases_lt (length net.sites) s) [
    | inl beyond ↦
        let none = none_elsewhere s (λ is. let high = is.1 in absurd (omega (arith, beyond, high))) in
        omega (arith, none)
    | inr high ↦ elim (cases_lt 0 s) [
      | inl low ↦ subst (λ n. length (log_of receiver s (run (simulation net) c.plans n).at.trace) ≤ net.limit) bounded
          (has.length_max s (record { low = low; high = high }))
      | inr zero_is ↦
          let none = none_elsewhere s (λ is. let low = is.0 in absurd (omega (arith, zero_is, low))) in
          omega (arith, none)
    ]
  ]
