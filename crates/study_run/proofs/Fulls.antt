-- The first full log of a trace, and the lengths of all logs.
use Rattle.std.proofs.Common.{◌≡◌, ◌⊎◌, inl, inr, ℕ, ◌<◌, ◌≤◌, ◌==◌, min, refl, ap, sym, subst}
use Rattle.std.proofs.Common.{◌∙◌, List, [], ◌∷◌, ◌++◌, length, length-append, append-nil, Option, Some, None, arith}
use Rattle.std.specs.List.{AllByRecursion}
use Rattle.std.proofs.lemmas.Bool.{cases_eq, cases_lt}
use Rattle.std.proofs.lemmas.List.{append_assoc}
use Rattle.std.proofs.lemmas.List.Elements.{filter-append}
use Rattle.sim_base.specs.Clones.{Clone}
use Rattle.sim_base.specs.declared.message.Msg.{Msg}
use Rattle.sim_base.specs.declared.entry.Entry.{Entry}
use Rattle.sim_base.specs.declared.entry.Line.{Line}
use Rattle.sim_base.proofs.ListLaws.{all_right}
use Rattle.net_model.specs.Net.{Net, HasStation}
use Rattle.net_model.specs.Rules.{IsNet}
use Rattle.run_laws.specs.Handlers.{AreForStations, IsStation}
use Rattle.run_laws.specs.Runs.{end_of}
use Rattle.run_laws.specs.World.{log_of}
use Rattle.run_laws.proofs.ForStations.{trace_for_stations}
use Rattle.run_laws.proofs.Worlds.{log_here, log_there}
use Rattle.stations.specs.Runs.{simulation, trace_of}
use Rattle.stations.proofs.GoodLaws.{lawful-stations, stations-to_stations}
use Rattle.solo_run.specs.Limit.{receiver, first_beyond}
use Rattle.solo_run.proofs.OneTurn.{beyond_append, beyond_here, beyond_later}
use Rattle.study_run.specs.Limits.{IsFirstFull, IsWithin, MeetsLimitAlone}
use Rattle.study_run.specs.Laws.{FullIsFound, FullIsLonger, FullIsOne, NotWithinAndMetAlone}
use Rattle.study_run.specs.Laws.{WithinIsNotFull, WithinOrMetAlone}

-- ---- first_beyond

module _ (limit : ℕ) where
  -- the logs stay within the limit with an entry whose log was not full
  log_of-push : (seen : List (Entry Msg Line)) (e : Entry Msg Line)
      → ((s : ℕ) → length (log_of receiver s seen) ≤ limit) → length (log_of receiver e.msg.to seen) < limit
      → (s : ℕ) → length (log_of receiver s (seen ++ e ∷ [])) ≤ limit
  log_of-push seen e h below s = elim (cases_eq e.msg.to s) [
    | inl same ↦
        let more = length-append (log_of receiver s seen) (e ∷ []) in
        let is = ap length (log_here receiver s seen e same) in
        let free : length (log_of receiver s seen) < limit =
        subst (λ k. length (log_of receiver k seen) < limit) same below in
        omega (arith, more, is, free)
    | inr other ↦ subst (λ l. length l ≤ limit) (sym (log_there receiver s seen e other)) (h s)
  ]

  -- if the search finds none, no log is longer
  first_beyond-None : (seen es : List (Entry Msg Line)) → ((s : ℕ) → length (log_of receiver s seen) ≤ limit)
      → first_beyond limit seen es ≡ None
      → (s : ℕ) → length (log_of receiver s (seen ++ es)) ≤ limit
  first_beyond-None seen [] h none s = subst (λ t. length (log_of receiver s t) ≤ limit) (sym (append-nil seen)) (h s)
  first_beyond-None seen (e ∷ es) h none s = elim (cases_lt (length (log_of receiver e.msg.to seen)) limit) [
    | inr full ↦ absurd (let k = sym (beyond_here limit seen e es full) ∙ none in cc)
    | inl below ↦ subst (λ t. length (log_of receiver s t) ≤ limit) (append_assoc seen (e ∷ []) es)
        (first_beyond-None (seen ++ e ∷ []) es (log_of-push seen e h below)
        (sym (beyond_later limit seen e es below) ∙ none) s)
  ]

  -- the log that it finds is longer at the end
  first_beyond-Some : (seen es : List (Entry Msg Line)) (s : ℕ) → first_beyond limit seen es ≡ Some s
      → limit < length (log_of receiver s (seen ++ es))
  first_beyond-Some seen [] s some = absurd (cc)
  first_beyond-Some seen (e ∷ es) s some = elim (cases_lt (length (log_of receiver e.msg.to seen)) limit) [
    | inr full ↦
        let at : Some e.msg.to ≡ Some s = sym (beyond_here limit seen e es full) ∙ some in
        let same : e.msg.to ≡ s = cc in
        let whole = ap (λ t. length (log_of receiver s t)) (append_assoc seen (e ∷ []) es) in
        let parts = ap length (filter-append (λ (x : Entry Msg Line). x.msg.to == s) (seen ++ e ∷ []) es) in
        let lengths = length-append (log_of receiver s (seen ++ e ∷ [])) (log_of receiver s es) in
        let here = ap length (log_here receiver s seen e same) in
        let more = length-append (log_of receiver s seen) (e ∷ []) in
        let is_full : limit ≤ length (log_of receiver s seen) =
        subst (λ k. limit ≤ length (log_of receiver k seen)) same full in
        omega (arith, whole, parts, lengths, here, more, is_full)
    | inl below ↦ subst (λ t. limit < length (log_of receiver s t)) (append_assoc seen (e ∷ []) es)
        (first_beyond-Some (seen ++ e ∷ []) es s (sym (beyond_later limit seen e es below) ∙ some))
  ]

  -- the entry at which the search ends is the first whose log is full
  full_at : (seen es : List (Entry Msg Line)) (s : ℕ) → ((t : ℕ) → length (log_of receiver t seen) ≤ limit)
      → first_beyond limit seen es ≡ Some s → IsFirstFull limit (seen ++ es) s
  full_at seen [] s h some = absurd (cc)
  full_at seen (e ∷ es) s h some = elim (cases_lt (length (log_of receiver e.msg.to seen)) limit) [
    | inr full ↦
        let at : Some e.msg.to ≡ Some s = sym (beyond_here limit seen e es full) ∙ some in
        let same : e.msg.to ≡ s = cc in
        let most = h s in
        let least : limit ≤ length (log_of receiver s seen) =
        subst (λ k. limit ≤ length (log_of receiver k seen)) same full in
        record {
          done = seen;
          entry = e;
          rest = es;
          parts = refl;
          is_for = same;
          full = omega (arith, most, least);
          within = h;
        }
    | inl below ↦ subst (λ t. IsFirstFull limit t s) (append_assoc seen (e ∷ []) es)
        (full_at (seen ++ e ∷ []) es s (log_of-push seen e h below) (sym (beyond_later limit seen e es below) ∙ some))
  ]

  -- if no log is longer, the search finds none
  none_found : (es : List (Entry Msg Line)) (o : Option ℕ) → first_beyond limit [] es ≡ o
      → ((s : ℕ) → length (log_of receiver s es) ≤ limit) → o ≡ None
  none_found es None e h = refl
  none_found es (Some s) e h =
      let long = first_beyond-Some [] es s e in let short = h s in absurd (omega (arith, long, short))

  -- the first entry whose log is full is found
  found_at : (es : List (Entry Msg Line)) (s : ℕ) → IsFirstFull limit es s → first_beyond limit [] es ≡ Some s
  found_at es s f =
      let none = none_found f.done (first_beyond limit [] f.done) refl f.within in
      let full = f.full in
      let least : limit ≤ length (log_of receiver s f.done) = omega (arith, full) in
      let here : limit ≤ length (log_of receiver f.entry.msg.to f.done) =
      subst (λ k. limit ≤ length (log_of receiver k f.done)) (sym f.is_for) least in
      ap (first_beyond limit []) f.parts
      ∙ (beyond_append limit [] f.done (f.entry ∷ f.rest) none
      ∙ (beyond_here limit f.done f.entry f.rest here ∙ ap Some f.is_for))

-- ---- the laws

-- a log is the first full one exactly if the search over the trace finds its station
pub full_is_found : FullIsFound
full_is_found limit es s = (found_at limit es s, λ some. full_at limit [] es s (λ t. omega arith) some)

-- at most one station's log is the first full one in a trace
pub full_is_one : FullIsOne
full_is_one limit es s t a b =
    let first = found_at limit es s a in
    let second = found_at limit es t b in
    let same : Some s ≡ Some t = sym first ∙ second in
    cc

-- at the end of the trace that log is longer than the limit
pub full_is_longer : FullIsLonger
full_is_longer limit es s f = first_beyond-Some limit [] es s (found_at limit es s f)

-- the search finds nothing exactly if all logs are within the limit
pub within_is_not_full : WithinIsNotFull
within_is_not_full limit es = (
  λ h. none_found limit es (first_beyond limit [] es) refl h,
  λ none. first_beyond-None limit [] es (λ s. omega arith) none,
)

-- if the limit is met in a clone's run, not all of its logs are within it
pub not_both_alone : NotWithinAndMetAlone
not_both_alone net c s h m =
    let long = first_beyond-Some net.limit [] (trace_of net c) s (found_at net.limit (trace_of net c) s m.first) in
    let is = m.is_station in
    absurd (h s (is.low, is.high) long)

-- ---- a clone's run

-- the logs of a clone's run are within the limit if the search over its trace finds none
pub within_alone : (net : Net) (c : Clone) → first_beyond net.limit [] (trace_of net c) ≡ None → IsWithin net c
within_alone net c none s is long =
    let short = first_beyond-None net.limit [] (trace_of net c) (λ t. omega arith) none s in
    absurd (omega (arith, short, long))

-- the limit is met where it finds one
pub met_alone : (net : Net) (c : Clone) (s : ℕ) → HasStation net s
    → first_beyond net.limit [] (trace_of net c) ≡ Some s → MeetsLimitAlone net c s
met_alone net c s is some =
    record { is_station = is; first = full_at net.limit [] (trace_of net c) s (λ t. omega arith) some }

-- if decisions are for stations, the first full log is a station's
full_is_station : (net : Net) (c : Clone) (s : ℕ) → IsNet net → AreForStations (simulation net) c.plans
    → IsFirstFull net.limit (trace_of net c) s → HasStation net s
full_is_station net c s valid there f =
    let For : Entry Msg Line → Type 0 = λ e. IsStation (simulation net) e.msg.to in
    let all : AllByRecursion For (trace_of net c) = trace_for_stations (lawful-stations net valid)
    (stations-to_stations net valid) c.plans (min net.horizon (end_of (simulation net) c)) there in
    let rest = all_right For f.done (f.entry ∷ f.rest) (subst (AllByRecursion For) f.parts all) in
    let is = subst (IsStation (simulation net)) f.is_for rest.0 in
    record { low = is.0; high = is.1 }

-- the search finds a log or none
either_alone : (net : Net) (c : Clone) → IsNet net → AreForStations (simulation net) c.plans → (o : Option ℕ)
    → first_beyond net.limit [] (trace_of net c) ≡ o → IsWithin net c ⊎ ((s : ℕ) × MeetsLimitAlone net c s)
either_alone net c valid there None none = inl (within_alone net c none)
either_alone net c valid there (Some s) some =
    let first = full_at net.limit [] (trace_of net c) s (λ t. omega arith) some in
    inr (s, met_alone net c s (full_is_station net c s valid there first) some)

-- all logs are within the limit, or it is met
pub within_or_met_alone : WithinOrMetAlone
within_or_met_alone net valid c there =
    either_alone net c valid there (first_beyond net.limit [] (trace_of net c)) refl
