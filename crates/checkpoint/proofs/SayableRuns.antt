-- What a run hands on can be said in a snapshot's text: its pending messages, and the lines of its trace.
use Rattle.std.proofs.Common.{◌≡◌, ℕ, suc, ◌+◌, ◌*◌, ◌<◌, ◌≤◌, ◌⊎◌, inl, inr, List, [], ◌∷◌, ◌++◌, length, map}
use Rattle.std.proofs.Common.{true, refl, sym, ap, arith, subst, min}
use Rattle.std.specs.List.{AllByRecursion, list_all}
use Rattle.sim_base.specs.Clones.{Clone}
use Rattle.sim_base.specs.Order.{msg_cmp}
use Rattle.sim_base.specs.declared.decision.Planned.{Planned}
use Rattle.sim_base.specs.declared.entry.Entry.{Entry}
use Rattle.sim_base.specs.declared.entry.Line.{Line}
use Rattle.sim_base.specs.declared.entry.Line.TheVariants as line
use Rattle.sim_base.specs.declared.message.Msg.{Msg}
use Rattle.sim_base.specs.declared.message.Payload.{Payload}
use Rattle.sim_base.specs.declared.message.Payload.TheVariants.{Tick, Job, Done, Set}
use Rattle.sim_base.proofs.ListLaws.{all_append, all_push, all_weaker}
use Rattle.run_laws.specs.Handlers.{IsStationOf}
use Rattle.run_laws.specs.Machine.{Config, config_after}
use Rattle.run_laws.specs.Queue.{In}
use Rattle.run_laws.specs.Runs.{end_of, run}
use Rattle.run_laws.specs.World.{World, first_messages, first_world, put, set_messages, world_step}
use Rattle.run_laws.proofs.ForStations.{trace_for_stations}
use Rattle.run_laws.proofs.Fronts.{trace_below}
use Rattle.run_laws.proofs.Numbers.{used_numbers-run}
use Rattle.run_laws.proofs.Queue.{all_from, all_in, all_insert_all}
use Rattle.run_laws.proofs.Running.{fine_keeps}
use Rattle.run_laws.proofs.Worlds.{begins_fine, in_first_messages, put_cases, put_same, run_reached, world_lawful}
use Rattle.net_model.specs.Net.{Net, HasStation, site_of}
use Rattle.net_model.specs.Rules.{IsNet}
use Rattle.net_model.specs.declared.limits.TheConstants.{MAX_JOBS, MAX_LIMIT, MAX_ROOM, MAX_SERVERS}
use Rattle.net_model.specs.declared.station.Kind.{Kind}
use Rattle.net_model.specs.declared.station.Kind.TheVariants as kind
use Rattle.stations.specs.Fits.{GoodKind}
use Rattle.stations.specs.Good.{IsGood, next_number}
use Rattle.stations.specs.Handling.{StateView, handle, kind_on, line_of}
use Rattle.stations.specs.Opening.{opening_kind}
use Rattle.stations.specs.Runs.{simulation}
use Rattle.stations.specs.declared.kind_state.KindState.{KindState}
use Rattle.stations.specs.declared.kind_state.KindState.TheVariants.{Source, Server, Delay, Router, Sink}
use Rattle.stations.specs.declared.sender.TheConstants.{MAX_EVENT_TIMES}
use Rattle.stations.proofs.GoodLaws.{fresh-stations, handles-good, lawful-stations, stations-to_stations}
use Rattle.checkpoint.specs.RunKeeps.{CarriesJobOf, RunKeepsKind, RunKeepsState, RunKeepsWorld}
use Rattle.checkpoint.specs.SavedLaws.{IsRunState}
use Rattle.checkpoint.proofs.RunKeeps.{first_world-keeps, run_keeps-step}
use Rattle.checkpoint.proofs.RunStates.{run_states_are_kept}
use Rattle.checkpoint.specs.Due.{is_sayable, is_sayable_payload}
use Rattle.checkpoint.specs.RunSnapshots.{HasSnapshot, trace_line}
use Rattle.checkpoint.specs.TraceLines.{is_trace_line}
use Rattle.checkpoint.proofs.NoSets.{AreSayable, IsSayable, handle-sayable, setup-sayable}
use Rattle.checkpoint.proofs.ShortTexts.{AreSmall, IsSmallEntry, small_entry-line}

-- ---- counts

-- a sink has got no more jobs than its station handled messages
abbrev CountsJobs : ℕ → KindState → Type 0
CountsJobs handled (Sink s) = s.got ≤ handled
CountsJobs handled _ = Unit {0}

-- counts of a station that has handled at most this number of messages
abbrev CountsOf : ℕ → Line → Type 0
CountsOf handled (line.Source sent) = sent ≤ MAX_JOBS + handled
CountsOf handled (line.Server busy wait done lost) =
    (busy ≤ MAX_SERVERS) × (wait ≤ MAX_ROOM) × (done ≤ handled) × (lost ≤ handled)
CountsOf handled (line.Passed passed) = passed ≤ handled
CountsOf handled (line.Sink got stay) = (got ≤ handled) × (stay ≤ MAX_EVENT_TIMES * handled)

-- they are counts after more messages too
counts-more : (a b : ℕ) (l : Line) → a ≤ b → CountsOf a l → CountsOf b l
counts-more a b (line.Source sent) le is = omega (arith, le, is)
counts-more a b (line.Server busy wait done lost) le is =
    let d = is.2 in
    let l = is.3 in
    (is.0, is.1, omega (arith, le, d), omega (arith, le, l))
counts-more a b (line.Passed passed) le is = omega (arith, le, is)
counts-more a b (line.Sink got stay) le is =
    let g = is.0 in
    let s = is.1 in
    (omega (arith, le, g), omega (arith, le, s))

-- the counts of a state
counts-line_of : (net : Net) (k : Kind) (handled : ℕ) (s : KindState) → GoodKind handled s →
    RunKeepsKind net k handled s → CountsJobs handled s → CountsOf handled (line_of s)
counts-line_of net k handled (Source s) good kept jobs = good.sent
counts-line_of net k handled (Server s) good kept jobs = (good.busy, good.length_max, good.done, good.lost)
counts-line_of net k handled (Delay s) good kept jobs = good.passed
counts-line_of net k handled (Router s) good kept jobs = good.passed
counts-line_of net kind.Sink handled (Sink s) good kept jobs = (jobs, kept)
counts-line_of net (kind.Source lo hi n class) handled (Sink s) good kept jobs = absurd kept
counts-line_of net (kind.Server servers room lo hi by_class) handled (Sink s) good kept jobs = absurd kept
counts-line_of net (kind.Delay lo hi) handled (Sink s) good kept jobs = absurd kept
counts-line_of net (kind.Router turn) handled (Sink s) good kept jobs = absurd kept

-- counts of at most the greatest limit are small
counts-small : (net : Net) (valid : IsNet net) (handled : ℕ) (l : Line) → handled ≤ MAX_LIMIT → CountsOf handled l →
    AreSmall net valid l
counts-small net valid handled (line.Source sent) le is = omega (arith, le, is)
counts-small net valid handled (line.Server busy wait done lost) le is =
    let b = is.0 in
    let w = is.1 in
    let d = is.2 in
    let l = is.3 in
    (omega (arith, b), omega (arith, w), omega (arith, le, d), omega (arith, le, l))
counts-small net valid handled (line.Passed passed) le is = omega (arith, le, is)
counts-small net valid handled (line.Sink got stay) le is =
    let g = is.0 in
    let s = is.1 in
    (omega (arith, le, g), omega (arith, le, s))

module _ (net : Net) (valid : IsNet net) where
  -- ---- handle

  -- a sink counts a job at a message at most
  kind_on-counts_jobs : (now handled : ℕ) (p : Payload) (s : KindState) (station : ℕ) (out : _) →
      CountsJobs handled s → CountsJobs (handled + 1) (kind_on net (site_of net station) now p s out).state
  kind_on-counts_jobs now handled p (Source s) station out jobs = tt
  kind_on-counts_jobs now handled p (Server s) station out jobs = tt
  kind_on-counts_jobs now handled p (Delay s) station out jobs = tt
  kind_on-counts_jobs now handled p (Router s) station out jobs = tt
  kind_on-counts_jobs now handled (Job j) (Sink s) station out jobs = omega (arith, jobs)
  kind_on-counts_jobs now handled Tick (Sink s) station out jobs = omega (arith, jobs)
  kind_on-counts_jobs now handled (Done j) (Sink s) station out jobs = omega (arith, jobs)
  kind_on-counts_jobs now handled (Set c) (Sink s) station out jobs = omega (arith, jobs)

  -- what a station shows after it handled a message
  record Shows (st : StateView) (m : Msg) : Type 0 where
    pub handled : (handle net st m).state.handled ≡ st.handled + 1
    pub line : (handle net st m).line ≡ line_of (handle net st m).state.kind
    pub jobs : CountsJobs st.handled st.kind →
        CountsJobs (handle net st m).state.handled (handle net st m).state.kind

  handle-shows : (st : StateView) (m : Msg) → Shows st m
  unfolding handle
  handle-shows st m = record {
    handled = refl;
    line = refl;
    jobs = λ jobs. kind_on-counts_jobs m.key.time st.handled m.payload st.kind st.sender.station _ jobs;
  }

  -- ---- the invariant

  -- an entry of a run in which its station has these states
  record IsEntryOf (states : ℕ → StateView) (e : Entry Msg Line) : Type 0 where
    pub job : CarriesJobOf net e.msg.payload
    pub sayable : IsSayable e.msg
    pub counts : CountsOf (states e.msg.to).handled e.line

  -- a world whose messages words can say, with the counts that stations show
  record KeepsEntries (w : Config (World StateView Msg Line) Msg) : Type 0 where
    pub kept : RunKeepsWorld net w
    pub pending : AreSayable w.pending
    pub jobs : (s : ℕ) → CountsJobs (w.at.states s).handled (w.at.states s).kind
    pub trace : AllByRecursion (IsEntryOf w.at.states) w.at.trace

  -- a turn of the world keeps the invariant
  keeps_entries-step : (x : World StateView Msg Line) (m : Msg) (q : List Msg) → ((s : ℕ) → IsGood net s (x.states s)) →
      m.key.time < net.horizon → KeepsEntries (record { at = x; pending = m ∷ q }) →
      KeepsEntries (config_after msg_cmp (world_step (simulation net).to (simulation net).handle) x m q)
  keeps_entries-step x m q good early h =
      let r : ℕ = m.to in
      let st : StateView = x.states r in
      let st2 : StateView = (handle net st m).state in
      let shows = handle-shows st m in
      let next = run_keeps-step net valid x m q good early h.kept in
      let one = shows.handled in
      let jobs2 : CountsJobs st2.handled st2.kind = shows.jobs (h.jobs r) in
      let more : (s : ℕ) → (x.states s).handled ≤ (put x.states r st2 s).handled =
      put_cases (λ (s : ℕ) (u : StateView). (x.states s).handled ≤ u.handled) x.states r st2 (omega (arith, one))
      (λ s n. omega arith) in
      let here : put x.states r st2 r ≡ st2 = put_same x.states r st2 r refl in
      let kept2 : RunKeepsState net r st2 = subst (RunKeepsState net r) here (next.states r) in
      let good2 = (handles-good net valid r st m (good r)).good in
      let counts2 : CountsOf st2.handled (line_of st2.kind) =
      counts-line_of net (site_of net r).kind st2.handled st2.kind good2.fits kept2.kind jobs2 in
      record {
        kept = next;
        pending = all_insert_all (lawful-stations net valid).order.order IsSayable (handle net st m).sends q
            (handle-sayable net st m) h.pending.1;
        jobs = put_cases (λ (s : ℕ) (u : StateView). CountsJobs u.handled u.kind) x.states r st2 jobs2
            (λ s n. h.jobs s);
        trace = all_push (IsEntryOf (put x.states r st2)) x.trace (record { msg = m; line = (handle net st m).line })
            (all_weaker (IsEntryOf x.states) (IsEntryOf (put x.states r st2)) x.trace
            (λ e is. record {
              job = is.job;
              sayable = is.sayable;
              counts = counts-more _ _ e.line (more e.msg.to) is.counts;
            }) h.trace)
            (record {
              job = h.kept.pending.0.job;
              sayable = h.pending.0;
              counts = subst (λ (u : StateView). CountsOf u.handled (handle net st m).line) (sym here)
                  (subst (CountsOf st2.handled) (sym shows.line) counts2);
            });
      }

  -- decisions that words can say
  set_messages-sayable : (k : ℕ) (plans : List Planned) → AllByRecursion (λ p. is_sayable p.change ≡ true) plans →
      AreSayable (set_messages (simulation net) k plans)
  set_messages-sayable k [] may = tt
  set_messages-sayable k (p ∷ ps) may = (may.0, set_messages-sayable (suc k) ps may.1)

  -- a station opens with no job counted
  opening-counts_jobs : (s : ℕ) → CountsJobs 0 (opening_kind (site_of net s) (site_of net s).kind)
  opening-counts_jobs s = by (site_of net s).kind
    where
      by : (k : Kind) → CountsJobs 0 (opening_kind (site_of net s) k)
      by (kind.Source lo hi jobs class) = tt
      by (kind.Server servers room lo hi by_class) = tt
      by (kind.Delay lo hi) = tt
      by (kind.Router turn) = tt
      by kind.Sink = omega arith

  -- a run begins with the invariant
  first_world-keeps_entries : (plans : List Planned) → AllByRecursion (λ p. p.at < net.horizon) plans →
      AllByRecursion (λ p. is_sayable p.change ≡ true) plans → KeepsEntries (first_world (simulation net) plans)
  first_world-keeps_entries plans early may =
      let firsts : List Msg = first_messages (simulation net) (length net.sites) in
      let sets : List Msg = set_messages (simulation net) 0 plans in
      record {
        kept = first_world-keeps net valid plans early;
        pending = all_insert_all (lawful-stations net valid).order.order IsSayable (firsts ++ sets) []
            (all_append IsSayable firsts sets (all_from IsSayable firsts (λ z i.
            let h = in_first_messages (simulation net) (length net.sites) z i in setup-sayable net h.0 z h.2))
            (set_messages-sayable 0 plans may)) tt;
        jobs = opening-counts_jobs;
        trace = tt;
      }

  run-keeps_entries : (plans : List Planned) (front : ℕ) → AllByRecursion (λ p. p.at < net.horizon) plans →
      AllByRecursion (λ p. is_sayable p.change ≡ true) plans → front ≤ net.horizon →
      KeepsEntries (run (simulation net) plans front)
  run-keeps_entries plans front early may within =
      let law = lawful-stations net valid in
      fine_keeps law.order (world_lawful law) 0 KeepsEntries (first_world-keeps_entries plans early may)
      (λ x m q fine soon h. keeps_entries-step x m q fine.good (omega arith) h)
      (begins_fine law plans) (run_reached law plans front).0

  module _ (c : Clone) (front : ℕ) (at : HasSnapshot net c front) where
    abbrev w : Config (World StateView Msg Line) Msg
    w = run (simulation net) c.plans front

    early : front ≤ net.horizon
    early = let within = at.within in omega (arith, within)

    keeps : KeepsEntries w
    keeps = run-keeps_entries c.plans front at.clone.time_max at.clone.sayable early

    -- ---- pending messages

    all-true : {X : Type 0} (p : X → _) (xs : List X) → AllByRecursion (λ x. p x ≡ true) xs → list_all p xs ≡ true
    all-true p [] all = refl
    all-true p (x ∷ xs) all = rw all.0 (all-true p xs all.1)

    pub pending-sayable : list_all (λ m. is_sayable_payload m.payload) w.pending ≡ true
    pending-sayable = all-true (λ (m : Msg). is_sayable_payload m.payload) w.pending keeps.pending

    -- ---- trace lines

    state_of_run : (s : ℕ) → HasStation net s → IsRunState net s (w.at.states s)
    state_of_run s is =
        let within = at.within in
        let same : min front (end_of (simulation net) c) ≡ front = omega (arith, within) in
        subst (λ (n : ℕ). IsRunState net s ((run (simulation net) c.plans n).at.states s)) same
        (run_states_are_kept net valid c s front is at.clone.time_max early (at.length_max s is))

    -- the number of a handled message
    number-small : (m : Msg) → ((m.key.sender ≡ 0) × (m.key.number < length c.plans))
        ⊎ (IsStationOf (length net.sites) m.key.sender × (m.key.number < next_number (w.at.states m.key.sender))) →
        m.key.number ≤ 1000000000
    number-small m (inl a) = let few = at.clone.at_most in let number = a.1 in omega (arith, few, number)
    number-small m (inr a) =
        let is = state_of_run m.key.sender (record { low = a.0.0; high = a.0.1 }) in
        let number = a.1 in
        let next = is.fits.sender.next in
        let within = is.within in
        let limit = valid.limit_max in
        omega (arith, number, next, within, limit)

    entry-small : (e : Entry Msg Line) → In e w.at.trace → IsSmallEntry net valid e
    entry-small e i =
        let law = lawful-stations net valid in
        let entry = all_in (IsEntryOf w.at.states) w.at.trace e keeps.trace i in
        let there = all_in (λ (e : Entry Msg Line). IsStationOf (length net.sites) e.msg.to) w.at.trace e
        (trace_for_stations law (stations-to_stations net valid) c.plans front at.clone.stations) i in
        let below = all_in (λ (e : Entry Msg Line). e.msg.key.time < front) w.at.trace e
        (trace_below law c.plans front) i in
        let used = (used_numbers-run law (stations-to_stations net valid) (fresh-stations net valid) c.plans front
        at.clone.stations).used e.msg (inl (message_in w.at.trace i)) in
        let state = state_of_run e.msg.to (record { low = there.0; high = there.1 }) in
        let within = state.within in
        let limit = valid.limit_max in
        let far = valid.horizon_max in
        let number = number-small e.msg used in
        record {
          time = omega (arith, below, early, far);
          number = omega (arith, number);
          job = entry.job;
          sayable = entry.sayable;
          counts = counts-small net valid (w.at.states e.msg.to).handled e.line (omega (arith, within, limit))
              entry.counts;
        }
      where
        message_in : (es : List (Entry Msg Line)) → In e es → In e.msg (map (λ e. e.msg) es)
        message_in [] j = absurd j
        message_in (f ∷ fs) (inl same) = inl (ap (λ (g : Entry Msg Line). g.msg) same)
        message_in (f ∷ fs) (inr later) = inr (message_in fs later)

    pub lines-sayable : list_all is_trace_line (map (trace_line net) w.at.trace) ≡ true
    lines-sayable = by w.at.trace (λ e i. i)
      where
        by : (es : List (Entry Msg Line)) → ((e : Entry Msg Line) → In e es → In e w.at.trace) →
            list_all is_trace_line (map (trace_line net) es) ≡ true
        by [] all = refl
        by (e ∷ es) all = rw (small_entry-line net valid e (entry-small e (all e (inl refl))))
            (by es (λ f i. all f (inr i)))
