-- The turns up to a front reach the run, or go beyond the limit.
use Rattle.std.proofs.Common.{◌≡◌, inl, inr, ℕ, zero, suc, ◌+◌, ◌-◌, ◌*◌, ◌<◌, ◌≤◌, refl}
use Rattle.std.proofs.Common.{ap, sym, subst, ◌∙◌, List, [], ◌∷◌, ◌++◌, length, length-append, append-nil, Some}
use Rattle.std.proofs.Common.{unwrap_or, arith}
use Rattle.std.specs.List.{AllByRecursion}
use Rattle.std.proofs.lemmas.List.{append_assoc}
use Rattle.std.proofs.lemmas.Option.{slice_get_cases}
use Rattle.sim_base.specs.Order.{msg_cmp}
use Rattle.sim_base.specs.declared.message.Msg.{Msg}
use Rattle.sim_base.specs.declared.entry.Entry.{Entry}
use Rattle.sim_base.specs.declared.entry.Line.{Line}
use Rattle.run_laws.specs.Machine.{Config, Next, Reach, stay, go, IsSettled, config_after, run_to}
use Rattle.run_laws.specs.World.{World, log_of}
use Rattle.run_laws.specs.Handlers.{AllGood, IsStationOf}
use Rattle.run_laws.proofs.Machine.{reach_trans, reach_first, is_settled-no_next}
use Rattle.run_laws.proofs.Running.{Fine, all_from_zero, run_reach, run_is, fine_reach}
use Rattle.run_laws.proofs.Worlds.{world_lawful}
use Rattle.net_model.specs.Net.{Net, site_of}
use Rattle.net_model.specs.Rules.{IsNet}
use Rattle.stations.specs.Good.{IsGood}
use Rattle.stations.specs.Handling.{StateView, handle}
use Rattle.stations.specs.Opening.{setup}
use Rattle.stations.specs.Fits.{IsOfKind}
use Rattle.stations.proofs.KindLaws.{good_kind}
use Rattle.stations.proofs.Lawful.{site_is}
use Rattle.stations.proofs.GoodLaws.{lawful-stations}
use Rattle.solo_run.specs.Limit.{receiver, first_beyond}
use Rattle.solo_run.specs.SoloView.{Entries, SoloView, IsSoloAfter, IsStateAfter, config_of, state_of, with_due}
use Rattle.solo_run.specs.Turns.{GoesBeyondAfter, IsStationFull, StopsAfter, StopsBefore, run_from, step_of}
use Rattle.solo_run.specs.Turns.{IsReached}
use Rattle.solo_run.specs.declared.turn.SoloFault.{SoloFault}
use Rattle.solo_run.specs.declared.turn.SoloFault.TheVariants.{NoMemory, Limit}
use Rattle.solo_run.proofs.OneTurn.{beyond_append, beyond_here, sum_most}

-- ---- Reach

-- each turn appends to the trace
trace-grows : (net : Net) (bound : ℕ) {c d : Config (World StateView Msg Line) Msg}
    → Reach msg_cmp (λ m. m.key.time) (step_of net) bound c d → (rest : List (Entry Msg Line))
    × (d.at.trace ≡ c.at.trace ++ rest)
trace-grows net bound {c} stay = ([], sym (append-nil c.at.trace))
trace-grows net bound {c} {d} (go {d = b} r n) =
    let h = trace-grows net bound r in
    let e : Entry Msg Line = record { msg = n.m; line = (handle net (b.at.states n.m.to) n.m).line } in
    let one : d.at.trace ≡ b.at.trace ++ e ∷ [] = ap (λ k. k.at.trace) n.is in
    (h.0 ++ e ∷ [], one ∙ (ap (λ t. t ++ e ∷ []) h.1 ∙ append_assoc c.at.trace h.0 (e ∷ [])))

-- ---- IsSoloAfter

module _ (net : Net) (valid : IsNet net) (past : Entries) where
  -- the state of a station is good
  good_station : (trace : Entries) (i : ℕ) (st : StateView) → IsStateAfter net trace i st
      → IsGood net (suc i) st
  good_station trace i st is =
      let station : st.sender.station ≡ suc i = let h = is.station in omega (arith, h) in
      let site = site_is net st.sender.station is.suits.site is.suits.is_there in
      let of : IsOfKind (site_of net st.sender.station) (site_of net st.sender.station).kind st.kind =
      subst (λ q. IsOfKind q q.kind st.kind) (sym site) is.suits.kind in
      record {
        station = station;
        kind = subst (λ k. IsOfKind (site_of net k) (site_of net k).kind st.kind) station of;
        fits = good_kind st.handled st.kind is.fits.kind;
      }

  -- and so are those of all numbers
  good_states : (v : SoloView) → IsSoloAfter net past v → (s : ℕ) → IsGood net s (state_of net v.states s)
  good_states v solo zero = (lawful-stations net valid).opens zero
  good_states v solo (suc i) = elim (slice_get_cases v.states i).1 [
    | inl found ↦ subst (λ o. IsGood net (suc i) (unwrap_or o (setup net (suc i)).state)) (sym found.2)
        (good_station (past ++ v.trace) i found.0 (solo.states i found.0 found.2))
    | inr none ↦ subst (λ o. IsGood net (suc i) (unwrap_or o (setup net (suc i)).state)) (sym none.1)
        ((lawful-stations net valid).opens (suc i))
  ]

  -- so the world of a run is fine
  fine_solo : (v : SoloView) → IsSoloAfter net past v
      → Fine msg_cmp (λ m. m.key.time) (AllGood (IsGood net)) 0 (config_of net v)
  fine_solo v solo = record {
    good = good_states v solo;
    sorted = solo.sorted;
    from_t = all_from_zero (λ (m : Msg). m.key.time) v.pending;
  }

  -- the trace is no longer than the stations may handle, with or without a past
  pub trace-short : (v : SoloView) → IsSoloAfter net past v → length v.trace ≤ length net.sites * net.limit
  trace-short v solo =
      let most = sum_most (λ st. st.handled) net.limit v.states (λ i st is. (solo.states i st is).within) in
      let count : length v.states * net.limit ≡ length net.sites * net.limit = ap (λ n. n * net.limit) solo.count in
      let total = solo.total in
      let both = length-append past v.trace in
      omega (arith, most, count, total, both)

  -- ---- run_from, GoesBeyondAfter, StopsAfter

  -- turns before the front that leave nothing pending before it have reached the run
  pub run_ends : (front : ℕ) (v w : SoloView) → IsSoloAfter net past v → IsSoloAfter net past w
      → IsReached net front v w → AllByRecursion (λ m. front ≤ m.key.time) w.pending
      → config_of net w ≡ run_from net v front
  run_ends front v w from to ran none =
      let law = lawful-stations net valid in
      run_is law.order (world_lawful law) front (config_of net v) (config_of net w) (fine_solo v from) ran
      none

  -- the least message is before the front, and its station has handled as many as it may
  goes_beyond : (front : ℕ) (v w : SoloView) (m : Msg) (at_start at_end now station kept : ℕ)
      → IsSoloAfter net past v → IsSoloAfter net past (with_due m w) → IsReached net front v (with_due m w)
      → m.key.time < front → IsStationFull net (m.to - 1) w.states now at_end station kept
      → now + length v.trace ≡ at_start + length w.trace
      → GoesBeyondAfter net past v front at_start at_end station kept
  goes_beyond front v w m at_start at_end now station kept from here ran early full count =
      let law = lawful-stations net valid in
      let fine = fine_reach law.order (world_lawful law) 0 (fine_solo v from) ran in
      let c = config_of net (with_due m w) in
      let step : Config (World StateView Msg Line) Msg = config_after msg_cmp (step_of net) c.at m w.pending in
      let on = run_reach law.order (world_lawful law) front front c (omega arith) fine in
      let last = run_to msg_cmp (step_of net) (λ m. m.key.time) c front in
      let same : last ≡ run_from net v front = run_is law.order (world_lawful law) front (config_of net v) last
      (fine_solo v from) (reach_trans ran on.0) on.1.from_t in
      let next : Next msg_cmp (λ m. m.key.time) (step_of net) front c step =
      record { m = m; q = w.pending; pending = refl; time_max = early; is = refl } in
      let later : Reach msg_cmp (λ m. m.key.time) (step_of net) front step last = elim (reach_first on.0 next) [
        | inl e ↦ absurd (is_settled-no_next c step (subst (IsSettled (λ m. m.key.time) front) e on.1.from_t) next)
        | inr r ↦ r
      ] in
      let e : Entry Msg Line = record { msg = m; line = (handle net (state_of net w.states m.to) m).line } in
      let more = trace-grows net front later in
      let whole : (run_from net v front).at.trace ≡ w.trace ++ e ∷ more.0 = ap (λ k. k.at.trace) (sym same)
      ∙ (more.1 ∙ append_assoc w.trace (e ∷ []) more.0) in
      let old = here.states (m.to - 1) full.state full.is_there in
      let low : 1 ≤ m.to = here.targets.0.0 in
      let place : m.to - 1 + 1 ≡ m.to = omega arith in
      let log = old.log ∙ ap (λ k. length (log_of receiver k (past ++ w.trace))) place in
      let has = full.full in
      let is : first_beyond net.limit past (w.trace ++ e ∷ more.0) ≡ Some m.to =
      beyond_append net.limit past w.trace (e ∷ more.0) here.below ∙ beyond_here net.limit (past ++ w.trace) e more.0
      (omega (arith, log, has)) in
      let number : station ≡ m.to = let h = full.is_here in omega (arith, h) in
      let unmoved = full.steps in
      record {
        done = w.trace;
        entry = e;
        rest = more.0;
        trace = whole;
        before = here.below;
        first = ap (first_beyond net.limit past) whole ∙ (is ∙ ap Some (sym number));
        is_for = number;
        is_station = let at = subst (IsStationOf (length net.sites)) (sym number) here.targets.0 in
            record { low = at.0; high = at.1 };
        keeps = full.keeps;
        steps = omega (arith, unmoved, count);
        bounded = trace-short (with_due m w) here;
      }

  -- why the turns stop
  pub Stops-StopsBefore : (front : ℕ) (v w : SoloView) (at_start at_end now : ℕ) (fault : SoloFault)
      → IsSoloAfter net past v → IsSoloAfter net past w → IsReached net front v w
      → StopsBefore net front w now at_end fault → now + length v.trace ≡ at_start + length w.trace
      → StopsAfter net past v front at_start at_end fault
  Stops-StopsBefore front v w at_start at_end now NoMemory from here ran at count = tt
  Stops-StopsBefore front v w at_start at_end now (Limit station kept) from here ran at count =
      let view : List Msg → SoloView = λ q. record { states = w.states; pending = q; trace = w.trace } in
      goes_beyond front v (view at.rest) at.message at_start at_end now station kept from
      (subst (λ q. IsSoloAfter net past (view q)) at.is here)
      (subst (λ q. IsReached net front v (view q)) at.is ran) at.time_max at.full count
