-- The invariant of runs, by induction over the turns of a run.
use Rattle.std.proofs.Common.{◌≡◌, ℕ, zero, suc, ◌+◌, ◌*◌, ◌<◌, ◌≤◌, ◌⊎◌, inl, inr, List, [], ◌∷◌, ◌++◌, length}
use Rattle.std.proofs.Common.{Bool, true, false}
use Rattle.std.proofs.Common.{nat_lt, if◌then◌else◌, refl, sym, ap, ◌∙◌, Option, Some, None, arith}
use Rattle.std.proofs.Common.{ltb-true, subst, unwrap_or, ◌==◌, eq-eqb}
use Rattle.std.specs.List.{AllByRecursion}
use Rattle.std.proofs.lemmas.Bool.{cases_eq, ne_eqb}
use Rattle.std.proofs.lemmas.Option.{slice_get_cases}
use Rattle.sim_base.specs.Order.{msg_cmp}
use Rattle.sim_base.specs.declared.decision.Planned.{Planned}
use Rattle.sim_base.specs.declared.message.Msg.{Msg}
use Rattle.sim_base.specs.declared.message.Payload.{Payload}
use Rattle.sim_base.specs.declared.message.Payload.TheVariants.{Tick}
use Rattle.sim_base.specs.declared.entry.Line.{Line}
use Rattle.sim_base.proofs.ListLaws.{all_append, all_weaker}
use Rattle.run_laws.specs.Queue.{insert_all}
use Rattle.run_laws.specs.Machine.{config_after}
use Rattle.run_laws.specs.Simulation.{Opening}
use Rattle.run_laws.specs.World.{World, world_step, and_first, first_messages, set_messages, first_world}
use Rattle.run_laws.specs.Runs.{run}
use Rattle.run_laws.proofs.Queue.{all_insert_all}
use Rattle.run_laws.proofs.Running.{fine_keeps}
use Rattle.run_laws.proofs.Worlds.{put_cases, world_lawful, begins_fine, run_reached}
use Rattle.net_model.specs.declared.station.Kind.{Kind}
use Rattle.net_model.specs.declared.station.Kind.TheVariants as kind
use Rattle.net_model.specs.declared.limits.TheConstants.{MAX_TIME}
use Rattle.net_model.specs.Net.{Net, Site, site_of, no_site}
use Rattle.net_model.specs.Rules.{IsNet, IsLink}
use Rattle.stations.specs.declared.kind_state.KindState.TheVariants.{Source}
use Rattle.stations.specs.declared.sender.TheConstants.{MAX_EVENT_TIMES}
use Rattle.stations.specs.Fits.{GoodKind}
use Rattle.stations.specs.Good.{IsGood}
use Rattle.stations.specs.Handling.{StateView, handle}
use Rattle.stations.specs.Opening.{opening_kind, opening_of, first_tick, setup}
use Rattle.stations.specs.Runs.{simulation}
use Rattle.stations.specs.Sending.{Outgoing, send_later}
use Rattle.stations.proofs.GoodLaws.{lawful-stations}
use Rattle.stations.proofs.Lawful.{site_valid}
use Rattle.checkpoint.specs.Tally.{tally}
use Rattle.checkpoint.proofs.Tallying.{tally-zero, tally-le, tally-append, tally-insert_all}
use Rattle.checkpoint.specs.RunKeeps.{CarriesJobOf, RunKeepsKind, RunKeepsState, RunKeepsMessage, RunKeepsWorld}
use Rattle.checkpoint.specs.RunKeeps.{ticks_in, completions_in}
use Rattle.checkpoint.specs.RunKeeps.{ticks_to, completions_to, sent_of, jobs_of, busy_of}
use Rattle.checkpoint.proofs.Adding.{IsRunSend, range_of-le}
use Rattle.checkpoint.proofs.KindKeeps.{kind_on-reacts}

-- ---- ticks_to, completions_to

-- a number under a condition, else 0, is at most the number
counted-le : (b : Bool) (w : ℕ) → (if b then w else 0) ≤ w
counted-le true w = omega arith
counted-le false w = omega arith

-- and is 0 if the number is 0
counted-zero : (b : Bool) (w : ℕ) → w ≡ 0 → (if b then w else 0) ≡ 0
counted-zero true w e = e
counted-zero false w e = refl

-- a message is not counted at a station that it is not for
counted_elsewhere : (to s w : ℕ) → (to ≡ s → ⊥) → (if to == s then w else 0) ≡ 0
counted_elsewhere to s w n = rw (ne_eqb to s n) refl

-- and is counted at its receiver
counted_here : (to s w : ℕ) → to ≡ s → (if to == s then w else 0) ≡ w
counted_here to s w e = rw (eq-eqb to s e) refl

module _ (net : Net) (valid : IsNet net) where
  -- the links of every number keep the rules: a number without a station has no links
  links-of_net : (s : ℕ) → AllByRecursion (IsLink net) (site_of net s).links
  links-of_net zero = tt
  links-of_net (suc i) = elim (slice_get_cases net.sites i).1 [
    | inl found ↦ subst (λ (o : Option Site). AllByRecursion (IsLink net) (unwrap_or o no_site).links) (sym found.2)
        (site_valid net (suc i) found.0 valid found.2).links
    | inr past ↦ subst (λ (o : Option Site). AllByRecursion (IsLink net) (unwrap_or o no_site).links) (sym past.1) tt
  ]

  -- ---- handle

  -- the invariant of a station that handles a message of a run: its state, and its sends
  record HandleKeeps (s : ℕ) (st : StateView) (m : Msg) : Type 0 where
    pub are : AllByRecursion (IsRunSend net m.key.time s) (handle net st m).sends
    pub state : RunKeepsState net s (handle net st m).state
    pub jobs : jobs_of (handle net st m).state.kind ≡ jobs_of st.kind
    pub ticks_max : tally (λ (z : Msg). ticks_in z.payload) (handle net st m).sends ≤ ticks_in m.payload
    pub sent_same : ticks_in m.payload ≡ 0 → sent_of (handle net st m).state.kind ≡ sent_of st.kind
    pub jobs_max : sent_of (handle net st m).state.kind
        + tally (λ (z : Msg). ticks_in z.payload) (handle net st m).sends
        ≤ jobs_of st.kind
    pub busy : tally (λ (z : Msg). completions_in z.payload) (handle net st m).sends + busy_of st.kind
        ≤ busy_of (handle net st m).state.kind + completions_in m.payload

  -- a station handles a message
  handle-keeps_here : (st : StateView) (m : Msg) → GoodKind st.handled st.kind →
      RunKeepsState net st.sender.station st →
      RunKeepsMessage net m → m.key.time < net.horizon → sent_of st.kind + ticks_in m.payload ≤ jobs_of st.kind →
      HandleKeeps st.sender.station st m
  unfolding handle
  handle-keeps_here st m good kept own early may =
      let site : Site = site_of net st.sender.station in
      let begin : Outgoing = record { sender = st.sender; sends = [] } in
      let r = kind_on-reacts net site m.key.time
      (links-of_net st.sender.station) early site.kind st.handled m.payload st.kind
      begin refl refl good kept.kind own.job own.time_max may in
      let t = r.adds.ticks in
      let d = r.adds.completions in
      let sends = r.adds.sends in
      let all_ticks = ap (tally (λ (z : Msg). ticks_in z.payload)) sends ∙ t in
      let all_completions = ap (tally (λ (z : Msg). completions_in z.payload)) sends ∙ d in
      let most = r.ticks_max in
      let left = r.jobs_max in
      let busy = r.busy in
      record {
        are = subst (AllByRecursion (IsRunSend net m.key.time st.sender.station)) (sym sends) r.adds.are;
        state = record {
          seed = r.adds.seed ∙ kept.seed;
          stream = r.adds.stream ∙ kept.stream;
          kind = r.kept;
        };
        jobs = r.jobs;
        ticks_max = omega (arith, all_ticks, most);
        sent_same = r.sent_same;
        jobs_max = omega (arith, all_ticks, left);
        busy = omega (arith, all_completions, busy);
      }

  -- the same with the station's number as an argument
  handle-keeps : (s : ℕ) (st : StateView) (m : Msg) → IsGood net s st → RunKeepsState net s st → RunKeepsMessage net m →
      m.key.time < net.horizon → sent_of st.kind + ticks_in m.payload ≤ jobs_of st.kind → HandleKeeps s st m
  handle-keeps s st m good kept own early may =
      subst (λ (r : ℕ). HandleKeeps r st m) good.station (handle-keeps_here st m good.fits
      (subst (λ (r : ℕ). RunKeepsState net r st) (sym good.station) kept) own early may)

  -- ---- config_after

  -- the messages that count at one station are at most all messages
  tally-sends_here : (r : ℕ) (w : Payload → ℕ) (zs : List Msg) →
      tally (λ (z : Msg). if z.to == r then w z.payload else 0) zs ≤ tally (λ (z : Msg). w z.payload) zs
  tally-sends_here r w zs = tally-le (λ (z : Msg). if z.to == r then w z.payload else 0) (λ (z : Msg). w z.payload) zs
      (all zs)
    where
      all : (ys : List Msg) → AllByRecursion (λ (z : Msg). (if z.to == r then w z.payload else 0) ≤ w z.payload) ys
      all [] = tt
      all (y ∷ ys) = (counted-le (y.to == r) (w y.payload), all ys)

  -- ticks and completions are for their sender, so none counts at another station
  tally-sends_elsewhere : (now r s : ℕ) (w : Payload → ℕ) (zs : List Msg) → (s ≡ r → ⊥) →
      ((p : Payload) → w p ≤ ticks_in p + completions_in p) → AllByRecursion (IsRunSend net now r) zs →
      tally (λ (z : Msg). if z.to == s then w z.payload else 0) zs ≡ 0
  tally-sends_elsewhere now r s w zs other less are = tally-zero (λ (z : Msg). if z.to == s then w z.payload else 0) zs
      (all_weaker (IsRunSend net now r) (λ (z : Msg). (if z.to == s then w z.payload else 0) ≡ 0) zs
      (λ z is. elim is.to_itself [
        | inl none ↦ counted-zero (z.to == s) (w z.payload) (let h = less z.payload in omega (arith, h, none))
        | inr own ↦ counted_elsewhere z.to s (w z.payload) (λ e. other (sym e ∙ own))
      ]) are)

  -- a message is a tick, a completion or neither
  ticks_in-le : (p : Payload) → ticks_in p ≤ ticks_in p + completions_in p
  ticks_in-le p = omega arith

  completions_in-le : (p : Payload) → completions_in p ≤ ticks_in p + completions_in p
  completions_in-le p = omega arith

  -- a turn of the world keeps the invariant
  pub run_keeps-step : (x : World StateView Msg Line) (m : Msg) (q : List Msg) → ((s : ℕ) → IsGood net s (x.states s)) →
      m.key.time < net.horizon → RunKeepsWorld net (record { at = x; pending = m ∷ q }) →
      RunKeepsWorld net (config_after msg_cmp (world_step (simulation net).to (simulation net).handle) x m q)
  run_keeps-step x m q good early kept =
      let r : ℕ = m.to in
      let st : StateView = x.states r in
      let tick_is : ticks_to r m ≡ ticks_in m.payload = counted_here m.to r (ticks_in m.payload) refl in
      let completion_is : completions_to r m ≡ completions_in m.payload =
      counted_here m.to r (completions_in m.payload) refl in
      let before : sent_of st.kind + (ticks_to r m + tally (ticks_to r) q) ≤ jobs_of st.kind = kept.jobs r in
      let one : ticks_to r m + tally (ticks_to r) q ≤ 1 = kept.ticks r in
      let in_service : completions_to r m + tally (completions_to r) q ≤ busy_of st.kind = kept.busy r in
      let h = handle-keeps r st m (good r) (kept.states r) kept.pending.0 early (omega (arith, tick_is, before)) in
      let zs : List Msg = (handle net st m).sends in
      let st2 : StateView = (handle net st m).state in
      let later : List Msg = insert_all msg_cmp zs q in
      let ticks_here = tally-sends_here r ticks_in zs in
      let completions_here = tally-sends_here r completions_in zs in
      let all_ticks = tally-insert_all (ticks_to r) msg_cmp zs q in
      let all_completions = tally-insert_all (completions_to r) msg_cmp zs q in
      let most = h.ticks_max in
      let left = h.jobs_max in
      let jobs = h.jobs in
      let busy = h.busy in
      let soon : net.horizon + 2 * MAX_TIME < MAX_EVENT_TIMES = let far = valid.horizon_max in omega (arith, far) in
      record {
        states = put_cases (RunKeepsState net) x.states r st2 h.state (λ s n. kept.states s);
        pending = all_insert_all (lawful-stations net valid).order.order (RunKeepsMessage net) zs q
            (all_weaker (IsRunSend net m.key.time r) (RunKeepsMessage net) zs
            (λ z is. record { job = is.job; time_max = let t = is.time_max in omega (arith, t, soon, early) }) h.are)
            kept.pending.1;
        ticks = λ s. elim (cases_eq s r) [
          | inl e ↦ subst (λ (t : ℕ). tally (ticks_to t) later ≤ 1) (sym e)
              (omega (arith, all_ticks, ticks_here, most, one, tick_is))
          | inr n ↦ (
              let none = tally-sends_elsewhere m.key.time r s ticks_in zs n ticks_in-le h.are in
              let all = tally-insert_all (ticks_to s) msg_cmp zs q in
              let old = kept.ticks s in
              omega (arith, none, all, old))
        ];
        jobs = put_cases
            (λ (s : ℕ) (u : StateView). sent_of u.kind + tally (ticks_to s) later ≤ jobs_of u.kind) x.states r st2
            (elim (zero_or_more (ticks_in m.payload)) [
              | inl idle ↦ (
                  let same = h.sent_same idle in
                  omega (arith, all_ticks, ticks_here, most, idle, same, jobs, before, tick_is))
              | inr some ↦ omega (arith, all_ticks, ticks_here, left, some, one, jobs, tick_is)
            ])
            (λ s n. let none = tally-sends_elsewhere m.key.time r s ticks_in zs n ticks_in-le h.are in
            let all = tally-insert_all (ticks_to s) msg_cmp zs q in
            let old = kept.jobs s in
            omega (arith, none, all, old));
        busy = put_cases (λ (s : ℕ) (u : StateView). tally (completions_to s) later ≤ busy_of u.kind) x.states r st2
            (omega (arith, all_completions, completions_here, busy, in_service, completion_is))
            (λ s n. let none = tally-sends_elsewhere m.key.time r s completions_in zs n completions_in-le h.are in
            let all = tally-insert_all (completions_to s) msg_cmp zs q in
            let old = kept.busy s in
            omega (arith, none, all, old));
      }
    where
      zero_or_more : (n : ℕ) → (n ≡ 0) ⊎ (1 ≤ n)
      zero_or_more zero = inl refl
      zero_or_more (suc n) = inr (omega arith)

  -- ---- first_world

  -- the number of first messages that a station has: 0 or 1
  abbrev first_ticks : Option Msg → ℕ
  first_ticks None = 0
  first_ticks (Some m) = 1

  -- the first message of station s is a tick to s, if the station has a first message
  abbrev IsFirstTick : ℕ → Option Msg → Type 0
  IsFirstTick s None = Unit {0}
  IsFirstTick s (Some m) = (m.payload ≡ Tick) × (m.key.time < MAX_EVENT_TIMES) × (m.to ≡ s)

  -- the invariant of station s when it opens
  record OpeningKeeps (s : ℕ) (k : Kind) (stream : ℕ) (o : Opening StateView Msg) : Type 0 where
    pub seed : o.state.sender.draws.seed ≡ net.seed
    pub from_stream : o.state.sender.draws.stream ≡ stream
    pub kind : RunKeepsKind net k o.state.handled o.state.kind
    pub first : IsFirstTick s o.first
    pub jobs_max : sent_of o.state.kind + first_ticks o.first ≤ jobs_of o.state.kind

  -- a sender with no message sent and no word drawn
  abbrev begin : ℕ → ℕ → Outgoing
  begin s stream = record {
    sender = record { station = s; next = 0; draws = record { seed = net.seed; stream = stream; count = 0 } };
    sends = [];
  }

  -- a station of each kind opens
  opening_kind-keeps : (s : ℕ) (site : Site) (k : Kind) → GoodKind 0 (opening_kind site k) →
      OpeningKeeps s k site.stream
      (opening_of (opening_kind site k) (first_tick (opening_kind site k) (begin s site.stream)))
  opening_kind-keeps s site (kind.Source lo hi jobs class) good = by (nat_lt 0 jobs) refl
    where
      by : (b : Bool) → nat_lt 0 jobs ≡ b → OpeningKeeps s (kind.Source lo hi jobs class) site.stream
          (opening_of (Source (record { lo = lo; hi = hi; jobs = jobs; sent = 0 }))
          (if b then send_later 0 lo hi Tick (begin s site.stream) else begin s site.stream))
      by true some =
          let few = ltb-true 0 jobs some in
          let below = range_of-le lo hi (begin s site.stream).sender.draws good.range.ordered in
          let small = good.range.small in
          record {
            seed = refl;
            from_stream = refl;
            kind = refl;
            first = (refl, omega (arith, below, small), refl);
            jobs_max = omega arith;
          }
      by false none = record { seed = refl; from_stream = refl; kind = refl; first = tt; jobs_max = omega arith }
  opening_kind-keeps s site (kind.Server servers room lo hi by_class) good =
      record { seed = refl; from_stream = refl; kind = tt; first = tt; jobs_max = omega arith }
  opening_kind-keeps s site (kind.Delay lo hi) good =
      record { seed = refl; from_stream = refl; kind = tt; first = tt; jobs_max = omega arith }
  opening_kind-keeps s site (kind.Router turn) good =
      record { seed = refl; from_stream = refl; kind = tt; first = tt; jobs_max = omega arith }
  opening_kind-keeps s site kind.Sink good =
      record { seed = refl; from_stream = refl; kind = omega arith; first = tt; jobs_max = omega arith }

  -- so does every station of the network
  setup-keeps : (s : ℕ) → OpeningKeeps s (site_of net s).kind (site_of net s).stream (setup net s)
  setup-keeps s = opening_kind-keeps s (site_of net s) (site_of net s).kind (good_open s)
    where
      -- a first tick does not change the kind's state
      good_open : (r : ℕ) → GoodKind 0 (opening_kind (site_of net r) (site_of net r).kind)
      good_open r = ((lawful-stations net valid).opens r).fits

  -- station n's first message is no tick to a later station
  ticks-and_first_zero : (s n : ℕ) (ms : List Msg) (o : Option Msg) → n < s → IsFirstTick n o →
      tally (ticks_to s) ms ≡ 0 → tally (ticks_to s) (and_first (simulation net) ms o) ≡ 0
  ticks-and_first_zero s n ms None less is before = before
  ticks-and_first_zero s n ms (Some m) less is before =
      let to = is.2 in
      let other = counted_elsewhere m.to s (ticks_in m.payload) (λ e. let here = e in omega (arith, to, here)) in
      let all = tally-append (ticks_to s) ms (m ∷ []) in
      omega (arith, all, before, other)

  -- nor are those of all stations up to n
  ticks-first_messages_zero : (s n : ℕ) → (n < s) → tally (ticks_to s) (first_messages (simulation net) n) ≡ 0
  ticks-first_messages_zero s zero less = refl
  ticks-first_messages_zero s (suc n) less =
      ticks-and_first_zero s (suc n) (first_messages (simulation net) n) (setup net (suc n)).first less
      (setup-keeps (suc n)).first
      (ticks-first_messages_zero s n (omega arith))

  -- station n's first message is its own first tick
  ticks-and_first_own : (n : ℕ) (ms : List Msg) (o : Option Msg) → IsFirstTick n o → tally (ticks_to n) ms ≡ 0 →
      tally (ticks_to n) (and_first (simulation net) ms o) ≤ first_ticks o
  ticks-and_first_own n ms None is before = omega (arith, before)
  ticks-and_first_own n ms (Some m) is before =
      let here = counted-le (m.to == n) (ticks_in m.payload) in
      let tick : ticks_in m.payload ≡ 1 = ap ticks_in is.0 in
      let all = tally-append (ticks_to n) ms (m ∷ []) in
      omega (arith, all, here, tick, before)

  -- and no tick to another station
  ticks-and_first_other : (s n w : ℕ) (ms : List Msg) (o : Option Msg) → IsFirstTick n o → (s ≡ n → ⊥) →
      tally (ticks_to s) ms ≤ w → tally (ticks_to s) (and_first (simulation net) ms o) ≤ w
  ticks-and_first_other s n w ms None is other rest = rest
  ticks-and_first_other s n w ms (Some m) is other rest =
      let none = counted_elsewhere m.to s (ticks_in m.payload) (λ e. other (sym e ∙ is.2)) in
      let all = tally-append (ticks_to s) ms (m ∷ []) in
      omega (arith, all, none, rest)

  -- so among those of all stations up to n, at most one is a tick to station s: its own first tick
  ticks-first_messages : (s n : ℕ) →
      tally (ticks_to s) (first_messages (simulation net) n) ≤ first_ticks (setup net s).first
  ticks-first_messages s zero = omega arith
  ticks-first_messages s (suc n) =
      let rest = ticks-first_messages s n in
      elim (cases_eq s (suc n)) [
        | inl here ↦ subst
            (λ (t : ℕ). tally (ticks_to t) (first_messages (simulation net) (suc n)) ≤ first_ticks (setup net t).first)
            (sym here) (ticks-and_first_own (suc n) (first_messages (simulation net) n) (setup net (suc n)).first
            (setup-keeps (suc n)).first (ticks-first_messages_zero (suc n) n (omega arith)))
        | inr other ↦ ticks-and_first_other s (suc n) (first_ticks (setup net s).first)
            (first_messages (simulation net) n)
            (setup net (suc n)).first (setup-keeps (suc n)).first other rest
      ]

  -- a first message is no completion
  completions-and_first : (s n : ℕ) (ms : List Msg) (o : Option Msg) → IsFirstTick n o →
      tally (completions_to s) ms ≡ 0 → tally (completions_to s) (and_first (simulation net) ms o) ≡ 0
  completions-and_first s n ms None is before = before
  completions-and_first s n ms (Some m) is before =
      let none : completions_in m.payload ≡ 0 = ap completions_in is.0 in
      let here = counted-le (m.to == s) (completions_in m.payload) in
      let all = tally-append (completions_to s) ms (m ∷ []) in
      omega (arith, all, none, here, before)

  -- nor is any of those of all stations up to n
  completions-first_messages : (s n : ℕ) → tally (completions_to s) (first_messages (simulation net) n) ≡ 0
  completions-first_messages s zero = refl
  completions-first_messages s (suc n) =
      completions-and_first s (suc n) (first_messages (simulation net) n) (setup net (suc n)).first
      (setup-keeps (suc n)).first (completions-first_messages s n)

  -- a first message keeps the invariant of messages
  and_first-keeps : (n : ℕ) (ms : List Msg) (o : Option Msg) → IsFirstTick n o →
      AllByRecursion (RunKeepsMessage net) ms → AllByRecursion (RunKeepsMessage net) (and_first (simulation net) ms o)
  and_first-keeps n ms None is all = all
  and_first-keeps n ms (Some m) is all = all_append (RunKeepsMessage net) ms (m ∷ []) all
      (record { job = subst (CarriesJobOf net) (sym is.0) tt; time_max = is.1 }, tt)

  -- so do those of all stations up to n
  first_messages-keeps : (n : ℕ) → AllByRecursion (RunKeepsMessage net) (first_messages (simulation net) n)
  first_messages-keeps zero = tt
  first_messages-keeps (suc n) = and_first-keeps (suc n) (first_messages (simulation net) n) (setup net (suc n)).first
      (setup-keeps (suc n)).first (first_messages-keeps n)

  -- a decision is no tick
  ticks-set_messages : (s k : ℕ) (plans : List Planned) → tally (ticks_to s) (set_messages (simulation net) k plans) ≡ 0
  ticks-set_messages s k [] = refl
  ticks-set_messages s k (p ∷ ps) =
      let h = ticks-set_messages s (suc k) ps in
      let g = counted-zero (p.station == s) 0 refl in
      omega (arith, h, g)

  -- nor is it a completion
  completions-set_messages : (s k : ℕ) (plans : List Planned) →
      tally (completions_to s) (set_messages (simulation net) k plans) ≡ 0
  completions-set_messages s k [] = refl
  completions-set_messages s k (p ∷ ps) =
      let h = completions-set_messages s (suc k) ps in
      let g = counted-zero (p.station == s) 0 refl in
      omega (arith, h, g)

  -- decisions keep the invariant of messages
  set_messages-keeps : (k : ℕ) (plans : List Planned) → AllByRecursion (λ p. p.at < net.horizon) plans →
      AllByRecursion (RunKeepsMessage net) (set_messages (simulation net) k plans)
  set_messages-keeps k [] early = tt
  set_messages-keeps k (p ∷ ps) early =
      let far = valid.horizon_max in
      let now = early.0 in
      (record { job = tt; time_max = omega (arith, far, now) }, set_messages-keeps (suc k) ps early.1)

  -- a run begins with the invariant
  pub first_world-keeps : (plans : List Planned) → AllByRecursion (λ p. p.at < net.horizon) plans →
      RunKeepsWorld net (first_world (simulation net) plans)
  first_world-keeps plans early =
      let firsts : List Msg = first_messages (simulation net) (length net.sites) in
      let sets : List Msg = set_messages (simulation net) 0 plans in
      record {
        states = λ s. let o = setup-keeps s in record { seed = o.seed; stream = o.from_stream; kind = o.kind };
        pending = all_insert_all (lawful-stations net valid).order.order (RunKeepsMessage net) (firsts ++ sets) []
            (all_append (RunKeepsMessage net) firsts sets (first_messages-keeps (length net.sites))
            (set_messages-keeps 0 plans early)) tt;
        ticks = λ s.
            let all = tally-insert_all (ticks_to s) msg_cmp (firsts ++ sets) [] in
            let parts = tally-append (ticks_to s) firsts sets in
            let f = ticks-first_messages s (length net.sites) in
            let d = ticks-set_messages s 0 plans in
            let w = first_ticks-le (setup net s).first in
            omega (arith, all, parts, f, d, w);
        jobs = λ s.
            let all = tally-insert_all (ticks_to s) msg_cmp (firsts ++ sets) [] in
            let parts = tally-append (ticks_to s) firsts sets in
            let f = ticks-first_messages s (length net.sites) in
            let d = ticks-set_messages s 0 plans in
            let w = (setup-keeps s).jobs_max in
            omega (arith, all, parts, f, d, w);
        busy = λ s.
            let all = tally-insert_all (completions_to s) msg_cmp (firsts ++ sets) [] in
            let parts = tally-append (completions_to s) firsts sets in
            let f = completions-first_messages s (length net.sites) in
            let d = completions-set_messages s 0 plans in
            omega (arith, all, parts, f, d);
      }
    where
      first_ticks-le : (o : Option Msg) → first_ticks o ≤ 1
      first_ticks-le None = omega arith
      first_ticks-le (Some m) = omega arith

  -- ---- run

  -- so a run to a front keeps the invariant
  pub run_invariant_holds : (plans : List Planned) (front : ℕ) → AllByRecursion (λ p. p.at < net.horizon) plans →
      front ≤ net.horizon → RunKeepsWorld net (run (simulation net) plans front)
  run_invariant_holds plans front early within =
      let law = lawful-stations net valid in
      fine_keeps law.order (world_lawful law) 0 (RunKeepsWorld net) (first_world-keeps plans early)
      (λ x m q fine soon kept. run_keeps-step x m q fine.good (omega arith) kept)
      (begins_fine law plans) (run_reached law plans front).0
