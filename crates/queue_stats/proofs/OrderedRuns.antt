-- A single server that serves by arrival serves in order in every run.
use Rattle.std.proofs.Common.{◌≡◌, ℕ, ◌<◌, ◌≤◌, inl, inr, List, [], ◌∷◌, ◌++◌, true, false, min, sym, ap, ◌∙◌, subst}
use Rattle.std.proofs.Common.{arith, if◌then◌else◌, ◌&&◌, eq-eqb}
use Rattle.std.specs.List.{filter}
use Rattle.std.proofs.lemmas.List.{nil_from_length}
use Rattle.std.proofs.lemmas.Bool.{cases_eq, ne_eqb}
use Rattle.sim_base.specs.Order.{msg_cmp}
use Rattle.sim_base.specs.declared.decision.Planned.{Planned}
use Rattle.sim_base.specs.declared.entry.Entry.{Entry}
use Rattle.sim_base.specs.declared.entry.Line.{Line}
use Rattle.sim_base.specs.declared.message.Msg.{Msg}
use Rattle.run_laws.specs.Queue.{insert_all, Sorted}
use Rattle.run_laws.specs.Machine.{Config, config_after}
use Rattle.run_laws.specs.World.{World, log_of, put, world_step, first_world}
use Rattle.run_laws.specs.Runs.{end_of, run}
use Rattle.run_laws.specs.Handlers.{AllGood}
use Rattle.run_laws.proofs.Lists.{filter-insert_all}
use Rattle.run_laws.proofs.Running.{Fine, fine_keeps}
use Rattle.run_laws.proofs.Worlds.{put_same, put_other, log_here, log_there, world_lawful, begins_fine, run_reached}
use Rattle.net_model.specs.Net.{Net, HasStation, site_of, serves_by_class}
use Rattle.net_model.specs.Rules.{IsNet}
use Rattle.net_model.specs.declared.station.Kind.TheVariants as kind
use Rattle.stations.specs.declared.kind_state.KindState.TheVariants as state
use Rattle.stations.specs.declared.kind_state.ServerState.{ServerState}
use Rattle.stations.specs.Fits.{FitsServer, GoodKind}
use Rattle.stations.specs.Good.{IsGood}
use Rattle.stations.specs.Handling.{StateView, handle}
use Rattle.stations.specs.Opening.{opening_kind}
use Rattle.stations.specs.Runs.{simulation}
use Rattle.stations.specs.Sending.{Reaction}
use Rattle.stations.proofs.GoodLaws.{handles-good}
use Rattle.queue_stats.specs.Moments.{Event, Moment, event_of, moment_of, moments, last_lost, lost_in, is_change}
use Rattle.queue_stats.specs.Figures.{one_if, count}
use Rattle.queue_stats.specs.Orders.{visiting_job, departing_job, visiting_jobs, departing_jobs, RunsServeInOrder}
use Rattle.queue_stats.proofs.Lists.{one_if-zero, filter-cons}
use Rattle.queue_stats.proofs.Pushes.{count-push}
use Rattle.queue_stats.proofs.Prefixes.{moments_after-append}
use Rattle.queue_stats.proofs.ServerMoves.{is_done_by, is_done_at}
use Rattle.queue_stats.proofs.OtherStations.{no_done-others}
use Rattle.queue_stats.proofs.NewSends.{insert_all-counts}
use Rattle.queue_stats.proofs.ServerTurns.{KeepsQueue, law, keeps_queue-here, server-turn, server_reaction}
use Rattle.queue_stats.proofs.ServerRuns.{WorldKeepsQueue, world-step, world-first, done_count-first}
use Rattle.queue_stats.proofs.ServiceOrder.{ended_jobs, ended_job, ended_jobs-filter, ended_jobs-length}
use Rattle.queue_stats.proofs.ServiceOrder.{ended_jobs-insert_all, server_on-keeps, visiting_jobs-push}
use Rattle.queue_stats.proofs.ServiceOrder.{departing_jobs-push, departing_job-is, append-regroup}

-- the visitors, in order, are the jobs that departed, the job in service, and the waiting jobs
abbrev IsInOrder : ℕ → StateView → List Msg → List (Entry Msg Line) → Type 0
IsInOrder s st pending log = (v : ServerState) → st.kind ≡ state.Server v → count is_change (moments log) ≡ 0
    → visiting_jobs (moments log) ≡ departing_jobs (moments log) ++ (ended_jobs s pending ++ v.waiting)

-- a state of a station is that of one server state
same_server : (st : StateView) (v w : ServerState) → st.kind ≡ state.Server v → st.kind ≡ state.Server w → v ≡ w
same_server st v w a b = let both : state.Server v ≡ state.Server w = sym a ∙ b in cc

module _ (net : Net) (valid : IsNet net) (s : ℕ) (room lo hi : ℕ) (there : HasStation net s)
    (is_server : (site_of net s).kind ≡ kind.Server 1 room lo hi false) (bound : ℕ) where
  -- a message to another station keeps the order
  in_order-away : (st other : StateView) (m : Msg) (q : List Msg) (log : List (Entry Msg Line)) → (m.to ≡ s → ⊥)
      → IsGood net m.to other → Sorted msg_cmp (m ∷ q) → IsInOrder s st (m ∷ q) log
      → IsInOrder s st (insert_all msg_cmp (handle net other m).sends q) log
  in_order-away st other m q log away good sorted h v is unchanged =
      let sends : List Msg = (handle net other m).sends in
      let none = nil_from_length (filter (is_done_at s (λ j. true)) sends)
      (no_done-others s (λ j. true) net other m (λ e. away (sym good.station ∙ e))) in
      let same : ended_jobs s (insert_all msg_cmp sends q) ≡ ended_jobs s q =
      sym (ended_jobs-filter s (insert_all msg_cmp sends q))
      ∙ ap (ended_jobs s)
      (filter-insert_all (law net valid s 1 bound).order.order (is_done_at s (λ j. true)) sends q sorted.1
      ∙ ap (λ l. insert_all msg_cmp l (filter (is_done_at s (λ j. true)) q)) none)
      ∙ ended_jobs-filter s q in
      let first : ended_jobs s (m ∷ q) ≡ ended_jobs s q =
      ap (λ b. (if b then ended_job m.payload else []) ++ ended_jobs s q) (ne_eqb m.to s away) in
      h v is unchanged ∙ ap (λ l. departing_jobs (moments log) ++ (l ++ v.waiting)) (first ∙ sym same)

  -- a message to the server keeps the order
  in_order-here : (st : StateView) (m : Msg) (q : List Msg) (log : List (Entry Msg Line))
      → m.to ≡ s → IsGood net s st → Sorted msg_cmp (m ∷ q) → m.key.time < bound
      → KeepsQueue net valid s 1 bound st (m ∷ q) log
      → IsInOrder s st (m ∷ q) log
      → IsInOrder s (handle net st m).state (insert_all msg_cmp (handle net st m).sends q)
      (log ++ record { msg = m; line = (handle net st m).line } ∷ [])
  in_order-here st m q log here good sorted soon h order v' is' unchanged' =
      let hg = handles-good net valid s st m good in
      let v : ServerState = h.server in
      let r : Reaction ServerState = server_reaction net st m v in
      let is = server-turn net st m v h.kind in
      let sends : List Msg = (handle net st m).sends in
      let e : Entry Msg Line = record { msg = m; line = (handle net st m).line } in
      let ms : List Moment = moments log in
      let mo : Moment = moment_of (last_lost 0 log) e in
      let ev : Event = event_of m.payload v.lost r.state.lost in
      let event : mo.event ≡ ev = ap (λ n. event_of m.payload n (lost_in e.line)) h.losses
      ∙ ap (λ l. event_of m.payload v.lost (lost_in l)) is.line in
      let joined : moments (log ++ e ∷ []) ≡ ms ++ mo ∷ [] = moments_after-append 0 log (e ∷ []) in
      let none : count is_change (ms ++ mo ∷ []) ≡ 0 = sym (ap (count is_change) joined) ∙ unchanged' in
      let more = count-push is_change ms mo in
      let unchanged : count is_change ms ≡ 0 = omega (arith, none, more) in
      let no_change : is_change ev ≡ false =
      ap is_change (sym event) ∙ one_if-zero (is_change mo.event) (omega (arith, none, more)) in
      let was = h.unchanged unchanged in
      let was0 = was.0 in
      let was1 = was.1 in
      let after = keeps_queue-here net valid s 1 bound st m q log here good sorted soon h in
      let now = after.unchanged unchanged' in
      let now1 = now.1 in
      let busy = after.busy in
      let counts = insert_all-counts (law net valid s 1 bound).order.order (is_done_at s (λ j. true)) net m.key.time s
      st.sender.next sends q hg.sends (λ z i. h.numbers z (inr i)) in
      let kept : ended_jobs s (insert_all msg_cmp sends q) ≡ ended_jobs s q ++ ended_jobs s sends =
      ended_jobs-insert_all (law net valid s 1 bound).order.order s sends q sorted.1
      (omega (arith, now1, busy, counts)) in
      let some : one_if (is_done_by (λ j. true) m.payload) ≤ v.busy =
      (let b = h.busy in let f = filter-cons (is_done_at s (λ j. true)) m q in
      let o = ap (λ t. one_if (t && is_done_by (λ j. true) m.payload)) (eq-eqb m.to s here) in
      omega (arith, b, f, o)) in
      let fits : FitsServer st.handled v = subst (GoodKind st.handled) h.kind good.fits in
      let idle : v.busy < v.servers → v.waiting ≡ [] = λ free. elim fits.line [
        | inl nobody ↦ nil_from_length v.waiting nobody
        | inr full ↦ absurd (omega (arith, free, full))
      ] in
      let by_arrival : serves_by_class (site_of net st.sender.station).kind ≡ false =
      ap (λ n. serves_by_class (site_of net n).kind) good.station ∙ ap serves_by_class is_server in
      let line : ended_jobs s sends ++ r.state.waiting ≡ v.waiting ++ visiting_job ev =
      ap (λ l. ended_jobs s l ++ r.state.waiting) is.sends
      ∙ server_on-keeps s net (site_of net st.sender.station) m.key.time m.payload v
      (record { sender = st.sender; sends = [] }) good.station by_arrival idle some no_change in
      let head : ended_jobs s (m ∷ q) ≡ departing_job ev ++ ended_jobs s q =
      ap (λ b. (if b then ended_job m.payload else []) ++ ended_jobs s q) (eq-eqb m.to s here)
      ∙ ap (λ l. l ++ ended_jobs s q) (departing_job-is m.payload v.lost r.state.lost) in
      let came : visiting_jobs (moments (log ++ e ∷ [])) ≡ visiting_jobs ms ++ visiting_job ev =
      ap visiting_jobs joined ∙ visiting_jobs-push ms mo ∙ ap (λ x. visiting_jobs ms ++ visiting_job x) event in
      let went : departing_jobs (moments (log ++ e ∷ [])) ≡ departing_jobs ms ++ departing_job ev =
      ap departing_jobs joined ∙ departing_jobs-push ms mo ∙ ap (λ x. departing_jobs ms ++ departing_job x) event in
      let old : visiting_jobs ms ≡ departing_jobs ms ++ ((departing_job ev ++ ended_jobs s q) ++ v.waiting) =
      order v h.kind unchanged ∙ ap (λ l. departing_jobs ms ++ (l ++ v.waiting)) head in
      came ∙ ap (λ l. l ++ visiting_job ev) old
      ∙ append-regroup (departing_jobs ms) (departing_job ev) (ended_jobs s q)
      (ended_jobs s sends) r.state.waiting v.waiting (visiting_job ev) line
      ∙ ap (λ l. l ++ ((ended_jobs s q ++ ended_jobs s sends) ++ r.state.waiting)) (sym went)
      ∙ ap (λ l. departing_jobs (moments (log ++ e ∷ [])) ++ (l ++ r.state.waiting)) (sym kept)
      ∙ ap (λ (w : ServerState). departing_jobs (moments (log ++ e ∷ []))
      ++ (ended_jobs s (insert_all msg_cmp sends q) ++ w.waiting))
      (same_server (handle net st m).state r.state v' is.kind is')

  -- the world of a clone keeps the queue and the order
  abbrev WorldIsInOrder : Config (World StateView Msg Line) Msg → Type 0
  WorldIsInOrder w = WorldKeepsQueue net valid s 1 room lo hi false there is_server bound w
      × IsInOrder s (w.at.states s) w.pending (log_of (λ (m : Msg). m.to) s w.at.trace)

  -- a turn keeps both
  ordered-step : (x : World StateView Msg Line) (m : Msg) (q : List Msg)
      → Fine msg_cmp (λ (m : Msg). m.key.time) (AllGood (IsGood net)) 0 (record { at = x; pending = m ∷ q })
      → m.key.time < bound → WorldIsInOrder (record { at = x; pending = m ∷ q })
      → WorldIsInOrder (config_after msg_cmp (world_step (λ (m : Msg). m.to) (λ (r : ℕ). handle net)) x m q)
  ordered-step x m q fine soon h =
      let st : StateView = x.states m.to in
      let out : List Msg = insert_all msg_cmp (handle net st m).sends q in
      let e : Entry Msg Line = record { msg = m; line = (handle net st m).line } in
      let log : List (Entry Msg Line) = log_of (λ (m : Msg). m.to) s x.trace in (
        world-step net valid s 1 room lo hi false there is_server bound x m q fine soon h.0,
        elim (cases_eq m.to s) [
          | inl here ↦
              let same : x.states s ≡ st = ap x.states (sym here) in
              let good : IsGood net s st = subst (λ r. IsGood net r st) here (fine.good m.to) in
              let ordered = in_order-here st m q log here good fine.sorted soon
              (subst (λ y. KeepsQueue net valid s 1 bound y (m ∷ q) log) same h.0)
              (subst (λ y. IsInOrder s y (m ∷ q) log) same h.1) in
              subst (λ l. IsInOrder s (put x.states m.to (handle net st m).state s) out l)
              (sym (log_here (λ (m : Msg). m.to) s x.trace e here))
              (subst (λ y. IsInOrder s y out (log ++ e ∷ []))
              (sym (put_same x.states m.to (handle net st m).state s (sym here))) ordered)
          | inr away ↦
              let ordered = in_order-away (x.states s) st m q log away (fine.good m.to) fine.sorted h.1 in
              subst (λ l. IsInOrder s (put x.states m.to (handle net st m).state s) out l)
              (sym (log_there (λ (m : Msg). m.to) s x.trace e away))
              (subst (λ y. IsInOrder s y out log)
              (sym (put_other x.states m.to (handle net st m).state s (λ i. away (sym i)))) ordered)
        ],
      )

  -- both hold at the beginning, since no job is in the system
  ordered-first : (plans : List Planned) → WorldIsInOrder (first_world (simulation net) plans)
  ordered-first plans =
      let h = world-first net valid s 1 room lo hi false there is_server bound plans in (
        h,
        λ v is unchanged.
            let pending : List Msg = (first_world (simulation net) plans).pending in
            let jobs = h.jobs (λ j. true) in
            let nobody : v.waiting ≡ [] =
            ap (λ (w : ServerState). w.waiting) (same_server ((first_world (simulation net) plans).at.states s) v
            (record { servers = 1; room = room; lo = lo; hi = hi; busy = 0; waiting = []; done = 0; lost = 0 }) is
            (ap (opening_kind (site_of net s)) is_server)) in
            let none : ended_jobs s pending ≡ [] = nil_from_length (ended_jobs s pending) (ended_jobs-length s pending
            ∙ done_count-first net valid s 1 room lo hi false there is_server bound plans (λ j. true)) in
            sym (ap (λ l. l ++ v.waiting) none ∙ nobody),
      )

  -- the run of a decision list
  ordered-run : (plans : List Planned) → WorldIsInOrder (run (simulation net) plans bound)
  ordered-run plans =
      fine_keeps (law net valid s 1 bound).order (world_lawful (law net valid s 1 bound)) 0 WorldIsInOrder
      (ordered-first plans)
      ordered-step (begins_fine (law net valid s 1 bound) plans)
      (run_reached (law net valid s 1 bound) plans bound).0

-- jobs depart in order of arrival
pub runs-serve_in_order : (net : Net) → IsNet net → RunsServeInOrder net
runs-serve_in_order net valid c s front room lo hi there is_server unchanged =
    let bound : ℕ = min front (end_of (simulation net) c) in
    let h = ordered-run net valid s room lo hi there is_server bound c.plans in
    record {
      rest = ended_jobs s (run (simulation net) c.plans bound).pending
          ++ h.0.server.waiting;
      is = h.1 h.0.server h.0.kind unchanged;
    }
