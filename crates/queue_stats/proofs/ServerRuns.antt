-- The log of a server in the run of a clone is the history of a queue.
use Rattle.std.proofs.Common.{◌≡◌, ℕ, ◌<◌, inl, inr, List, [], ◌∷◌, ◌++◌, Bool, true, false, min, ◌==◌, length, refl}
use Rattle.std.proofs.Common.{sym, ap, ◌∙◌, subst, arith}
use Rattle.std.proofs.lemmas.Bool.{and_right, cases_eq}
use Rattle.sim_base.specs.Order.{msg_cmp}
use Rattle.sim_base.specs.declared.decision.Planned.{Planned}
use Rattle.sim_base.specs.declared.entry.Entry.{Entry}
use Rattle.sim_base.specs.declared.entry.Line.{Line}
use Rattle.sim_base.specs.declared.message.Job.{Job as JobOf}
use Rattle.sim_base.specs.declared.message.Msg.{Msg}
use Rattle.run_laws.specs.Queue.{insert_all, In}
use Rattle.run_laws.specs.Machine.{Config, config_after}
use Rattle.run_laws.specs.World.{World, log_of, put, world_step, first_world, first_messages, set_messages}
use Rattle.run_laws.specs.Runs.{end_of, run}
use Rattle.run_laws.specs.Handlers.{AllGood}
use Rattle.run_laws.proofs.Queue.{all_from, in_insert_all}
use Rattle.run_laws.proofs.Lists.{in_append, filter_none}
use Rattle.run_laws.proofs.Running.{Fine, fine_keeps}
use Rattle.run_laws.proofs.Worlds.{put_same, put_other, log_here, log_there, in_first_messages, in_set_messages}
use Rattle.run_laws.proofs.Worlds.{world_lawful, begins_fine, run_reached}
use Rattle.net_model.specs.Net.{Net, HasStation, site_of}
use Rattle.net_model.specs.Rules.{IsNet}
use Rattle.net_model.specs.declared.station.Kind.TheVariants as kind
use Rattle.stations.specs.declared.kind_state.ServerState.{ServerState}
use Rattle.stations.specs.Good.{IsGood}
use Rattle.stations.specs.Handling.{StateView, handle}
use Rattle.stations.specs.Opening.{opening_kind, setup}
use Rattle.stations.specs.Runs.{simulation, set_message}
use Rattle.stations.proofs.GoodLaws.{fresh-stations}
use Rattle.queue_stats.specs.Queues.{opened}
use Rattle.queue_stats.specs.Laws.{LogsAreQueues}
use Rattle.queue_stats.proofs.ServerMoves.{is_done_at, done_count}
use Rattle.queue_stats.proofs.OtherStations.{no_done-setup}
use Rattle.queue_stats.proofs.ServerTurns.{KeepsQueue, law, keeps_queue-away, keeps_queue-here}

module _ (net : Net) (valid : IsNet net) (s servers room lo hi : ℕ) (by_class : Bool) (there : HasStation net s)
    (is_server : (site_of net s).kind ≡ kind.Server servers room lo hi by_class) (bound : ℕ) where
  -- the world of a clone keeps the queue of a server
  abbrev pub WorldKeepsQueue : Config (World StateView Msg Line) Msg → Type 0
  WorldKeepsQueue w = KeepsQueue net valid s servers bound (w.at.states s) w.pending
      (log_of (λ (m : Msg). m.to) s w.at.trace)

  -- a turn keeps the queue
  pub world-step : (x : World StateView Msg Line) (m : Msg) (q : List Msg)
      → Fine msg_cmp (λ (m : Msg). m.key.time) (AllGood (IsGood net)) 0 (record { at = x; pending = m ∷ q })
      → m.key.time < bound → WorldKeepsQueue (record { at = x; pending = m ∷ q })
      → WorldKeepsQueue (config_after msg_cmp (world_step (λ (m : Msg). m.to) (λ (r : ℕ). handle net)) x m q)
  world-step x m q fine soon h =
      let st : StateView = x.states m.to in
      let out : List Msg = insert_all msg_cmp (handle net st m).sends q in
      let e : Entry Msg Line = record { msg = m; line = (handle net st m).line } in
      let log : List (Entry Msg Line) = log_of (λ (m : Msg). m.to) s x.trace in
      elim (cases_eq m.to s) [
        | inl here ↦
            let same : x.states s ≡ st = ap x.states (sym here) in
            let good : IsGood net s st = subst (λ r. IsGood net r st) here (fine.good m.to) in
            let served = keeps_queue-here net valid s servers bound st m q log here good fine.sorted soon
            (subst (λ y. KeepsQueue net valid s servers bound y (m ∷ q) log) same h) in
            subst (λ l. KeepsQueue net valid s servers bound (put x.states m.to (handle net st m).state s) out l)
            (sym (log_here (λ (m : Msg). m.to) s x.trace e here))
            (subst (λ y. KeepsQueue net valid s servers bound y out (log ++ e ∷ []))
            (sym (put_same x.states m.to (handle net st m).state s (sym here))) served)
        | inr away ↦
            let served = keeps_queue-away net valid s servers bound (x.states s) st m q log away
            (fine.good m.to) fine.sorted h in
            subst (λ l. KeepsQueue net valid s servers bound (put x.states m.to (handle net st m).state s) out l)
            (sym (log_there (λ (m : Msg). m.to) s x.trace e away))
            (subst (λ y. KeepsQueue net valid s servers bound y out log)
            (sym (put_other x.states m.to (handle net st m).state s (λ i. away (sym i)))) served)
      ]

  -- no message at the beginning ends a service
  no_done-first : (plans : List Planned) (p : JobOf → Bool) (z : Msg)
      → In z (first_world (simulation net) plans).pending
      → is_done_at s p z ≡ false
  no_done-first plans p z i = elim (in_insert_all (law net valid s servers bound).order.order
      (first_messages (simulation net) (length net.sites) ++ set_messages (simulation net) 0 plans) [] z i) [
        | inl j ↦ elim
            (in_append (first_messages (simulation net) (length net.sites))
            (set_messages (simulation net) 0 plans) z j) [
              | inl k ↦ let f = in_first_messages (simulation net) (length net.sites) z k in
                  no_done-setup s p net f.0 z f.2
              | inr k ↦ let f = in_set_messages (simulation net) 0 plans z k in
                  subst (λ y. is_done_at s p y ≡ false) (sym f.4) (and_right ((set_message f.0 f.1).to == s) false refl)
            ]
        | inr j ↦ absurd j
      ]

  -- no end of a service is pending at the beginning
  pub done_count-first : (plans : List Planned) (p : JobOf → Bool)
      → done_count s p (first_world (simulation net) plans).pending ≡ 0
  done_count-first plans p = ap length (filter_none (is_done_at s p) (first_world (simulation net) plans).pending
      (all_from (λ z. is_done_at s p z ≡ false) (first_world (simulation net) plans).pending (no_done-first plans p)))

  -- the queue at the beginning
  pub world-first : (plans : List Planned) → WorldKeepsQueue (first_world (simulation net) plans)
  world-first plans =
      let v : ServerState =
      record { servers = servers; room = room; lo = lo; hi = hi; busy = 0; waiting = []; done = 0; lost = 0 } in
      record {
        server = v;
        kind = ap (opening_kind (site_of net s)) is_server;
        queue = opened;
        losses = refl;
        jobs = λ p. let none = done_count-first plans p in omega (arith, none);
        busy = sym (done_count-first plans (λ j. true));
        numbers = λ z i e. elim (in_insert_all (law net valid s servers bound).order.order
            (first_messages (simulation net) (length net.sites) ++ set_messages (simulation net) 0 plans) [] z i) [
              | inl j ↦ elim
                  (in_append (first_messages (simulation net) (length net.sites))
                  (set_messages (simulation net) 0 plans) z j) [
                    | inl k ↦
                        let f = in_first_messages (simulation net) (length net.sites) z k in
                        let o = (fresh-stations net valid).opened f.0 z f.1 f.2 in
                        subst (λ r. z.key.number < (setup net r).state.sender.next) (sym o.0 ∙ e) o.1
                    | inr k ↦
                        let f = in_set_messages (simulation net) 0 plans z k in
                        let zero_sender : z.key.sender ≡ 0 = ap (λ (y : Msg). y.key.sender) f.4 in
                        let low = there.low in
                        absurd (omega (arith, zero_sender, e, low))
                  ]
              | inr j ↦ absurd j
            ];
        past = λ z i. tt;
        time_max = tt;
        unchanged = λ none. (refl, omega arith);
      }

  -- the run of a decision list to the bound
  world-run : (plans : List Planned) → WorldKeepsQueue (run (simulation net) plans bound)
  world-run plans =
      fine_keeps (law net valid s servers bound).order (world_lawful (law net valid s servers bound)) 0 WorldKeepsQueue
      (world-first plans)
      world-step (begins_fine (law net valid s servers bound) plans)
      (run_reached (law net valid s servers bound) plans bound).0

-- the log of a server is the history of a queue
pub logs-are_queues : (net : Net) → IsNet net → LogsAreQueues net
logs-are_queues net valid c s front servers room lo hi by_class there is_server =
    let bound : ℕ = min front (end_of (simulation net) c) in
    let h = world-run net valid s servers room lo hi by_class there is_server bound c.plans in
    record { queue = h.queue; time_max = h.time_max }
