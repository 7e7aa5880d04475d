-- A server in the run of a clone, turn by turn: its log is the history of a queue.
use Rattle.std.proofs.Common.{◌≡◌, ℕ, suc, ◌+◌, ◌<◌, ◌≤◌, inl, inr, List, [], ◌∷◌, ◌++◌, Bool, true, false}
use Rattle.std.proofs.Common.{if◌then◌else◌, nat_lt, ◌&&◌, ◌==◌, length, refl, sym, ap, ◌∙◌, subst, arith, eq-eqb}
use Rattle.std.specs.List.{AllByRecursion, filter}
use Rattle.std.specs.declared.cmp.Ordering.TheVariants.{Less}
use Rattle.std.proofs.lemmas.List.{nil_from_length}
use Rattle.std.proofs.lemmas.Bool.{and_left, ne_eqb}
use Rattle.sim_base.specs.Order.{msg_cmp}
use Rattle.sim_base.specs.declared.entry.Entry.{Entry}
use Rattle.sim_base.specs.declared.entry.Line.{Line}
use Rattle.sim_base.specs.declared.message.Job.{Job as JobOf}
use Rattle.sim_base.specs.declared.message.Msg.{Msg}
use Rattle.sim_base.specs.declared.message.Payload.{Payload}
use Rattle.sim_base.specs.declared.message.Payload.TheVariants.{Tick, Job, Done, Set}
use Rattle.sim_base.proofs.ListLaws.{all_weaker, all_push}
use Rattle.run_laws.specs.Queue.{insert_all, In, Sorted}
use Rattle.run_laws.specs.Handlers.{HandlesLawfully}
use Rattle.run_laws.proofs.Queue.{all_in, in_insert_all}
use Rattle.run_laws.proofs.Lists.{filter-insert_all}
use Rattle.net_model.specs.Net.{Net, site_of}
use Rattle.net_model.specs.Rules.{IsNet}
use Rattle.stations.specs.declared.kind_state.KindState.{KindState}
use Rattle.stations.specs.declared.kind_state.KindState.TheVariants as state
use Rattle.stations.specs.declared.kind_state.ServerState.{ServerState}
use Rattle.stations.specs.Fits.{FitsServer, GoodKind}
use Rattle.stations.specs.Good.{IsGood}
use Rattle.stations.specs.Handling.{StateView, kind_on, handle, line_of}
use Rattle.stations.specs.Runs.{simulation}
use Rattle.stations.specs.Sends.{AreSends}
use Rattle.stations.specs.Sending.{Reaction}
use Rattle.stations.specs.Servers.{server_on}
use Rattle.stations.proofs.GoodLaws.{handles-good, lawful-stations}
use Rattle.queue_stats.specs.Moments.{Event, visit, loss, Moment, event_of, moment_of, moments, last_lost, lost_in}
use Rattle.queue_stats.specs.Moments.{busy_in, wait_in, is_visit_by, is_departure_by, is_change, same_job}
use Rattle.queue_stats.specs.Figures.{one_if, count}
use Rattle.queue_stats.specs.Queues.{Follows, IsQueue, goes_on}
use Rattle.queue_stats.proofs.Lists.{one_if-zero, filter-cons, filter-true}
use Rattle.queue_stats.proofs.Pushes.{count-push}
use Rattle.queue_stats.proofs.Prefixes.{moments_after-append}
use Rattle.queue_stats.proofs.ServerMoves.{is_done_by, is_done_at, done_count, waiting_count, server_on-moves}
use Rattle.queue_stats.proofs.OtherStations.{no_done-others}
use Rattle.queue_stats.proofs.NewSends.{insert_all-counts}

-- ---- sends

-- each send is from its station
sender-sends : (net : Net) (now r k : ℕ) (xs : List Msg) (z : Msg) → AreSends net now r k xs → In z xs
    → z.key.sender ≡ r
sender-sends net now r k [] z are i = absurd i
sender-sends net now r k (x ∷ xs) z are (inl e) = ap (λ (m : Msg). m.key.sender) e ∙ are.0.sender
sender-sends net now r k (x ∷ xs) z are (inr i) = sender-sends net now r (suc k) xs z are.1 i

-- each send has a number below the next number
number-sends : (net : Net) (now r k : ℕ) (xs : List Msg) (z : Msg) → AreSends net now r k xs → In z xs
    → z.key.number < k + length xs
number-sends net now r k [] z are i = absurd i
number-sends net now r k (x ∷ xs) z are (inl e) =
    let n = ap (λ (m : Msg). m.key.number) e in
    let is = are.0.number in
    omega (arith, n, is)
number-sends net now r k (x ∷ xs) z are (inr i) =
    let l = number-sends net now r (suc k) xs z are.1 i in omega (arith, l)

-- ---- a message to the server

-- the outcome of a server that handles a message is that of this reaction
pub record IsServerTurn (net : Net) (st : StateView) (m : Msg) (r : Reaction ServerState) : Type 0 where
  pub kind : (handle net st m).state.kind ≡ state.Server r.state
  pub sends : (handle net st m).sends ≡ r.out.sends
  pub line : (handle net st m).line ≡ line_of (state.Server r.state)

-- the reaction of a server
abbrev pub server_reaction : Net → StateView → Msg → ServerState → Reaction ServerState
server_reaction net st m v =
    server_on net (site_of net st.sender.station) m.key.time m.payload v (record { sender = st.sender; sends = [] })

-- a server handles a message by its reaction
pub server-turn : (net : Net) (st : StateView) (m : Msg) (v : ServerState) → st.kind ≡ state.Server v
    → IsServerTurn net st m (server_reaction net st m v)
unfolding handle
server-turn net st m v is =
    let by : KindState → Reaction KindState =
    λ k. kind_on net (site_of net st.sender.station) m.key.time m.payload k
    (record { sender = st.sender; sends = [] }) in
    record {
      kind = ap (λ k. (by k).state) is;
      sends = ap (λ k. (by k).out.sends) is;
      line = ap (λ k. line_of (by k).state) is;
    }

-- the event of a message is a departure if the message is the end of a service
is_done_by-is : (p : JobOf → Bool) (payload : Payload) (before now : ℕ)
    → is_done_by p payload ≡ is_departure_by p (event_of payload before now)
is_done_by-is p (Job j) before now = by (nat_lt before now)
  where
    by : (b : Bool) → false ≡ is_departure_by p (if b then loss else visit j)
    by true = refl
    by false = refl
is_done_by-is p (Done j) before now = refl
is_done_by-is p (Set c) before now = refl
is_done_by-is p Tick before now = refl

module _ (net : Net) (valid : IsNet net) (s servers : ℕ) (bound : ℕ) where
  -- the queue of a server: its state, the pending messages and its log agree
  pub record KeepsQueue (st : StateView) (pending : List Msg) (log : List (Entry Msg Line)) : Type 0 where
    -- the state is that of a server
    pub server : ServerState
    pub kind : st.kind ≡ state.Server server
    -- its log is the history of a queue
    pub queue : IsQueue servers (moments log)
    -- the log shows the count of lost jobs
    pub losses : last_lost 0 log ≡ server.lost
    -- each visitor waits, is in service with the end of its service pending, or has departed
    pub jobs : (p : JobOf → Bool)
        → waiting_count p server + done_count s p pending + count (is_departure_by p) (moments log)
        ≡ count (is_visit_by p) (moments log)
    -- the end of each service is pending
    pub busy : server.busy ≡ done_count s (λ j. true) pending
    -- pending messages of this station have numbers below its next number
    pub numbers : (z : Msg) → In z pending → z.key.sender ≡ s → z.key.number < st.sender.next
    -- no pending message is earlier than the log, and the log is before the bound
    pub past : (z : Msg) → In z pending → AllByRecursion (λ x. x.time ≤ z.key.time) (moments log)
    pub time_max : AllByRecursion (λ x. x.time < bound) (moments log)
    -- until a parameter changes, the number of servers is the first
    pub unchanged : count is_change (moments log) ≡ 0 → (server.servers ≡ servers) × (server.busy ≤ servers)

  -- the law of these stations
  abbrev pub law : HandlesLawfully (simulation net) (IsGood net)
  law = lawful-stations net valid

  -- a message to another station keeps the queue
  pub keeps_queue-away : (st : StateView) (other : StateView) (m : Msg) (q : List Msg) (log : List (Entry Msg Line))
      → (m.to ≡ s → ⊥) → IsGood net m.to other → Sorted msg_cmp (m ∷ q) → KeepsQueue st (m ∷ q) log
      → KeepsQueue st (insert_all msg_cmp (handle net other m).sends q) log
  keeps_queue-away st other m q log away good sorted h =
      let hg = handles-good net valid m.to other m good in
      let sends : List Msg = (handle net other m).sends in
      let none : (p : JobOf → Bool) → filter (is_done_at s p) sends ≡ [] = λ p.
      nil_from_length (filter (is_done_at s p) sends)
      (no_done-others s p net other m (λ e. away (sym good.station ∙ e))) in
      let same : (p : JobOf → Bool) → done_count s p (insert_all msg_cmp sends q) ≡ done_count s p q = λ p.
      ap length (filter-insert_all law.order.order (is_done_at s p) sends q sorted.1
      ∙ ap (λ l. insert_all msg_cmp l (filter (is_done_at s p) q)) (none p)) in
      let first : (p : JobOf → Bool) → done_count s p (m ∷ q) ≡ done_count s p q = λ p.
      filter-cons (is_done_at s p) m q
      ∙ ap (λ b. one_if b + done_count s p q) (and_left (m.to == s) (is_done_by p m.payload) (ne_eqb m.to s away))
      ∙ omega arith in
      record {
        server = h.server;
        kind = h.kind;
        queue = h.queue;
        losses = h.losses;
        jobs = λ p. let a = h.jobs p in let b = same p in let c = first p in omega (arith, a, b, c);
        busy = h.busy ∙ first (λ j. true) ∙ sym (same (λ j. true));
        numbers = λ z i e. elim (in_insert_all law.order.order sends q z i) [
          | inl j ↦ absurd (away (sym (sender-sends net m.key.time m.to other.sender.next sends z hg.sends j) ∙ e))
          | inr j ↦ h.numbers z (inr j) e
        ];
        past = λ z i. elim (in_insert_all law.order.order sends q z i) [
          | inl j ↦ let l = all_in (λ y. m.key.time < y.key.time) sends z (law.later m.to other m good) j in
              all_weaker (λ x. x.time ≤ m.key.time) (λ x. x.time ≤ z.key.time) (moments log)
              (λ x k. omega (arith, k, l))
              (h.past m (inl refl))
          | inr j ↦ h.past z (inr j)
        ];
        time_max = h.time_max;
        unchanged = h.unchanged;
      }

  -- a message to the server keeps the queue
  pub keeps_queue-here : (st : StateView) (m : Msg) (q : List Msg) (log : List (Entry Msg Line))
      → m.to ≡ s → IsGood net s st → Sorted msg_cmp (m ∷ q) → m.key.time < bound → KeepsQueue st (m ∷ q) log
      → KeepsQueue (handle net st m).state (insert_all msg_cmp (handle net st m).sends q)
      (log ++ record { msg = m; line = (handle net st m).line } ∷ [])
  keeps_queue-here st m q log here good sorted soon h =
      let hg = handles-good net valid s st m good in
      let v : ServerState = h.server in
      let r : Reaction ServerState = server_reaction net st m v in
      let is = server-turn net st m v h.kind in
      let sends : List Msg = (handle net st m).sends in
      let e : Entry Msg Line = record { msg = m; line = (handle net st m).line } in
      let ms : List Moment = moments log in
      let mo : Moment = moment_of (last_lost 0 log) e in
      let ev : Event = event_of m.payload v.lost r.state.lost in
      let event : mo.event ≡ ev = ap (λ n. event_of m.payload n (lost_in e.line)) h.losses
      ∙ ap (λ l. event_of m.payload v.lost (lost_in l)) is.line in
      let joined : moments (log ++ e ∷ []) ≡ ms ++ mo ∷ [] = moments_after-append 0 log (e ∷ []) in
      let own : (p : JobOf → Bool) → one_if (is_done_at s p m) ≡ one_if (is_departure_by p ev) = λ p.
      ap (λ t. one_if (t && is_done_by p m.payload)) (eq-eqb m.to s here)
      ∙ ap one_if (is_done_by-is p m.payload v.lost r.state.lost) in
      let first : (p : JobOf → Bool) → done_count s p (m ∷ q) ≡ one_if (is_done_at s p m) + done_count s p q =
      λ p. filter-cons (is_done_at s p) m q in
      let counts : (p : JobOf → Bool)
      → done_count s p (insert_all msg_cmp sends q) ≡ done_count s p r.out.sends + done_count s p q = λ p.
      insert_all-counts law.order.order (is_done_at s p) net m.key.time s st.sender.next sends q hg.sends
      (λ z i. h.numbers z (inr i))
      ∙ ap (λ l. done_count s p l + done_count s p q) is.sends in
      let some : one_if (is_done_by (λ j. true) m.payload) ≤ v.busy =
      (let b = h.busy in let f = first (λ j. true) in
      let o = ap (λ t. one_if (t && is_done_by (λ j. true) m.payload)) (eq-eqb m.to s here) in
      omega (arith, b, f, o)) in
      let does = server_on-moves s net (site_of net st.sender.station) m.key.time m.payload v
      (record { sender = st.sender; sends = [] })
      good.station some in
      let left : (p : JobOf → Bool)
      → count (is_departure_by p) (ms ++ mo ∷ []) ≡ count (is_departure_by p) ms + one_if (is_departure_by p ev) =
      λ p. count-push (is_departure_by p) ms mo
      ∙ ap (λ x. count (is_departure_by p) ms + one_if (is_departure_by p x)) event in
      let come : (p : JobOf → Bool)
      → count (is_visit_by p) (ms ++ mo ∷ []) ≡ count (is_visit_by p) ms + one_if (is_visit_by p ev) =
      λ p. count-push (is_visit_by p) ms mo ∙ ap (λ x. count (is_visit_by p) ms + one_if (is_visit_by p x)) event in
      let jobs : (p : JobOf → Bool)
      → waiting_count p r.state + done_count s p (insert_all msg_cmp sends q) + count (is_departure_by p)
      (ms ++ mo ∷ [])
      ≡ count (is_visit_by p) (ms ++ mo ∷ []) = λ p.
      let a = does.jobs p in let b = counts p in let c = left p in let d = come p in let f = h.jobs p in
      let g = first p in
      let o = own p in omega (arith, a, b, c, d, f, g, o) in
      let busy : r.state.busy ≡ done_count s (λ j. true) (insert_all msg_cmp sends q) =
      (let a = does.busy in let b = counts (λ j. true) in let c = h.busy in let f = first (λ j. true) in
      let o = own (λ j. true) in omega (arith, a, b, c, f, o)) in
      let unchanged : count is_change (ms ++ mo ∷ []) ≡ 0 → (r.state.servers ≡ servers) × (r.state.busy ≤ servers) =
      λ none.
      let more = count-push is_change ms mo in
      let no_change : is_change ev ≡ false =
      ap is_change (sym event) ∙ one_if-zero (is_change mo.event) (omega (arith, none, more)) in
      let before = h.unchanged (omega (arith, none, more)) in
      let b0 = before.0 in
      let b1 = before.1 in
      let now = does.unchanged no_change in
      let few = now.1 (omega (arith, b0, b1)) in
      (now.0 ∙ b0, omega (arith, few, b0)) in
      let fits : FitsServer (handle net st m).state.handled r.state =
      subst (GoodKind (handle net st m).state.handled) is.kind hg.good.fits in
      let in_service : mo.busy ≡ r.state.busy = ap busy_in is.line in
      let in_line : mo.wait ≡ length r.state.waiting = ap wait_in is.line in
      let follows : Follows servers ms mo = record {
        later = h.past m (inl refl);
        conserved = (let a = jobs (λ j. true) in
            let b = filter-true r.state.waiting in omega (arith, a, b, busy, in_service, in_line));
        matched = λ j. let a = jobs (same_job j) in omega (arith, a);
        work_conserving = λ none. let c = unchanged none in let c0 = c.0 in let c1 = c.1 in (
          omega (arith, in_service, c1),
          elim fits.line [ inl nobody ↦ inl (in_line ∙ nobody) | inr full ↦ inr (omega (arith, full, c0, in_service)) ],
        );
      } in
      record {
        server = r.state;
        kind = is.kind;
        queue = goes_on mo h.queue joined follows;
        losses = last_lost-push 0 log e ∙ ap lost_in is.line;
        jobs = λ p. ap
            (λ l. waiting_count p r.state + done_count s p (insert_all msg_cmp sends q) + count (is_departure_by p) l)
            joined
            ∙ jobs p ∙ sym (ap (count (is_visit_by p)) joined);
        busy = busy;
        numbers = λ z i f. elim (in_insert_all law.order.order sends q z i) [
          | inl j ↦ let l = number-sends net m.key.time s st.sender.next sends z hg.sends j in
              let n = hg.next in omega (arith, l, n)
          | inr j ↦ let l = h.numbers z (inr j) f in let n = hg.next in omega (arith, l, n)
        ];
        past = λ z i. subst (AllByRecursion (λ x. x.time ≤ z.key.time)) (sym joined)
            (all_push (λ x. x.time ≤ z.key.time) ms mo
            (elim (in_insert_all law.order.order sends q z i) [
              | inl j ↦ let l = all_in (λ y. m.key.time < y.key.time) sends z (law.later s st m good) j in
                  all_weaker (λ x. x.time ≤ m.key.time) (λ x. x.time ≤ z.key.time) ms (λ x k. omega (arith, k, l))
                  (h.past m (inl refl))
              | inr j ↦ h.past z (inr j)
            ])
            (elim (in_insert_all law.order.order sends q z i) [
              | inl j ↦ let l = all_in (λ y. m.key.time < y.key.time) sends z (law.later s st m good) j in
                  omega (arith, l)
              | inr j ↦ law.order.timed m z (all_in (λ y. msg_cmp m y ≡ Less) q z sorted.0 j)
            ]));
        time_max = subst (AllByRecursion (λ x. x.time < bound)) (sym joined)
            (all_push (λ x. x.time < bound) ms mo h.time_max soon);
        unchanged = λ none. unchanged (sym (ap (count is_change) joined) ∙ none);
      }
    where
      -- the count of lost jobs after one entry more
      last_lost-push : (before : ℕ) (es : List (Entry Msg Line)) (e : Entry Msg Line)
          → last_lost before (es ++ e ∷ []) ≡ lost_in e.line
      last_lost-push before [] e = refl
      last_lost-push before (x ∷ xs) e = last_lost-push (lost_in x.line) xs e
