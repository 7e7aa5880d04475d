-- The order of service at a single server that serves by arrival.
use Rattle.std.proofs.Common.{◌≡◌, ℕ, ◌+◌, ◌-◌, ◌<◌, ◌≤◌, ◌⊎◌, inl, inr, List, [], ◌∷◌, ◌++◌, Bool, true, false}
use Rattle.std.proofs.Common.{if◌then◌else◌, cond, nat_lt, ◌&&◌, ◌==◌, length, refl, sym, ap, ◌∙◌, subst, arith}
use Rattle.std.proofs.Common.{length-append, append-nil, append_assoc, Option, Some, None, slice_get, ltb-true, eq-eqb}
use Rattle.std.specs.Prelude.{remove}
use Rattle.std.specs.List.{filter}
use Rattle.std.proofs.lemmas.List.{nil_from_length}
use Rattle.std.proofs.lemmas.Bool.{lt-ltb, le-ltb, cases_eq, false≢true}
use Rattle.sim_base.specs.Order.{msg_cmp}
use Rattle.sim_base.specs.declared.message.Job.{Job as JobOf}
use Rattle.sim_base.specs.declared.message.Msg.{Msg}
use Rattle.sim_base.specs.declared.message.Payload.{Payload}
use Rattle.sim_base.specs.declared.message.Payload.TheVariants.{Tick, Job, Done, Set}
use Rattle.sim_draw.specs.Drawing.{range_of}
use Rattle.net_model.specs.declared.station.Link.{Link}
use Rattle.net_model.specs.Net.{Net, Site, serves_by_class}
use Rattle.run_laws.specs.Queue.{insert_all, Sorted}
use Rattle.run_laws.specs.Handlers.{IsOrder}
use Rattle.run_laws.proofs.Lists.{filter-insert_all}
use Rattle.stations.specs.declared.kind_state.ServerState.{ServerState}
use Rattle.stations.specs.Sending.{Outgoing, reaction, send_over, after_pick, link_by, route, weights_of}
use Rattle.stations.specs.Servers.{next_place, place_of_class, least_in, start, start_at, start_next, server_job}
use Rattle.stations.specs.Servers.{server_on}
use Rattle.queue_stats.specs.Moments.{visit, loss, Moment, event_of, is_change}
use Rattle.queue_stats.specs.Figures.{one_if}
use Rattle.queue_stats.specs.Orders.{visiting_job, departing_job, visiting_jobs, departing_jobs}
use Rattle.queue_stats.proofs.Lists.{filter-cons}
use Rattle.queue_stats.proofs.ServerMoves.{is_done_by, is_done_at, done_count, send_over-station}

-- ---- the jobs whose services end

-- the job whose service a message ends, if any
abbrev pub ended_job : Payload → List JobOf
ended_job (Done job) = job ∷ []
ended_job _ = []

-- the same at station s
abbrev ended_job_at : ℕ → Msg → List JobOf
ended_job_at s m = if m.to == s then ended_job m.payload else []

-- the jobs whose services some messages end
abbrev pub ended_jobs : ℕ → List Msg → List JobOf
ended_jobs s [] = []
ended_jobs s (m ∷ ms) = ended_job_at s m ++ ended_jobs s ms

-- one message more at the end
ended_jobs-push : (s : ℕ) (ms : List Msg) (m : Msg) → ended_jobs s (ms ++ m ∷ []) ≡ ended_jobs s ms ++ ended_job_at s m
ended_jobs-push s [] m = append-nil (ended_job_at s m)
ended_jobs-push s (x ∷ xs) m =
    ap (λ l. ended_job_at s x ++ l) (ended_jobs-push s xs m)
    ∙ sym (append_assoc (ended_job_at s x) (ended_jobs s xs) (ended_job_at s m))

-- a message that ends no service has no such job
ended_job-none : (b : Bool) (p : Payload) → (b && is_done_by (λ j. true) p) ≡ false
    → (if b then ended_job p else []) ≡ []
ended_job-none true (Done j) h = absurd (false≢true (sym h))
ended_job-none true (Job j) h = refl
ended_job-none true (Set c) h = refl
ended_job-none true Tick h = refl
ended_job-none false p h = refl

-- a message that ends a service has one such job
ended_job-one : (b : Bool) (p : Payload)
    → length (if b then ended_job p else []) ≡ one_if (b && is_done_by (λ j. true) p)
ended_job-one true (Done j) = refl
ended_job-one true (Job j) = refl
ended_job-one true (Set c) = refl
ended_job-one true Tick = refl
ended_job-one false p = refl

-- other messages change nothing
pub ended_jobs-filter : (s : ℕ) (ms : List Msg) → ended_jobs s (filter (is_done_at s (λ j. true)) ms) ≡ ended_jobs s ms
ended_jobs-filter s [] = refl
ended_jobs-filter s (m ∷ ms) = by (is_done_at s (λ j. true) m) refl (ended_jobs-filter s ms)
  where
    by : (b : Bool) → is_done_at s (λ j. true) m ≡ b
        → ended_jobs s (filter (is_done_at s (λ j. true)) ms) ≡ ended_jobs s ms
        → ended_jobs s (cond b (m ∷ filter (is_done_at s (λ j. true)) ms) (filter (is_done_at s (λ j. true)) ms))
        ≡ ended_job_at s m ++ ended_jobs s ms
    by true is rest = ap (λ l. ended_job_at s m ++ l) rest
    by false is rest = rest ∙ sym (ap (λ l. l ++ ended_jobs s ms) (ended_job-none (m.to == s) m.payload is))

-- there is one job for each end of a service
pub ended_jobs-length : (s : ℕ) (ms : List Msg) → length (ended_jobs s ms) ≡ done_count s (λ j. true) ms
ended_jobs-length s [] = refl
ended_jobs-length s (m ∷ ms) =
    let rest = ended_jobs-length s ms in
    let one = ended_job-one (m.to == s) m.payload in
    let cons = filter-cons (is_done_at s (λ j. true)) m ms in
    let both = length-append (ended_job_at s m) (ended_jobs s ms) in
    omega (arith, rest, one, cons, both)

-- at most one message, inserted into an empty list
insert_all-one : (zs : List Msg) → length zs ≤ 1 → insert_all msg_cmp zs [] ≡ zs
insert_all-one [] few = refl
insert_all-one (z ∷ []) few = refl
insert_all-one (z ∷ y ∷ ys) few = absurd (omega (arith, few))

-- if new and pending messages have at most one end of a service, the new jobs follow the old
pub ended_jobs-insert_all : (o : IsOrder msg_cmp) (s : ℕ) (xs q : List Msg) → Sorted msg_cmp q
    → done_count s (λ j. true) xs + done_count s (λ j. true) q ≤ 1
    → ended_jobs s (insert_all msg_cmp xs q) ≡ ended_jobs s q ++ ended_jobs s xs
ended_jobs-insert_all o s xs q sorted few = by (cases_eq (done_count s (λ j. true) xs) 0)
  where
    whole : ended_jobs s (insert_all msg_cmp xs q)
        ≡ ended_jobs s (insert_all msg_cmp (filter (is_done_at s (λ j. true)) xs) (filter (is_done_at s (λ j. true)) q))
    whole = sym (ended_jobs-filter s (insert_all msg_cmp xs q))
        ∙ ap (ended_jobs s) (filter-insert_all o (is_done_at s (λ j. true)) xs q sorted)

    by : (done_count s (λ j. true) xs ≡ 0) ⊎ (done_count s (λ j. true) xs ≡ 0 → ⊥)
        → ended_jobs s (insert_all msg_cmp xs q) ≡ ended_jobs s q ++ ended_jobs s xs
    by (inl none) =
        let empty = nil_from_length (filter (is_done_at s (λ j. true)) xs) none in
        whole ∙ ap (λ l. ended_jobs s (insert_all msg_cmp l (filter (is_done_at s (λ j. true)) q))) empty
        ∙ ended_jobs-filter s q ∙ sym (append-nil (ended_jobs s q))
        ∙ ap (λ l. ended_jobs s q ++ l) (sym (sym (ended_jobs-filter s xs) ∙ ap (ended_jobs s) empty))
    by (inr some) =
        let none : done_count s (λ j. true) q ≡ 0 = omega (arith, few, some) in
        let empty = nil_from_length (filter (is_done_at s (λ j. true)) q) none in
        whole ∙ ap (λ l. ended_jobs s (insert_all msg_cmp (filter (is_done_at s (λ j. true)) xs) l)) empty
        ∙ ap (ended_jobs s) (insert_all-one (filter (is_done_at s (λ j. true)) xs) (omega (arith, few)))
        ∙ ended_jobs-filter s xs
        ∙ ap (λ l. l ++ ended_jobs s xs) (sym (sym (ended_jobs-filter s q) ∙ ap (ended_jobs s) empty))

-- ---- a server and its waiting line

module _ (s : ℕ) where
  -- a job sent over a link ends no service
  ended_jobs-send_over : (l : Option Link) (time : ℕ) (job : JobOf) (o : Outgoing)
      → ended_jobs s (send_over l time job o).sends ≡ ended_jobs s o.sends
  ended_jobs-send_over None time job o = refl
  ended_jobs-send_over (Some link) time job o = ended_jobs-push s o.sends (record {
    key = record { time = time + link.delay; sender = o.sender.station; number = o.sender.next };
    to = link.to;
    payload = Job job;
  }) ∙ by (link.to == s)
    where
      by : (b : Bool) → ended_jobs s o.sends ++ (if b then [] else []) ≡ ended_jobs s o.sends
      by true = append-nil (ended_jobs s o.sends)
      by false = append-nil (ended_jobs s o.sends)

  -- a start sends the end of the job's service
  ended_jobs-start : (now : ℕ) (job : JobOf) (v : ServerState) (o : Outgoing) → o.sender.station ≡ s
      → ended_jobs s (start now job v o).out.sends ≡ ended_jobs s o.sends ++ job ∷ []
  ended_jobs-start now job v o here = ended_jobs-push s o.sends (record {
    key = record { time = now + range_of v.lo v.hi o.sender.draws; sender = o.sender.station; number = o.sender.next };
    to = o.sender.station;
    payload = Done job;
  }) ∙ ap (λ b. ended_jobs s o.sends ++ (if b then job ∷ [] else [])) (eq-eqb o.sender.station s here)

  -- the first waiting job is started
  start_first-keeps : (now : ℕ) (v : ServerState) (o : Outgoing) → o.sender.station ≡ s → (ws : List JobOf)
      → v.waiting ≡ ws
      → ended_jobs s (start_at now 0 (slice_get ws 0) v o).out.sends
      ++ (start_at now 0 (slice_get ws 0) v o).state.waiting
      ≡ ended_jobs s o.sends ++ (v.waiting ++ [])
  start_first-keeps now v o here [] is = ap (λ l. ended_jobs s o.sends ++ l) (sym (append-nil v.waiting))
  start_first-keeps now v o here (x ∷ xs) is =
      ap (λ l. l ++ remove v.waiting 0) (ended_jobs-start now x (record v { waiting = remove v.waiting 0 }) o here)
      ∙ ap (λ w. (ended_jobs s o.sends ++ x ∷ []) ++ remove w 0) is
      ∙ append_assoc (ended_jobs s o.sends) (x ∷ []) xs
      ∙ ap (λ l. ended_jobs s o.sends ++ l) (sym (append-nil (x ∷ xs)) ∙ ap (λ w. w ++ []) (sym is))

  -- if a server is free, the first waiting job is started
  start_next-keeps : (net : Net) (site : Site) (now : ℕ) (v : ServerState) (o : Outgoing) → o.sender.station ≡ s
      → serves_by_class site.kind ≡ false
      → ended_jobs s (start_next net site now v o).out.sends ++ (start_next net site now v o).state.waiting
      ≡ ended_jobs s o.sends ++ (v.waiting ++ [])
  start_next-keeps net site now v o here by_arrival = by (nat_lt v.busy v.servers) (next_place net site v.waiting)
      (ap (λ b. if b then place_of_class net (least_in net v.waiting) v.waiting else 0) by_arrival)
    where
      by : (b : Bool) (place : ℕ) → place ≡ 0
          → ended_jobs s (if b then start_at now place (slice_get v.waiting place) v o else reaction v o).out.sends
          ++ (if b then start_at now place (slice_get v.waiting place) v o else reaction v o).state.waiting
          ≡ ended_jobs s o.sends ++ (v.waiting ++ [])
      by true place is = subst (λ k. ended_jobs s (start_at now k (slice_get v.waiting k) v o).out.sends
          ++ (start_at now k (slice_get v.waiting k) v o).state.waiting ≡ ended_jobs s o.sends ++ (v.waiting ++ []))
          (sym is)
          (start_first-keeps now v o here v.waiting refl)
      by false place is = ap (λ l. ended_jobs s o.sends ++ l) (sym (append-nil v.waiting))

  -- a job arrives
  server_job-keeps : (now : ℕ) (job : JobOf) (v : ServerState) (o : Outgoing) → o.sender.station ≡ s
      → (v.busy < v.servers → v.waiting ≡ [])
      → ended_jobs s (server_job now job v o).out.sends ++ (server_job now job v o).state.waiting
      ≡ ended_jobs s o.sends
      ++ (v.waiting ++ visiting_job (event_of (Job job) v.lost (server_job now job v o).state.lost))
  server_job-keeps now job v o here idle = by (nat_lt v.busy v.servers) (nat_lt (length v.waiting) v.room) refl
    where
      by : (free space : Bool) → nat_lt v.busy v.servers ≡ free
          → ended_jobs s (if free then start now job v o else if space then reaction
          (record v { waiting = v.waiting ++ job ∷ [] }) o else reaction (record v { lost = v.lost + 1 }) o).out.sends
          ++ (if free then start now job v o else if space then reaction
          (record v { waiting = v.waiting ++ job ∷ [] }) o
          else reaction (record v { lost = v.lost + 1 }) o).state.waiting
          ≡ ended_jobs s o.sends ++ (v.waiting ++ visiting_job (event_of (Job job) v.lost
          (if free then start now job v o else if space then reaction
          (record v { waiting = v.waiting ++ job ∷ [] }) o
          else reaction (record v { lost = v.lost + 1 }) o).state.lost))
      by true space free =
          let none = idle (ltb-true v.busy v.servers free) in
          ap (λ l. l ++ v.waiting) (ended_jobs-start now job v o here)
          ∙ ap (λ w. (ended_jobs s o.sends ++ job ∷ []) ++ w) none ∙ append-nil (ended_jobs s o.sends ++ job ∷ [])
          ∙ ap (λ w. ended_jobs s o.sends ++ (w ++ job ∷ [])) (sym none)
          ∙ ap (λ b. ended_jobs s o.sends ++ (v.waiting ++ visiting_job (if b then loss else visit job)))
          (sym (le-ltb v.lost v.lost (omega arith)))
      by false true full =
          ap (λ b. ended_jobs s o.sends ++ (v.waiting ++ visiting_job (if b then loss else visit job)))
          (sym (le-ltb v.lost v.lost (omega arith)))
      by false false full =
          ap (λ l. ended_jobs s o.sends ++ l) (sym (append-nil v.waiting))
          ∙ ap (λ b. ended_jobs s o.sends ++ (v.waiting ++ visiting_job (if b then loss else visit job)))
          (sym (lt-ltb v.lost (v.lost + 1) (omega arith)))

  -- any message but a change of a parameter
  pub server_on-keeps : (net : Net) (site : Site) (now : ℕ) (payload : Payload) (v : ServerState) (o : Outgoing)
      → o.sender.station ≡ s → serves_by_class site.kind ≡ false → (v.busy < v.servers → v.waiting ≡ [])
      → one_if (is_done_by (λ j. true) payload) ≤ v.busy
      → is_change (event_of payload v.lost (server_on net site now payload v o).state.lost) ≡ false
      → ended_jobs s (server_on net site now payload v o).out.sends
      ++ (server_on net site now payload v o).state.waiting
      ≡ ended_jobs s o.sends
      ++ (v.waiting ++ visiting_job (event_of payload v.lost (server_on net site now payload v o).state.lost))
  server_on-keeps net site now (Job job) v o here by_arrival idle some no_change =
      server_job-keeps now job v o here idle
  server_on-keeps net site now (Done job) v o here by_arrival idle some no_change =
      by (nat_lt 0 v.busy) (lt-ltb 0 v.busy (omega (arith, some)))
    where
      by : (b : Bool) → b ≡ true
          → ended_jobs s (if b then start_next net site now (record v { busy = v.busy - 1; done = v.done + 1 })
          (route site.links now job o) else reaction v o).out.sends
          ++ (if b then start_next net site now (record v { busy = v.busy - 1; done = v.done + 1 })
          (route site.links now job o) else reaction v o).state.waiting ≡ ended_jobs s o.sends ++ (v.waiting ++ [])
      by true is =
          let w : ServerState = record v { busy = v.busy - 1; done = v.done + 1 } in
          let out : Outgoing = route site.links now job o in
          let station : out.sender.station ≡ s =
          send_over-station s (link_by site.links (weights_of site.links) o) now job
          (after_pick (weights_of site.links) o) ∙ here in
          start_next-keeps net site now w out station by_arrival
          ∙ ap (λ l. l ++ (v.waiting ++ []))
          (ended_jobs-send_over (link_by site.links (weights_of site.links) o) now job
          (after_pick (weights_of site.links) o))
      by false is = absurd (false≢true is)
  server_on-keeps net site now (Set c) v o here by_arrival idle some no_change = absurd (false≢true (sym no_change))
  server_on-keeps net site now Tick v o here by_arrival idle some no_change =
      ap (λ l. ended_jobs s o.sends ++ l) (sym (append-nil v.waiting))

-- ---- visiting_jobs, departing_jobs

-- the visitors with one moment more
pub visiting_jobs-push : (ms : List Moment) (m : Moment)
    → visiting_jobs (ms ++ m ∷ []) ≡ visiting_jobs ms ++ visiting_job m.event
visiting_jobs-push [] m = append-nil (visiting_job m.event)
visiting_jobs-push (x ∷ xs) m =
    ap (λ l. visiting_job x.event ++ l) (visiting_jobs-push xs m)
    ∙ sym (append_assoc (visiting_job x.event) (visiting_jobs xs) (visiting_job m.event))

-- the departing jobs with one moment more
pub departing_jobs-push : (ms : List Moment) (m : Moment)
    → departing_jobs (ms ++ m ∷ []) ≡ departing_jobs ms ++ departing_job m.event
departing_jobs-push [] m = append-nil (departing_job m.event)
departing_jobs-push (x ∷ xs) m =
    ap (λ l. departing_job x.event ++ l) (departing_jobs-push xs m)
    ∙ sym (append_assoc (departing_job x.event) (departing_jobs xs) (departing_job m.event))

-- a job departs when its service ends
pub departing_job-is : (p : Payload) (before now : ℕ) → ended_job p ≡ departing_job (event_of p before now)
departing_job-is (Job j) before now = by (nat_lt before now)
  where
    by : (b : Bool) → [] ≡ departing_job (if b then loss else visit j)
    by true = refl
    by false = refl
departing_job-is (Done j) before now = refl
departing_job-is (Set c) before now = refl
departing_job-is Tick before now = refl

-- lists appended in two ways
pub append-regroup : (gone here kept new line old come : List JobOf) → new ++ line ≡ old ++ come
    → (gone ++ ((here ++ kept) ++ old)) ++ come ≡ (gone ++ here) ++ ((kept ++ new) ++ line)
append-regroup gone here kept new line old come same =
    append_assoc gone ((here ++ kept) ++ old) come
    ∙ ap (λ l. gone ++ l) (append_assoc (here ++ kept) old come ∙ append_assoc here kept (old ++ come)
    ∙ ap (λ l. here ++ (kept ++ l)) (sym same) ∙ ap (λ l. here ++ l) (sym (append_assoc kept new line)))
    ∙ sym (append_assoc gone here ((kept ++ new) ++ line))
