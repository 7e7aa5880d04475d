-- The jobs that a server moves as it handles a message. Each job that leaves the waiting line goes into service, and
-- the server sends itself the end of that service.
use Rattle.std.proofs.Common.{◌≡◌, ℕ, zero, suc, ◌+◌, ◌-◌, ◌<◌, ◌≤◌, List, [], ◌∷◌, ◌++◌, Bool, true, false}
use Rattle.std.proofs.Common.{if◌then◌else◌, nat_lt, ◌&&◌, ◌==◌, length, refl, sym, ap, ◌∙◌, subst, arith, Option, Some}
use Rattle.std.proofs.Common.{None, slice_get, ltb-true, eq-eqb}
use Rattle.std.specs.Prelude.{remove}
use Rattle.std.specs.List.{filter}
use Rattle.std.proofs.lemmas.Bool.{and_right, lt-ltb, le-ltb, false≢true}
use Rattle.sim_base.specs.declared.message.Job.{Job as JobOf}
use Rattle.sim_base.specs.declared.message.Msg.{Msg}
use Rattle.sim_base.specs.declared.message.Param.{Param}
use Rattle.sim_base.specs.declared.message.Param.TheVariants.{Every, Service, Hold, Servers, Room, Weight}
use Rattle.sim_base.specs.declared.message.Payload.{Payload}
use Rattle.sim_base.specs.declared.message.Payload.TheVariants.{Tick, Job, Done, Set}
use Rattle.sim_draw.specs.Drawing.{range_of}
use Rattle.net_model.specs.Net.{Net, Site}
use Rattle.net_model.specs.declared.station.Link.{Link}
use Rattle.stations.specs.declared.kind_state.ServerState.{ServerState}
use Rattle.stations.specs.Changes.{is_accepted}
use Rattle.stations.specs.Sending.{Outgoing, Reaction, reaction, send_over, after_pick, link_by, route, weights_of}
use Rattle.stations.specs.Servers.{next_place, start, start_at, start_next, start_times, server_job, server_done}
use Rattle.stations.specs.Servers.{server_change, server_on}
use Rattle.queue_stats.specs.Moments.{Event, visit, loss, departure, change, event_of, is_visit_by, is_departure_by}
use Rattle.queue_stats.specs.Moments.{is_change}
use Rattle.queue_stats.specs.Figures.{one_if}
use Rattle.queue_stats.proofs.Lists.{filter-push, filter-remove}

-- ---- the ends of services among messages

-- whether a message ends the service of a job that passes a test
abbrev pub is_done_by : (JobOf → Bool) → Payload → Bool
is_done_by p (Done job) = p job
is_done_by p _ = false

-- whether it does so at station s
abbrev pub is_done_at : ℕ → (JobOf → Bool) → Msg → Bool
is_done_at s p m = m.to == s && is_done_by p m.payload

-- the number of such messages
abbrev pub done_count : ℕ → (JobOf → Bool) → List Msg → ℕ
done_count s p ms = length (filter (is_done_at s p) ms)

-- the number of waiting jobs that pass a test
abbrev pub waiting_count : (JobOf → Bool) → ServerState → ℕ
waiting_count p v = length (filter p v.waiting)

-- a job that arrives ends no service
job-no_done : (s to : ℕ) → one_if (to == s && false) ≡ 0
job-no_done s to = ap one_if (and_right (to == s) false refl)

-- at its own station the test is that of the job
done_here : (s to : ℕ) (b : Bool) → to ≡ s → (to == s && b) ≡ b
done_here s to b is = ap (λ t. t && b) (eq-eqb to s is)

module _ (s : ℕ) where
  -- ---- route

  -- a job sent over a link ends no service
  pub done_count-send_over : (p : JobOf → Bool) (l : Option Link) (time : ℕ) (job : JobOf) (o : Outgoing)
      → done_count s p (send_over l time job o).sends ≡ done_count s p o.sends
  done_count-send_over p None time job o = refl
  done_count-send_over p (Some link) time job o =
      let push = filter-push (is_done_at s p) o.sends (record {
        key = record { time = time + link.delay; sender = o.sender.station; number = o.sender.next };
        to = link.to;
        payload = Job job;
      }) in
      let none = job-no_done s link.to in
      omega (arith, push, none)

  -- the sender keeps its station
  pub send_over-station : (l : Option Link) (time : ℕ) (job : JobOf) (o : Outgoing)
      → (send_over l time job o).sender.station ≡ o.sender.station
  send_over-station None time job o = refl
  send_over-station (Some link) time job o = refl

  -- ---- StartsWaiting

  -- a server has started some waiting jobs, and has sent itself the end of each service
  record StartsWaiting (v : ServerState) (o : Outgoing) (r : Reaction ServerState) : Type 0 where
    pub jobs : (p : JobOf → Bool)
        → waiting_count p r.state + done_count s p r.out.sends ≡ waiting_count p v + done_count s p o.sends
    pub busy : r.state.busy + done_count s (λ j. true) o.sends ≡ v.busy + done_count s (λ j. true) r.out.sends
    pub station : r.out.sender.station ≡ o.sender.station
    pub lost : r.state.lost ≡ v.lost
    pub servers : r.state.servers ≡ v.servers
    pub at_most : v.busy ≤ v.servers → r.state.busy ≤ v.servers

  -- no job is started
  starts_waiting-none : (v : ServerState) (o : Outgoing) → StartsWaiting v o (reaction v o)
  starts_waiting-none v o = record {
    jobs = λ p. refl;
    busy = refl;
    station = refl;
    lost = refl;
    servers = refl;
    at_most = λ l. l;
  }

  -- jobs are started twice, one time after the other
  starts_waiting-trans : (v : ServerState) (o : Outgoing) (r q : Reaction ServerState) → StartsWaiting v o r
      → StartsWaiting r.state r.out q → StartsWaiting v o q
  starts_waiting-trans v o r q a b = record {
    jobs = λ p. let i = a.jobs p in let j = b.jobs p in omega (arith, i, j);
    busy = let i = a.busy in let j = b.busy in omega (arith, i, j);
    station = b.station ∙ a.station;
    lost = b.lost ∙ a.lost;
    servers = b.servers ∙ a.servers;
    at_most = λ l. subst (λ n. q.state.busy ≤ n) a.servers
        (b.at_most (subst (λ n. r.state.busy ≤ n) (sym a.servers) (a.at_most l)));
  }

  -- a start sends the end of the job's service
  done_count-start : (p : JobOf → Bool) (now : ℕ) (job : JobOf) (v : ServerState) (o : Outgoing) → o.sender.station ≡ s
      → done_count s p (start now job v o).out.sends ≡ done_count s p o.sends + one_if (p job)
  done_count-start p now job v o here =
      let m : Msg = record {
        key = record {
          time = now + range_of v.lo v.hi o.sender.draws;
          sender = o.sender.station;
          number = o.sender.next;
        };
        to = o.sender.station;
        payload = Done job;
      } in
      filter-push (is_done_at s p) o.sends m
      ∙ ap (λ b. done_count s p o.sends + one_if b) (done_here s o.sender.station (p job) here)

  -- the job at a place of the waiting line is started
  start_at-moves : (now place : ℕ) (found : Option JobOf) (v : ServerState) (o : Outgoing) → o.sender.station ≡ s
      → v.busy < v.servers → slice_get v.waiting place ≡ found → StartsWaiting v o (start_at now place found v o)
  start_at-moves now place None v o here free is = starts_waiting-none v o
  start_at-moves now place (Some job) v o here free is = record {
    jobs = λ p.
        let less = filter-remove p v.waiting place job is in
        let more = done_count-start p now job (record v { waiting = remove v.waiting place }) o here in
        omega (arith, less, more);
    busy = let more = done_count-start (λ j. true) now job (record v { waiting = remove v.waiting place }) o here in
        omega (arith, more);
    station = refl;
    lost = refl;
    servers = refl;
    at_most = λ l. omega (arith, free);
  }

  -- if a server is free, the next waiting job is started
  start_next-moves : (net : Net) (site : Site) (now : ℕ) (v : ServerState) (o : Outgoing) → o.sender.station ≡ s
      → StartsWaiting v o (start_next net site now v o)
  start_next-moves net site now v o here = by (nat_lt v.busy v.servers) refl
    where
      by : (b : Bool) → nat_lt v.busy v.servers ≡ b
          → StartsWaiting v o (if b then start_at now (next_place net site v.waiting)
          (slice_get v.waiting (next_place net site v.waiting)) v o else reaction v o)
      by true free = start_at-moves now (next_place net site v.waiting)
          (slice_get v.waiting (next_place net site v.waiting)) v o here (ltb-true v.busy v.servers free) refl
      by false full = starts_waiting-none v o

  -- the next waiting job is started n times
  start_times-moves : (n : ℕ) (net : Net) (site : Site) (now : ℕ) (v : ServerState) (o : Outgoing)
      → o.sender.station ≡ s
      → StartsWaiting v o (start_times n net site now (reaction v o))
  start_times-moves zero net site now v o here = starts_waiting-none v o
  start_times-moves (suc n) net site now v o here =
      let one = start_next-moves net site now v o here in
      let r = start_next net site now v o in
      starts_waiting-trans v o r (start_times n net site now r) one
      (start_times-moves n net site now r.state r.out (one.station ∙ here))

  -- ---- MovesJobs

  -- the effect of an event on a server: a visitor waits or is started, and a departure frees a server
  pub record MovesJobs (e : Event) (v : ServerState) (o : Outgoing) (r : Reaction ServerState) : Type 0 where
    pub jobs : (p : JobOf → Bool) → waiting_count p r.state + done_count s p r.out.sends
        ≡ waiting_count p v + done_count s p o.sends + one_if (is_visit_by p e)
    pub busy : r.state.busy + one_if (is_departure_by (λ j. true) e) + done_count s (λ j. true) o.sends
        ≡ v.busy + done_count s (λ j. true) r.out.sends
    pub unchanged : is_change e ≡ false
        → (r.state.servers ≡ v.servers) × (v.busy ≤ v.servers → r.state.busy ≤ v.servers)

  -- a job arrives
  server_job-moves : (now : ℕ) (job : JobOf) (v : ServerState) (o : Outgoing) → o.sender.station ≡ s
      → MovesJobs (event_of (Job job) v.lost (server_job now job v o).state.lost) v o (server_job now job v o)
  server_job-moves now job v o here = by (nat_lt v.busy v.servers) (nat_lt (length v.waiting) v.room) refl
    where
      -- if the count of lost jobs stays the same, the job is a visitor
      stays : (r : Reaction ServerState) → r.state.lost ≡ v.lost → MovesJobs (visit job) v o r
          → MovesJobs (event_of (Job job) v.lost r.state.lost) v o r
      stays r same does = subst (λ b. MovesJobs (if b then loss else visit job) v o r)
          (sym (le-ltb v.lost r.state.lost (omega (arith, same)))) does

      by : (free space : Bool) → nat_lt v.busy v.servers ≡ free
          → MovesJobs (event_of (Job job) v.lost
          (if free then start now job v o else if space then reaction
          (record v { waiting = v.waiting ++ job ∷ [] }) o else reaction (record v { lost = v.lost + 1 }) o).state.lost)
          v o
          (if free then start now job v o else if space then reaction
          (record v { waiting = v.waiting ++ job ∷ [] }) o else reaction (record v { lost = v.lost + 1 }) o)
      by true space free = stays (start now job v o) refl (record {
        jobs = λ p. let more = done_count-start p now job v o here in omega (arith, more);
        busy = let more = done_count-start (λ j. true) now job v o here in omega (arith, more);
        unchanged = λ no_change. (refl, λ l. let b = ltb-true v.busy v.servers free in omega (arith, b));
      })
      by false true full = stays (reaction (record v { waiting = v.waiting ++ job ∷ [] }) o) refl (record {
        jobs = λ p. let more = filter-push p v.waiting job in omega (arith, more);
        busy = omega arith;
        unchanged = λ no_change. (refl, λ l. l);
      })
      by false false full =
          subst (λ b. MovesJobs (if b then loss else visit job) v o (reaction (record v { lost = v.lost + 1 }) o))
          (sym (lt-ltb v.lost (v.lost + 1) (omega arith))) (record {
            jobs = λ p. omega arith;
            busy = omega arith;
            unchanged = λ no_change. (refl, λ l. l);
          })

  -- a service ends
  server_done-moves : (net : Net) (site : Site) (now : ℕ) (job : JobOf) (v : ServerState) (o : Outgoing)
      → o.sender.station ≡ s → 0 < v.busy → MovesJobs (departure job) v o (server_done net site now job v o)
  server_done-moves net site now job v o here some = by (nat_lt 0 v.busy) (lt-ltb 0 v.busy some)
    where
      by : (b : Bool) → b ≡ true
          → MovesJobs (departure job) v o
          (if b then start_next net site now (record v { busy = v.busy - 1; done = v.done + 1 })
          (route site.links now job o) else reaction v o)
      by true is =
          let w : ServerState = record v { busy = v.busy - 1; done = v.done + 1 } in
          let out : Outgoing = route site.links now job o in
          let sent : (p : JobOf → Bool) → done_count s p out.sends ≡ done_count s p o.sends =
          λ p. done_count-send_over p (link_by site.links (weights_of site.links) o) now job
          (after_pick (weights_of site.links) o) in
          let station : out.sender.station ≡ s =
          send_over-station (link_by site.links (weights_of site.links) o) now job
          (after_pick (weights_of site.links) o) ∙ here in
          let moves = start_next-moves net site now w out station in
          record {
            jobs = λ p. let a = moves.jobs p in let b = sent p in omega (arith, a, b);
            busy = let a = moves.busy in let b = sent (λ j. true) in omega (arith, a, b, some);
            unchanged = λ no_change. (moves.servers, λ l. moves.at_most (omega (arith, l)));
          }
      by false is = absurd (false≢true is)

  -- a change that moves no job
  change-moves_none : (v w : ServerState) (o : Outgoing) → w.waiting ≡ v.waiting → w.busy ≡ v.busy
      → MovesJobs change v o (reaction w o)
  change-moves_none v w o line busy = record {
    jobs = λ p. let same = ap (λ l. length (filter p l)) line in omega (arith, same);
    busy = omega (arith, busy);
    unchanged = λ no_change. absurd (false≢true (sym no_change));
  }

  -- a parameter changes
  server_change-moves : (net : Net) (site : Site) (now : ℕ) (param : Param) (a b : ℕ) (v : ServerState) (o : Outgoing)
      → o.sender.station ≡ s → MovesJobs change v o (server_change net site now param a b v o)
  server_change-moves net site now Servers a b v o here =
      let moves = start_times-moves (a - v.busy) net site now (record v { servers = a }) o here in
      record {
        jobs = λ p. let h = moves.jobs p in omega (arith, h);
        busy = let h = moves.busy in omega (arith, h);
        unchanged = λ no_change. absurd (false≢true (sym no_change));
      }
  server_change-moves net site now Service a b v o here =
      change-moves_none v (record v { lo = a; hi = b }) o refl refl
  server_change-moves net site now Room a b v o here = change-moves_none v (record v { room = a }) o refl refl
  server_change-moves net site now Every a b v o here = change-moves_none v v o refl refl
  server_change-moves net site now Hold a b v o here = change-moves_none v v o refl refl
  server_change-moves net site now Weight a b v o here = change-moves_none v v o refl refl

  -- any message, if each service that ends has begun
  pub server_on-moves : (net : Net) (site : Site) (now : ℕ) (payload : Payload) (v : ServerState) (o : Outgoing)
      → o.sender.station ≡ s → (one_if (is_done_by (λ j. true) payload) ≤ v.busy)
      → MovesJobs (event_of payload v.lost (server_on net site now payload v o).state.lost) v o
      (server_on net site now payload v o)
  server_on-moves net site now (Job job) v o here some = server_job-moves now job v o here
  server_on-moves net site now (Done job) v o here some =
      server_done-moves net site now job v o here (omega (arith, some))
  server_on-moves net site now (Set c) v o here some = by (is_accepted site c)
    where
      by : (b : Bool)
          → MovesJobs change v o (if b then server_change net site now c.param c.a c.b v o else reaction v o)
      by true = server_change-moves net site now c.param c.a c.b v o here
      by false = change-moves_none v v o refl refl
  server_on-moves net site now Tick v o here some =
      record { jobs = λ p. omega arith; busy = omega arith; unchanged = λ no_change. (refl, λ l. l) }
