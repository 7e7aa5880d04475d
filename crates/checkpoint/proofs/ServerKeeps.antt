-- The invariant of a server in a run: sources of the network may have made its waiting jobs, and each service that
-- begins has a completion.
use Rattle.std.proofs.Common.{◌≡◌, ℕ, zero, suc, ◌+◌, ◌-◌, ◌≤◌, List, [], ◌∷◌, ◌++◌, length, Bool, true, false}
use Rattle.std.proofs.Common.{nat_lt}
use Rattle.std.proofs.Common.{if◌then◌else◌, refl, sym, Option, Some, None, slice_get, arith, ltb-true, take, drop}
use Rattle.std.specs.Prelude.{remove}
use Rattle.std.specs.List.{AllByRecursion}
use Rattle.sim_base.proofs.ListLaws.{all_append}
use Rattle.sim_base.specs.declared.message.Job.{Job as JobOf}
use Rattle.sim_base.specs.declared.message.Change.{Change}
use Rattle.sim_base.specs.declared.message.Param.{Param}
use Rattle.sim_base.specs.declared.message.Param.TheVariants.{Every, Service, Hold, Servers, Room, Weight}
use Rattle.sim_base.specs.declared.message.Payload.{Payload}
use Rattle.sim_base.specs.declared.message.Payload.TheVariants.{Tick, Job, Done, Set}
use Rattle.net_model.specs.Net.{Net, Site}
use Rattle.net_model.specs.Rules.{IsLink, IsRange}
use Rattle.stations.specs.declared.kind_state.ServerState.{ServerState}
use Rattle.stations.specs.Changes.{is_accepted}
use Rattle.stations.specs.Sending.{Outgoing, Reaction, reaction, weights_of, route}
use Rattle.stations.specs.Servers.{next_place, start, start_at, start_next, start_times}
use Rattle.stations.specs.Servers.{server_job, server_done, server_change, server_set, server_on}
use Rattle.stations.proofs.Places.{AllByRecursion-slice_get}
use Rattle.stations.specs.Fitting.{is_job_of}
use Rattle.checkpoint.specs.RunKeeps.{CarriesJobOf, completions_in}
use Rattle.checkpoint.proofs.Adding.{Adds, adds-none, adds-trans, adds-as, adds-later, adds-route}

-- ---- AllByRecursion

-- a property of all elements holds of the first i of them
all_take : {X : Type 0} (P : X → Type 0) (xs : List X) (i : ℕ) → AllByRecursion P xs → AllByRecursion P (take i xs)
all_take P xs zero all = tt
all_take P [] (suc i) all = tt
all_take P (x ∷ xs) (suc i) all = (all.0, all_take P xs i all.1)

-- it holds of the elements after those
all_drop : {X : Type 0} (P : X → Type 0) (xs : List X) (i : ℕ) → AllByRecursion P xs → AllByRecursion P (drop i xs)
all_drop P xs zero all = all
all_drop P [] (suc i) all = tt
all_drop P (x ∷ xs) (suc i) all = all_drop P xs i all.1

-- and of the elements that are left when one is removed
all_remove : {X : Type 0} (P : X → Type 0) (xs : List X) (i : ℕ) → AllByRecursion P xs → AllByRecursion P (remove xs i)
all_remove P xs i all = all_append P (take i xs) (drop (suc i) xs) (all_take P xs i all) (all_drop P xs (suc i) all)

module _ (net : Net) (site : Site) (now : ℕ) (links : AllByRecursion (IsLink net) site.links) where
  -- sources of the network may have made every job in the waiting line
  abbrev LineIsOfNet : ServerState → Type 0
  LineIsOfNet s = AllByRecursion (λ j. is_job_of net j ≡ true) s.waiting

  -- the server took `count` jobs into service, and sent a completion for each
  record Starts (s : ServerState) (a : Outgoing) (r : Reaction ServerState) : Type 0 where
    pub count : ℕ
    pub adds : Adds net now 0 count a r.out
    pub busy : r.state.busy ≡ s.busy + count
    pub line : LineIsOfNet r.state
    pub range : IsRange 1 r.state.lo r.state.hi

  -- ---- start, start_at, start_next, start_times

  -- no job is taken into service
  starts-none : (s : ServerState) (a : Outgoing) → LineIsOfNet s → IsRange 1 s.lo s.hi → Starts s a (reaction s a)
  starts-none s a line range =
      record { count = 0; adds = adds-none net now a; busy = omega arith; line = line; range = range }

  -- one job is taken into service
  starts-one : (j : JobOf) (s : ServerState) (a : Outgoing) → LineIsOfNet s → IsRange 1 s.lo s.hi →
      is_job_of net j ≡ true → Starts s a (start now j s a)
  starts-one j s a line range own = record {
    count = 1;
    adds = adds-later net now a s.lo s.hi (Done j) range own;
    busy = refl;
    line = line;
    range = range;
  }

  -- the job at a place of the waiting line is taken, if there is one
  start_at-starts : (place : ℕ) (job : Option JobOf) (s : ServerState) (a : Outgoing) → LineIsOfNet s →
      IsRange 1 s.lo s.hi → job ≡ slice_get s.waiting place → Starts s a (start_at now place job s a)
  start_at-starts place None s a line range is = starts-none s a line range
  start_at-starts place (Some j) s a line range is =
      let own = AllByRecursion-slice_get (λ (x : JobOf). is_job_of net x ≡ true) s.waiting place j line (sym is) in
      let rest = all_remove (λ (x : JobOf). is_job_of net x ≡ true) s.waiting place line in
      let one = starts-one j (record s { waiting = remove s.waiting place }) a rest range own in
      record { count = one.count; adds = one.adds; busy = one.busy; line = one.line; range = one.range }

  -- the next job of the line is taken, if a server is free
  start_next-starts : (s : ServerState) (a : Outgoing) → LineIsOfNet s → IsRange 1 s.lo s.hi →
      Starts s a (start_next net site now s a)
  start_next-starts s a line range = by (nat_lt s.busy s.servers)
    where
      place : ℕ
      place = next_place net site s.waiting

      by : (b : Bool) → Starts s a (if b then start_at now (next_place net site s.waiting)
          (slice_get s.waiting (next_place net site s.waiting)) s a else reaction s a)
      by true =
          start_at-starts (next_place net site s.waiting) (slice_get s.waiting (next_place net site s.waiting)) s a
          line range refl
      by false = starts-none s a line range

  -- up to n jobs are taken, one after another
  start_times-starts : (n : ℕ) (s : ServerState) (a : Outgoing) (r : Reaction ServerState) → Starts s a r →
      Starts s a (start_times n net site now r)
  start_times-starts zero s a r h = h
  start_times-starts (suc n) s a r h =
      let one = start_next-starts r.state r.out h.line h.range in
      let next = start_next net site now r.state r.out in
      let before = h.busy in
      let now_busy = one.busy in
      start_times-starts n s a next (record {
        count = h.count + one.count;
        adds = adds-trans net now 0 h.count 0 one.count a r.out next.out h.adds one.adds;
        busy = omega (arith, before, now_busy);
        line = one.line;
        range = one.range;
      })

  -- ---- server_on

  -- the effect of a message on a server. It sends no tick, and a completion for each job that it takes into service. A
  -- completion that it handles ends a service
  pub record ServerReacts (p : Payload) (s : ServerState) (a : Outgoing) (r : Reaction ServerState) : Type 0 where
    pub completions : ℕ
    pub adds : Adds net now 0 completions a r.out
    pub busy : completions + s.busy ≤ r.state.busy + completions_in p
    pub line : LineIsOfNet r.state

  -- jobs taken into service are such a reaction
  starts-reacts : (p : Payload) (s : ServerState) (a : Outgoing) (r : Reaction ServerState) → Starts s a r →
      ServerReacts p s a r
  starts-reacts p s a r h = let b = h.busy in
      record { completions = h.count; adds = h.adds; busy = omega (arith, b); line = h.line }

  -- a job comes
  server_job-reacts : (j : JobOf) (s : ServerState) (a : Outgoing) → LineIsOfNet s → IsRange 1 s.lo s.hi →
      is_job_of net j ≡ true → ServerReacts (Job j) s a (server_job now j s a)
  server_job-reacts j s a line range own = by (nat_lt s.busy s.servers) (nat_lt (length s.waiting) s.room)
    where
      by : (free space : Bool) → ServerReacts (Job j) s a (if free then start now j s a else if space then reaction
          (record s { waiting = s.waiting ++ j ∷ [] }) a else reaction (record s { lost = s.lost + 1 }) a)
      by true space = starts-reacts (Job j) s a (start now j s a) (starts-one j s a line range own)
      by false true = record {
        completions = 0;
        adds = adds-none net now a;
        busy = omega arith;
        line = all_append (λ (x : JobOf). is_job_of net x ≡ true) s.waiting (j ∷ []) line (own, tt);
      }
      by false false = record { completions = 0; adds = adds-none net now a; busy = omega arith; line = line }

  -- a service ends
  server_done-reacts : (j : JobOf) (s : ServerState) (a : Outgoing) → LineIsOfNet s → IsRange 1 s.lo s.hi →
      is_job_of net j ≡ true → ServerReacts (Done j) s a (server_done net site now j s a)
  server_done-reacts j s a line range own = by (nat_lt 0 s.busy) refl
    where
      by : (some : Bool) → nat_lt 0 s.busy ≡ some → ServerReacts (Done j) s a
          (if some then start_next net site now (record s { busy = s.busy - 1; done = s.done + 1 })
          (route site.links now j a) else reaction s a)
      by true some =
          let one = ltb-true 0 s.busy some in
          let less : ServerState = record s { busy = s.busy - 1; done = s.done + 1 } in
          let routed = route site.links now j a in
          let h = start_next-starts less routed line range in
          let r = start_next net site now less routed in
          let b = h.busy in
          record {
            completions = h.count;
            adds = adds-as net now (0 + 0) (0 + h.count) 0 h.count a r.out
                (adds-trans net now 0 0 0 h.count a routed r.out
                (adds-route net now site.links links (weights_of site.links) j a own) h.adds) refl (omega arith);
            busy = omega (arith, b, one);
            line = h.line;
          }
      by false none = record { completions = 0; adds = adds-none net now a; busy = omega arith; line = line }

  -- a parameter changes
  server_change-reacts : (p : Param) (c : Change) (s : ServerState) (a : Outgoing) → LineIsOfNet s →
      IsRange 1 s.lo s.hi → ServerReacts (Set c) s a (server_change net site now p c.a c.b s a)
  server_change-reacts Servers c s a line range =
      let begin : Reaction ServerState = reaction (record s { servers = c.a }) a in
      let h = start_times-starts (c.a - s.busy) (record s { servers = c.a }) a begin
      (starts-none (record s { servers = c.a }) a line range) in
      let b = h.busy in
      record { completions = h.count; adds = h.adds; busy = omega (arith, b); line = h.line }
  server_change-reacts Service c s a line range =
      record { completions = 0; adds = adds-none net now a; busy = omega arith; line = line }
  server_change-reacts Room c s a line range =
      record { completions = 0; adds = adds-none net now a; busy = omega arith; line = line }
  server_change-reacts Every c s a line range =
      record { completions = 0; adds = adds-none net now a; busy = omega arith; line = line }
  server_change-reacts Hold c s a line range =
      record { completions = 0; adds = adds-none net now a; busy = omega arith; line = line }
  server_change-reacts Weight c s a line range =
      record { completions = 0; adds = adds-none net now a; busy = omega arith; line = line }

  -- a decision comes
  server_set-reacts : (c : Change) (s : ServerState) (a : Outgoing) → LineIsOfNet s → IsRange 1 s.lo s.hi →
      ServerReacts (Set c) s a (server_set net site now c s a)
  server_set-reacts c s a line range = by (is_accepted site c)
    where
      by : (t : Bool) → ServerReacts (Set c) s a
          (if t then server_change net site now c.param c.a c.b s a else reaction s a)
      by true = server_change-reacts c.param c s a line range
      by false = record { completions = 0; adds = adds-none net now a; busy = omega arith; line = line }

  -- every message
  pub server_on-reacts : (p : Payload) (s : ServerState) (a : Outgoing) → LineIsOfNet s → IsRange 1 s.lo s.hi →
      CarriesJobOf net p → ServerReacts p s a (server_on net site now p s a)
  server_on-reacts (Job j) s a line range own = server_job-reacts j s a line range own
  server_on-reacts (Done j) s a line range own = server_done-reacts j s a line range own
  server_on-reacts (Set c) s a line range own = server_set-reacts c s a line range
  server_on-reacts Tick s a line range own =
      record { completions = 0; adds = adds-none net now a; busy = omega arith; line = line }
