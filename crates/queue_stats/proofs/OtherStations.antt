-- Only a station itself sends the ends of its services.
use Rattle.std.proofs.Common.{◌≡◌, ℕ, zero, suc, ◌+◌, ◌-◌, List, [], ◌∷◌, ◌++◌, Bool, true, false, if◌then◌else◌}
use Rattle.std.proofs.Common.{nat_lt, ◌&&◌, ◌==◌, length, refl, sym, ap, ◌∙◌, subst, arith, Option, Some, None}
use Rattle.std.proofs.Common.{slice_get, ◌%◌}
use Rattle.std.proofs.lemmas.Bool.{and_left, and_right, ne_eqb}
use Rattle.std.proofs.lemmas.Option.{same_Some}
use Rattle.sim_base.specs.declared.message.Job.{Job as JobOf}
use Rattle.sim_base.specs.declared.message.Msg.{Msg}
use Rattle.sim_base.specs.declared.message.Param.{Param}
use Rattle.sim_base.specs.declared.message.Param.TheVariants.{Every, Service, Hold, Servers, Room, Weight}
use Rattle.sim_base.specs.declared.message.Payload.{Payload}
use Rattle.sim_base.specs.declared.message.Payload.TheVariants.{Tick, Job, Done, Set}
use Rattle.sim_draw.specs.Drawing.{range_of}
use Rattle.net_model.specs.Net.{Net, Site, site_of, routes_by_turn}
use Rattle.net_model.specs.declared.station.Link.{Link}
use Rattle.stations.specs.declared.kind_state.KindState.{KindState}
use Rattle.stations.specs.declared.kind_state.KindState.TheVariants as state
use Rattle.stations.specs.declared.kind_state.SourceState.{SourceState}
use Rattle.stations.specs.declared.kind_state.ServerState.{ServerState}
use Rattle.stations.specs.declared.sender.Sender.{Sender}
use Rattle.stations.specs.Changes.{is_accepted}
use Rattle.stations.specs.Sending.{Outgoing, outgoing, reaction, send_later, draw, send_over, after_pick, link_by}
use Rattle.stations.specs.Sending.{route, weights_of}
use Rattle.stations.specs.Sources.{next_tick, source_on}
use Rattle.stations.specs.Servers.{next_place, start, start_at, start_next, start_times, server_change, server_on}
use Rattle.stations.specs.Opening.{first_tick, opening_kind, setup}
use Rattle.stations.specs.Handling.{StateView, kind_on, handle}
use Rattle.queue_stats.specs.Figures.{one_if}
use Rattle.queue_stats.proofs.Lists.{filter-push}
use Rattle.queue_stats.proofs.ServerMoves.{is_done_by, is_done_at, done_count, done_count-send_over, send_over-station}

module _ (s : ℕ) (p : JobOf → Bool) where
  -- no end of a service at s is sent, and the sender keeps its station
  record SendsNoDone (a b : Outgoing) : Type 0 where
    pub none : done_count s p b.sends ≡ done_count s p a.sends
    pub station : b.sender.station ≡ a.sender.station

  -- nothing is sent
  no_done-none : (a : Outgoing) → SendsNoDone a a
  no_done-none a = record { none = refl; station = refl }

  -- two steps in a row
  no_done-trans : (a b c : Outgoing) → SendsNoDone a b → SendsNoDone b c → SendsNoDone a c
  no_done-trans a b c i j = record { none = j.none ∙ i.none; station = j.station ∙ i.station }

  -- a job goes over a link
  no_done-over : (l : Option Link) (time : ℕ) (job : JobOf) (o : Outgoing) → SendsNoDone o (send_over l time job o)
  no_done-over l time job o =
      record { none = done_count-send_over s p l time job o; station = send_over-station s l time job o }

  -- a job goes over a link that is drawn by weight
  no_done-route : (links : List Link) (weights : List ℕ) (time : ℕ) (job : JobOf) (o : Outgoing)
      → SendsNoDone o (send_over (link_by links weights o) time job (after_pick weights o))
  no_done-route links weights time job o =
      let h = no_done-over (link_by links weights o) time job (after_pick weights o) in
      record { none = h.none; station = h.station }

  -- a message to the sender's own station that ends no service at s
  no_done-later : (now lo hi : ℕ) (payload : Payload) (o : Outgoing)
      → (o.sender.station == s && is_done_by p payload) ≡ false → SendsNoDone o (send_later now lo hi payload o)
  no_done-later now lo hi payload o apart =
      let m : Msg = record {
        key = record { time = now + range_of lo hi o.sender.draws; sender = o.sender.station; number = o.sender.next };
        to = o.sender.station;
        payload = payload;
      } in
      record {
        none = (let push = filter-push (is_done_at s p) o.sends m in
            let zero_more = ap one_if apart in omega (arith, push, zero_more));
        station = refl;
      }

  -- ---- sources

  -- the next tick
  no_done-next_tick : (now : ℕ) (v : SourceState) (o : Outgoing) → SendsNoDone o (next_tick now v o)
  no_done-next_tick now v o = by (nat_lt v.sent v.jobs)
    where
      by : (b : Bool) → SendsNoDone o (if b then send_later now v.lo v.hi Tick o else o)
      by true = no_done-later now v.lo v.hi Tick o (and_right (o.sender.station == s) false refl)
      by false = no_done-none o

  -- a source at any message
  no_done-source : (site : Site) (now : ℕ) (payload : Payload) (v : SourceState) (o : Outgoing)
      → SendsNoDone o (source_on site now payload v o).out
  no_done-source site now Tick v o =
      let job : JobOf = record { source = o.sender.station; count = v.sent; born = now } in
      let routed : Outgoing = route site.links now job o in
      no_done-trans o routed (next_tick now (record v { sent = v.sent + 1 }) routed)
      (no_done-route site.links (weights_of site.links) now job o)
      (no_done-next_tick now (record v { sent = v.sent + 1 }) routed)
  no_done-source site now (Set c) v o = no_done-none o
  no_done-source site now (Job j) v o = no_done-none o
  no_done-source site now (Done j) v o = no_done-none o

  -- ---- servers that are other stations

  -- a start at another server
  no_done-start_at : (now place : ℕ) (found : Option JobOf) (v : ServerState) (o : Outgoing)
      → (o.sender.station ≡ s → ⊥)
      → SendsNoDone o (start_at now place found v o).out
  no_done-start_at now place None v o away = no_done-none o
  no_done-start_at now place (Some job) v o away =
      no_done-later now v.lo v.hi (Done job) o
      (and_left (o.sender.station == s) (p job) (ne_eqb o.sender.station s away))

  -- the start of the next waiting job
  no_done-start_next : (net : Net) (site : Site) (now : ℕ) (v : ServerState) (o : Outgoing) → (o.sender.station ≡ s → ⊥)
      → SendsNoDone o (start_next net site now v o).out
  no_done-start_next net site now v o away = by (nat_lt v.busy v.servers)
    where
      by : (b : Bool) → SendsNoDone o (if b then start_at now (next_place net site v.waiting)
          (slice_get v.waiting (next_place net site v.waiting)) v o else reaction v o).out
      by true = no_done-start_at now (next_place net site v.waiting)
          (slice_get v.waiting (next_place net site v.waiting)) v o away
      by false = no_done-none o

  -- several starts
  no_done-start_times : (n : ℕ) (net : Net) (site : Site) (now : ℕ) (v : ServerState) (o : Outgoing)
      → (o.sender.station ≡ s → ⊥)
      → SendsNoDone o (start_times n net site now (reaction v o)).out
  no_done-start_times zero net site now v o away = no_done-none o
  no_done-start_times (suc n) net site now v o away =
      let r = start_next net site now v o in
      let one = no_done-start_next net site now v o away in
      no_done-trans o r.out (start_times n net site now r).out one
      (no_done-start_times n net site now r.state r.out (λ e. away (sym one.station ∙ e)))

  -- a change of a parameter
  no_done-change : (net : Net) (site : Site) (now : ℕ) (param : Param) (a b : ℕ) (v : ServerState) (o : Outgoing)
      → (o.sender.station ≡ s → ⊥) → SendsNoDone o (server_change net site now param a b v o).out
  no_done-change net site now Servers a b v o away =
      no_done-start_times (a - v.busy) net site now (record v { servers = a }) o away
  no_done-change net site now Service a b v o away = no_done-none o
  no_done-change net site now Room a b v o away = no_done-none o
  no_done-change net site now Every a b v o away = no_done-none o
  no_done-change net site now Hold a b v o away = no_done-none o
  no_done-change net site now Weight a b v o away = no_done-none o

  -- a server at any message
  no_done-server : (net : Net) (site : Site) (now : ℕ) (payload : Payload) (v : ServerState) (o : Outgoing)
      → (o.sender.station ≡ s → ⊥) → SendsNoDone o (server_on net site now payload v o).out
  no_done-server net site now (Job job) v o away = by (nat_lt v.busy v.servers) (nat_lt (length v.waiting) v.room)
    where
      by : (free space : Bool) → SendsNoDone o (if free then start now job v o else if space then reaction
          (record v { waiting = v.waiting ++ job ∷ [] }) o else reaction (record v { lost = v.lost + 1 }) o).out
      by true space = no_done-later now v.lo v.hi (Done job) o
          (and_left (o.sender.station == s) (p job) (ne_eqb o.sender.station s away))
      by false true = no_done-none o
      by false false = no_done-none o
  no_done-server net site now (Done job) v o away = by (nat_lt 0 v.busy)
    where
      by : (b : Bool)
          → SendsNoDone o (if b then start_next net site now (record v { busy = v.busy - 1; done = v.done + 1 })
          (route site.links now job o) else reaction v o).out
      by true =
          let routed : Outgoing = route site.links now job o in
          let one = no_done-route site.links (weights_of site.links) now job o in
          let w : ServerState = record v { busy = v.busy - 1; done = v.done + 1 } in
          no_done-trans o routed (start_next net site now w routed).out one
          (no_done-start_next net site now w routed (λ e. away (sym one.station ∙ e)))
      by false = no_done-none o
  no_done-server net site now (Set c) v o away = by (is_accepted site c)
    where
      by : (b : Bool) → SendsNoDone o (if b then server_change net site now c.param c.a c.b v o else reaction v o).out
      by true = no_done-change net site now c.param c.a c.b v o away
      by false = no_done-none o
  no_done-server net site now Tick v o away = no_done-none o

  -- ---- all kinds

  -- another station of any kind, at any message
  no_done-kind : (net : Net) (site : Site) (now : ℕ) (payload : Payload) (k : KindState) (o : Outgoing)
      → (o.sender.station ≡ s → ⊥) → SendsNoDone o (kind_on net site now payload k o).out
  no_done-kind net site now payload (state.Source v) o away = no_done-source site now payload v o
  no_done-kind net site now payload (state.Server v) o away = no_done-server net site now payload v o away
  no_done-kind net site now (Job j) (state.Delay v) o away =
      let weights : List ℕ = weights_of site.links in
      let routed : Outgoing = after_pick weights o in
      let h = no_done-over (link_by site.links weights o) (now + range_of v.lo v.hi routed.sender.draws) j
      (draw routed) in
      record { none = h.none; station = h.station }
  no_done-kind net site now (Set c) (state.Delay v) o away = no_done-none o
  no_done-kind net site now (Done j) (state.Delay v) o away = no_done-none o
  no_done-kind net site now Tick (state.Delay v) o away = no_done-none o
  no_done-kind net site now (Job j) (state.Router v) o away = by (routes_by_turn site.kind)
    where
      by : (b : Bool) → SendsNoDone o (if b then send_over (slice_get site.links (v.passed % length site.links)) now j o
          else send_over (link_by site.links v.weights.items o) now j (after_pick v.weights.items o))
      by true = no_done-over (slice_get site.links (v.passed % length site.links)) now j o
      by false = no_done-route site.links v.weights.items now j o
  no_done-kind net site now (Set c) (state.Router v) o away = no_done-none o
  no_done-kind net site now (Done j) (state.Router v) o away = no_done-none o
  no_done-kind net site now Tick (state.Router v) o away = no_done-none o
  no_done-kind net site now payload (state.Sink v) o away = no_done-none o

  -- a station other than s sends no end of a service at s
  pub no_done-others : (net : Net) (st : StateView) (m : Msg) → (st.sender.station ≡ s → ⊥)
      → done_count s p (handle net st m).sends ≡ 0
  unfolding handle
  no_done-others net st m away =
      (no_done-kind net (site_of net st.sender.station) m.key.time m.payload st.kind
      (record { sender = st.sender; sends = [] }) away).none

  -- the first tick of a station ends no service
  no_done-first_tick : (k : KindState) (sender : Sender) (m : Msg)
      → slice_get (first_tick k (outgoing sender [])).sends 0 ≡ Some m
      → is_done_at s p m ≡ false
  no_done-first_tick (state.Source v) sender m is = by (nat_lt v.sent v.jobs) is
    where
      by : (b : Bool)
          → slice_get (if b then send_later 0 v.lo v.hi Tick (outgoing sender []) else outgoing sender []).sends 0
          ≡ Some m
          → is_done_at s p m ≡ false
      by true same = subst (λ z. is_done_at s p z ≡ false) (same_Some _ m same)
          (and_right (sender.station == s) false refl)
      by false none = absurd (cc)
  no_done-first_tick (state.Server v) sender m is = absurd (cc)
  no_done-first_tick (state.Delay v) sender m is = absurd (cc)
  no_done-first_tick (state.Router v) sender m is = absurd (cc)
  no_done-first_tick (state.Sink v) sender m is = absurd (cc)

  -- the first message of a station ends no service
  pub no_done-setup : (net : Net) (r : ℕ) (m : Msg) → (setup net r).first ≡ Some m → is_done_at s p m ≡ false
  no_done-setup net r m is = no_done-first_tick (opening_kind (site_of net r) (site_of net r).kind)
      (record { station = r; next = 0; draws = record { seed = net.seed; stream = (site_of net r).stream; count = 0 } })
      m is
