-- Stations send no decisions.
use Rattle.std.proofs.Common.{◌≡◌, ℕ, zero, suc, ◌+◌, ◌-◌, ◌%◌, List, [], ◌∷◌, ◌++◌, length, Bool, true, false}
use Rattle.std.proofs.Common.{nat_lt, refl}
use Rattle.std.proofs.Common.{Option, Some, None, slice_get}
use Rattle.std.specs.Prelude.{if◌then◌else◌, remove}
use Rattle.std.specs.List.{AllByRecursion}
use Rattle.sim_base.specs.declared.message.Job.{Job as JobOf}
use Rattle.sim_base.specs.declared.message.Msg.{Msg}
use Rattle.sim_base.specs.declared.message.Param.{Param}
use Rattle.sim_base.specs.declared.message.Param.TheVariants.{Every, Service, Hold, Servers, Room, Weight}
use Rattle.sim_base.specs.declared.message.Payload.{Payload}
use Rattle.sim_base.specs.declared.message.Payload.TheVariants.{Tick, Job, Done, Set}
use Rattle.sim_base.proofs.ListLaws.{all_append}
use Rattle.sim_draw.specs.Drawing.{range_of}
use Rattle.net_model.specs.Net.{Net, Site, routes_by_turn, site_of}
use Rattle.net_model.specs.declared.station.Link.{Link}
use Rattle.stations.specs.Changes.{is_accepted}
use Rattle.stations.specs.Handling.{StateView, handle, kind_on}
use Rattle.stations.specs.Opening.{first_tick, opening_kind, setup}
use Rattle.stations.specs.Sending.{Outgoing, Reaction, after_pick, draw, link_by, reaction, route, route_by, send_later}
use Rattle.stations.specs.Sending.{send_over, weights_of}
use Rattle.stations.specs.Servers.{next_place, server_change, server_done, server_job, server_on, start}
use Rattle.stations.specs.Servers.{start_at, start_next, start_times}
use Rattle.stations.specs.Sources.{next_tick}
use Rattle.stations.specs.declared.kind_state.KindState.{KindState}
use Rattle.stations.specs.declared.kind_state.KindState.TheVariants.{Source, Server, Delay, Router, Sink}
use Rattle.stations.specs.declared.kind_state.ServerState.{ServerState}
use Rattle.stations.specs.declared.kind_state.SourceState.{SourceState}
use Rattle.stations.proofs.Places.{AllByRecursion-slice_get}
use Rattle.checkpoint.specs.Due.{is_sayable_payload}

-- words can say what a message carries
abbrev pub IsSayable : Msg → Type 0
IsSayable m = is_sayable_payload m.payload ≡ true

-- words can say what each of these messages carries
abbrev pub AreSayable : List Msg → Type 0
AreSayable ms = AllByRecursion IsSayable ms

-- what holds of both values holds of the chosen one
either : {A : Type 0} (P : A → Type 0) (b : Bool) (x y : A) → P x → P y → P (if b then x else y)
either P true x y p q = p
either P false x y p q = q

-- ---- send_later, send_over, route_by

send_later-sayable : (now lo hi : ℕ) (p : Payload) (o : Outgoing) → is_sayable_payload p ≡ true → AreSayable o.sends →
    AreSayable (send_later now lo hi p o).sends
send_later-sayable now lo hi p o may all = all_append IsSayable o.sends _ all (may, tt)

send_over-sayable : (link : Option Link) (time : ℕ) (j : JobOf) (o : Outgoing) → AreSayable o.sends →
    AreSayable (send_over link time j o).sends
send_over-sayable None time j o all = all
send_over-sayable (Some link) time j o all = all_append IsSayable o.sends _ all (refl, tt)

route_by-sayable : (links : List Link) (weights : List ℕ) (time : ℕ) (j : JobOf) (o : Outgoing) → AreSayable o.sends →
    AreSayable (route_by links weights time j o).sends
route_by-sayable links weights time j o all =
    send_over-sayable (link_by links weights o) time j (after_pick weights o) all

next_tick-sayable : (now : ℕ) (s : SourceState) (o : Outgoing) → AreSayable o.sends →
    AreSayable (next_tick now s o).sends
next_tick-sayable now s o all = either (λ (b : Outgoing). AreSayable b.sends) (nat_lt s.sent s.jobs)
    (send_later now s.lo s.hi Tick o) o (send_later-sayable now s.lo s.hi Tick o refl all) all

-- ---- server_on

module _ (net : Net) (site : Site) (now : ℕ) where
  abbrev Sends : Reaction ServerState → Type 0
  Sends r = AreSayable r.out.sends

  start-sayable : (job : JobOf) (s : ServerState) (o : Outgoing) → AreSayable o.sends → Sends (start now job s o)
  start-sayable job s o all = send_later-sayable now s.lo s.hi (Done job) o refl all

  start_at-sayable : (place : ℕ) (job : Option JobOf) (s : ServerState) (o : Outgoing) → AreSayable o.sends →
      Sends (start_at now place job s o)
  start_at-sayable place None s o all = all
  start_at-sayable place (Some job) s o all =
      start-sayable job (record s { waiting = remove s.waiting place }) o all

  start_next-sayable : (s : ServerState) (o : Outgoing) → AreSayable o.sends → Sends (start_next net site now s o)
  start_next-sayable s o all =
      let place = next_place net site s.waiting in
      either Sends (nat_lt s.busy s.servers) (start_at now place (slice_get s.waiting place) s o) (reaction s o)
      (start_at-sayable place (slice_get s.waiting place) s o all) all

  start_times-sayable : (n : ℕ) (r : Reaction ServerState) → Sends r → Sends (start_times n net site now r)
  start_times-sayable zero r all = all
  start_times-sayable (suc n) r all = start_times-sayable n (start_next net site now r.state r.out)
      (start_next-sayable r.state r.out all)

  server_job-sayable : (j : JobOf) (s : ServerState) (o : Outgoing) → AreSayable o.sends → Sends (server_job now j s o)
  server_job-sayable j s o all =
      let joined : Reaction ServerState = reaction (record s { waiting = s.waiting ++ j ∷ [] }) o in
      let gone : Reaction ServerState = reaction (record s { lost = s.lost + 1 }) o in
      either Sends (nat_lt s.busy s.servers) (start now j s o)
      (if nat_lt (length s.waiting) s.room then joined else gone) (start-sayable j s o all)
      (either Sends (nat_lt (length s.waiting) s.room) joined gone all all)

  server_done-sayable : (j : JobOf) (s : ServerState) (o : Outgoing) → AreSayable o.sends →
      Sends (server_done net site now j s o)
  server_done-sayable j s o all =
      let freed : ServerState = record s { busy = s.busy - 1; done = s.done + 1 } in
      let routed : Outgoing = route site.links now j o in
      either Sends (nat_lt 0 s.busy) (start_next net site now freed routed) (reaction s o)
      (start_next-sayable freed routed (route_by-sayable site.links (weights_of site.links) now j o all)) all

  server_change-sayable : (p : Param) (a b : ℕ) (s : ServerState) (o : Outgoing) → AreSayable o.sends →
      Sends (server_change net site now p a b s o)
  server_change-sayable Service a b s o all = all
  server_change-sayable Room a b s o all = all
  server_change-sayable Servers a b s o all =
      start_times-sayable (a - s.busy) (reaction (record s { servers = a }) o) all
  server_change-sayable Every a b s o all = all
  server_change-sayable Hold a b s o all = all
  server_change-sayable Weight a b s o all = all

  server_on-sayable : (p : Payload) (s : ServerState) (o : Outgoing) → AreSayable o.sends →
      Sends (server_on net site now p s o)
  server_on-sayable (Job j) s o all = server_job-sayable j s o all
  server_on-sayable (Done j) s o all = server_done-sayable j s o all
  server_on-sayable (Set c) s o all = either Sends (is_accepted site c) (server_change net site now c.param c.a c.b s o)
      (reaction s o) (server_change-sayable c.param c.a c.b s o all) all
  server_on-sayable Tick s o all = all

  -- ---- kind_on

  kind_on-sayable : (p : Payload) (k : KindState) (o : Outgoing) → AreSayable o.sends →
      AreSayable (kind_on net site now p k o).out.sends
  kind_on-sayable Tick (Source s) o all =
      let job : JobOf = record { source = o.sender.station; count = s.sent; born = now } in
      next_tick-sayable now (record s { sent = s.sent + 1 }) (route site.links now job o)
      (route_by-sayable site.links (weights_of site.links) now job o all)
  kind_on-sayable (Job j) (Source s) o all = all
  kind_on-sayable (Done j) (Source s) o all = all
  kind_on-sayable (Set c) (Source s) o all = all
  kind_on-sayable p (Server s) o all = server_on-sayable p s o all
  kind_on-sayable (Job j) (Delay s) o all =
      let weights = weights_of site.links in
      let picked : Outgoing = after_pick weights o in
      send_over-sayable (link_by site.links weights o) (now + range_of s.lo s.hi picked.sender.draws) j (draw picked)
      all
  kind_on-sayable Tick (Delay s) o all = all
  kind_on-sayable (Done j) (Delay s) o all = all
  kind_on-sayable (Set c) (Delay s) o all = all
  kind_on-sayable (Job j) (Router s) o all =
      let next = slice_get site.links (s.passed % length site.links) in
      either (λ (b : Outgoing). AreSayable b.sends) (routes_by_turn site.kind) (send_over next now j o)
      (route_by site.links s.weights.items now j o) (send_over-sayable next now j o all)
      (route_by-sayable site.links s.weights.items now j o all)
  kind_on-sayable Tick (Router s) o all = all
  kind_on-sayable (Done j) (Router s) o all = all
  kind_on-sayable (Set c) (Router s) o all = all
  kind_on-sayable p (Sink s) o all = all

module _ (net : Net) where
  -- a station sends no decisions, so words can say what it sends
  pub handle-sayable : (st : StateView) (m : Msg) → AreSayable (handle net st m).sends
  unfolding handle
  handle-sayable st m = kind_on-sayable net (site_of net st.sender.station) m.key.time m.payload st.kind
      (record { sender = st.sender; sends = [] }) tt

  -- ---- setup

  first_tick-sayable : (k : KindState) (o : Outgoing) → AreSayable o.sends → AreSayable (first_tick k o).sends
  first_tick-sayable (Source s) o all = next_tick-sayable 0 s o all
  first_tick-sayable (Server s) o all = all
  first_tick-sayable (Delay s) o all = all
  first_tick-sayable (Router s) o all = all
  first_tick-sayable (Sink s) o all = all

  -- and what it opens with
  pub setup-sayable : (s : ℕ) (m : Msg) → (setup net s).first ≡ Some m → IsSayable m
  setup-sayable s m is = AllByRecursion-slice_get IsSayable _ 0 m
      (first_tick-sayable (opening_kind (site_of net s) (site_of net s).kind) _ tt) is
