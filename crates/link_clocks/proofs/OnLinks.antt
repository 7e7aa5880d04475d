-- A station of a network sends to itself, or over one of its links, which takes that link's delay.
use Rattle.std.proofs.Common.{◌≡◌, ℕ, zero, suc, ◌+◌, ◌-◌, ◌≤◌, ◌==◌, ◌%◌, List, [], ◌∷◌, ◌++◌, ◌⊎◌, inl, inr, cond}
use Rattle.std.proofs.Common.{Bool, true, false}
use Rattle.std.proofs.Common.{refl, sym, subst, arith, length, slice_get, Option, Some, None, nat_lt}
use Rattle.std.specs.List.{AllByRecursion, filter}
use Rattle.sim_base.specs.declared.message.Msg.{Msg}
use Rattle.sim_base.specs.declared.message.Job.{Job as JobOf}
use Rattle.sim_base.specs.declared.message.Param.{Param}
use Rattle.sim_base.specs.declared.message.Param.TheVariants as param
use Rattle.sim_base.specs.declared.message.Payload.{Payload}
use Rattle.sim_base.specs.declared.message.Payload.TheVariants.{Tick, Job, Done, Set}
use Rattle.sim_base.proofs.ListLaws.{all_push}
use Rattle.run_laws.specs.Queue.{In}
use Rattle.sim_draw.specs.Drawing.{range_of, pick_of}
use Rattle.net_model.specs.declared.station.Link.{Link}
use Rattle.net_model.specs.Net.{Net, Site, site_of, routes_by_turn}
use Rattle.stations.specs.declared.kind_state.KindState.{KindState}
use Rattle.stations.specs.declared.kind_state.KindState.TheVariants.{Source, Server, Delay, Router, Sink}
use Rattle.stations.specs.declared.kind_state.SourceState.{SourceState}
use Rattle.stations.specs.declared.kind_state.ServerState.{ServerState}
use Rattle.stations.specs.declared.kind_state.DelayState.{DelayState}
use Rattle.stations.specs.declared.kind_state.RouterState.{RouterState}
use Rattle.stations.specs.Sending.{Outgoing, draw, send_later, send_over, after_pick, link_by, route_by, route}
use Rattle.stations.specs.Sending.{weights_of, Reaction, reaction}
use Rattle.stations.specs.Changes.{is_accepted}
use Rattle.stations.specs.Sources.{source_on}
use Rattle.stations.specs.Servers.{start, start_at, start_next, start_times, next_place}
use Rattle.stations.specs.Servers.{server_change, server_on}
use Rattle.stations.specs.Delays.{delay_on}
use Rattle.stations.specs.Routers.{router_on}
use Rattle.stations.specs.Good.{IsGood}
use Rattle.stations.specs.Runs.{simulation}
use Rattle.net_model.specs.Rules.{IsNet, IsLink}
use Rattle.net_model.specs.Net.{HasStation}
use Rattle.run_laws.proofs.Queue.{all_in}
use Rattle.run_laws.proofs.Lists.{in_filter, filter_keeps}
use Rattle.run_laws.proofs.Counts.{in_map, map_has}
use Rattle.std.proofs.Common.{eq-eqb}
use Rattle.link_laws.specs.Clocks.{KeepsToLinks}
use Rattle.link_clocks.specs.NetClocks.{delays_to, delays_of}
use Rattle.stations.proofs.Lawful.{site_cases, site_valid, number_in, site_is}
use Rattle.stations.specs.Handling.{StateView, kind_on, handle}

-- a property of both results of a test
of_both : {X : Type 0} (P : X → Type 0) (b : Bool) (x y : X) → P x → P y → P (cond b x y)
of_both P true x y h k = h
of_both P false x y h k = k

-- an element at a place is in the list
slice_get_in : {X : Type 0} (xs : List X) (i : ℕ) (x : X) → slice_get xs i ≡ Some x → In x xs
slice_get_in [] i x e = absurd (cc)
slice_get_in (y ∷ ys) zero x e = let h : y ≡ x = cc in inl (sym h)
slice_get_in (y ∷ ys) (suc i) x e = inr (slice_get_in ys i x e)

module _ (site : Site) (now s : ℕ) where
  -- a message is to the station itself, or over one of the links, and arrives after its delay or later
  abbrev pub IsLinked : Msg → Type 0
  IsLinked m = (m.to ≡ s) ⊎ ((l : Link) × In l site.links × (l.to ≡ m.to) × (now + l.delay ≤ m.key.time))

  -- the sender is the station, and all messages that it has sent are linked
  pub record OnLinks (o : Outgoing) : Type 0 where
    pub station : o.sender.station ≡ s
    pub all : AllByRecursion IsLinked o.sends

  -- a message to the station itself
  linked_later : (lo hi : ℕ) (p : Payload) (o : Outgoing) → OnLinks o → OnLinks (send_later now lo hi p o)
  linked_later lo hi p o h = record {
    station = h.station;
    all = all_push IsLinked o.sends (record {
      key = record { time = now + range_of lo hi o.sender.draws; sender = o.sender.station; number = o.sender.next };
      to = o.sender.station;
      payload = p;
    }) h.all (inl h.station);
  }

  -- a job over a link
  linked_over : (link : Option Link) (time : ℕ) (job : JobOf) (o : Outgoing) →
      ((l : Link) → link ≡ Some l → In l site.links) → now ≤ time → OnLinks o → OnLinks (send_over link time job o)
  linked_over None time job o f late h = h
  linked_over (Some l) time job o f late h = record {
    station = h.station;
    all = all_push IsLinked o.sends (record {
      key = record { time = time + l.delay; sender = o.sender.station; number = o.sender.next };
      to = l.to;
      payload = Job job;
    }) h.all (inr (l, f l refl, refl, (let t : now + l.delay ≤ time + l.delay = omega (arith, late) in t)));
  }

  -- a pick sends nothing
  linked_pick : (weights : List ℕ) (o : Outgoing) → OnLinks o → OnLinks (after_pick weights o)
  linked_pick weights o h = record { station = h.station; all = h.all }

  -- a job over one of the links
  linked_route_by : (weights : List ℕ) (job : JobOf) (o : Outgoing) → OnLinks o →
      OnLinks (route_by site.links weights now job o)
  linked_route_by weights job o h = linked_over (link_by site.links weights o) now job (after_pick weights o)
      (λ l e. slice_get_in site.links (pick_of weights o.sender.draws) l e) (omega arith) (linked_pick weights o h)

  -- ---- sources
  linked_source : (p : Payload) (st : SourceState) (o : Outgoing) → OnLinks o → OnLinks (source_on site now p st o).out
  linked_source Tick st o h =
      let job : JobOf = record { source = o.sender.station; count = st.sent; born = now } in
      let out : Outgoing = route site.links now job o in
      let on : OnLinks out = linked_route_by (weights_of site.links) job o h in
      of_both OnLinks (nat_lt (st.sent + 1) st.jobs) (send_later now st.lo st.hi Tick out) out
      (linked_later st.lo st.hi Tick out on) on
  linked_source (Set c) st o h = h
  linked_source (Job j) st o h = h
  linked_source (Done j) st o h = h

  -- ---- delays and routers
  linked_delay : (p : Payload) (st : DelayState) (o : Outgoing) → OnLinks o → OnLinks (delay_on site now p st o).out
  linked_delay (Job j) st o h =
      let weights : List ℕ = weights_of site.links in
      let routed : Outgoing = after_pick weights o in
      linked_over (link_by site.links weights o) (now + range_of st.lo st.hi routed.sender.draws) j (draw routed)
      (λ l e. slice_get_in site.links (pick_of weights o.sender.draws) l e) (omega arith) (record {
        station =
            h.station;
        all = h.all;
      })
  linked_delay (Set c) st o h = h
  linked_delay Tick st o h = h
  linked_delay (Done j) st o h = h

  linked_router : (p : Payload) (st : RouterState) (o : Outgoing) → OnLinks o → OnLinks (router_on site now p st o).out
  linked_router (Job j) st o h =
      of_both OnLinks (routes_by_turn site.kind)
      (send_over (slice_get site.links (st.passed % length site.links)) now j o)
      (route_by site.links st.weights.items now j o)
      (linked_over (slice_get site.links (st.passed % length site.links)) now j o
      (λ l e. slice_get_in site.links (st.passed % length site.links) l e) (omega arith) h)
      (linked_route_by st.weights.items j o h)
  linked_router (Set c) st o h = h
  linked_router Tick st o h = h
  linked_router (Done j) st o h = h

  -- ---- servers
  abbrev Holds : Reaction ServerState → Type 0
  Holds r = OnLinks r.out

  linked_start_at : (place : ℕ) (job : Option JobOf) (st : ServerState) (o : Outgoing) → OnLinks o →
      Holds (start_at now place job st o)
  linked_start_at place None st o h = h
  linked_start_at place (Some job) st o h = linked_later st.lo st.hi (Done job) o h

  module _ (net : Net) where
    linked_start_next : (st : ServerState) (o : Outgoing) → OnLinks o → Holds (start_next net site now st o)
    linked_start_next st o h =
        let place : ℕ = next_place net site st.waiting in
        of_both Holds (nat_lt st.busy st.servers) (start_at now place (slice_get st.waiting place) st o) (reaction st o)
        (linked_start_at place (slice_get st.waiting place) st o h) h

    linked_start_times : (n : ℕ) (r : Reaction ServerState) → Holds r → Holds (start_times n net site now r)
    linked_start_times zero r h = h
    linked_start_times (suc n) r h = linked_start_times n (start_next net site now r.state r.out)
        (linked_start_next r.state r.out h)

    linked_change : (p : Param) (a b : ℕ) (st : ServerState) (o : Outgoing) → OnLinks o →
        Holds (server_change net site now p a b st o)
    linked_change param.Servers a b st o h =
        linked_start_times (a - st.busy) (reaction (record st { servers = a }) o) h
    linked_change p a b st o h = h

    linked_server : (p : Payload) (st : ServerState) (o : Outgoing) → OnLinks o → Holds (server_on net site now p st o)
    linked_server (Job j) st o h =
        of_both Holds (nat_lt st.busy st.servers) (start now j st o)
        (cond (nat_lt (length st.waiting) st.room) (reaction (record st { waiting = st.waiting ++ j ∷ [] }) o)
        (reaction (record st { lost = st.lost + 1 }) o))
        (linked_later st.lo st.hi (Done j) o h)
        (of_both Holds (nat_lt (length st.waiting) st.room) (reaction (record st { waiting = st.waiting ++ j ∷ [] }) o)
        (reaction (record st { lost = st.lost + 1 }) o) h h)
    linked_server (Done j) st o h =
        of_both Holds (nat_lt 0 st.busy)
        (start_next net site now (record st { busy = st.busy - 1; done = st.done + 1 }) (route site.links now j o))
        (reaction st o)
        (linked_start_next (record st { busy = st.busy - 1; done = st.done + 1 }) (route site.links now j o)
        (linked_route_by (weights_of site.links) j o h)) h
    linked_server (Set c) st o h =
        of_both Holds (is_accepted site c) (server_change net site now c.param c.a c.b st o) (reaction st o)
        (linked_change c.param c.a c.b st o h) h
    linked_server Tick st o h = h

    -- ---- all kinds
    linked_kind : (p : Payload) (st : KindState) (o : Outgoing) → OnLinks o → OnLinks (kind_on net site now p st o).out
    linked_kind p (Source st) o h = linked_source p st o h
    linked_kind p (Server st) o h = linked_server p st o h
    linked_kind p (Delay st) o h = linked_delay p st o h
    linked_kind p (Router st) o h = linked_router p st o h
    linked_kind p (Sink st) o h = h

-- what a station sends
pub handle_linked : (net : Net) (st : StateView) (m : Msg) →
    AllByRecursion (IsLinked (site_of net st.sender.station) m.key.time st.sender.station) (handle net st m).sends
unfolding handle
handle_linked net st m =
    (linked_kind (site_of net st.sender.station) m.key.time st.sender.station net m.payload st.kind
    (record { sender = st.sender; sends = [] }) (record { station = refl; all = tt })).all

-- ---- KeepsToLinks

-- the delay of a link to a station is one of the delays there
delay_in : (links : List Link) (l : Link) (s : ℕ) → In l links → l.to ≡ s → In l.delay (delays_to links s)
delay_in links l s i e = map_has (λ (l : Link). l.delay) (filter (λ (l : Link). l.to == s) links) l
    (filter_keeps (λ (l : Link). l.to == s) links l i (eq-eqb l.to s e))

-- and each of these is the delay of a link
in_delays : (links : List Link) (s d : ℕ) → In d (delays_to links s) → (l : Link) × In l links × (d ≡ l.delay)
in_delays links s d i =
    let h = in_map (λ (l : Link). l.delay) (filter (λ (l : Link). l.to == s) links) d i in
    (h.0, (in_filter (λ (l : Link). l.to == s) links h.0 h.1).0, h.2)

-- a delay is that of a link of a station
pub record IsDelayOf (net : Net) (x d : ℕ) : Type 0 where
  pub station : HasStation net x
  pub link : Link
  pub rules : IsLink net link
  pub is : d ≡ link.delay

delay_of : (net : Net) (x s d : ℕ) → IsNet net → In d (delays_of net x s) → IsDelayOf net x d
delay_of net x s d valid i =
    let h = in_delays (site_of net x).links s d i in
    elim (site_cases net x) [
      | inl found ↦
          let site : Site = found.0 in
          let is : site_of net x ≡ site = site_is net x found.0 found.1 in
          record {
            station = number_in net x found.0 found.1;
            link = h.0;
            rules = all_in (IsLink net) site.links h.0 (site_valid net x found.0 valid found.1).links
                (subst (λ (u : Site). In h.0 u.links) is h.1);
            is = h.2;
          }
      | inr none ↦ absurd (subst (λ (u : Site). In h.0 u.links) none h.1)
    ]

-- the stations of a network keep to its links
pub net_keeps_to_links : (net : Net) → IsNet net → KeepsToLinks (simulation net) (IsGood net) (delays_of net)
net_keeps_to_links net valid = record {
  far = λ s st m z good i other.
      let station : st.sender.station ≡ s = good.station in
      let all : AllByRecursion (IsLinked (site_of net s) m.key.time s) (handle net st m).sends =
      subst (λ x. AllByRecursion (IsLinked (site_of net x) m.key.time x) (handle net st m).sends) station
      (handle_linked net st m) in
      elim (all_in (IsLinked (site_of net s) m.key.time s) (handle net st m).sends z all i) [
        | inl own ↦ absurd (other own)
        | inr over ↦ (over.0.delay, delay_in (site_of net s).links over.0 z.to over.1 over.2, over.3)
      ];
  lookahead_min = λ s r d i. let h = delay_of net s r d valid i in let l = h.rules.slow in let e = h.is in omega
      (arith, l, e);
  from = λ s r d i. let h = delay_of net s r d valid i in let low = h.station.low in
      (omega (arith, low), h.station.high);
}
