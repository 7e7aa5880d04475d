-- What quick handling rests on.
use Rattle.std.proofs.Common.{◌≡◌, ℕ, ◌+◌, ◌<◌, ◌≤◌, [], ◌∷◌, ◌++◌, length, refl, sym, ap, ◌∙◌, subst}
use Rattle.std.proofs.Common.{Bool, true, false, nat_lt, if◌then◌else◌, Option, Some, None, slice_get, arith}
use Rattle.std.proofs.Common.{lt-ltb, ◌-◌}
use Rattle.std.specs.List.{AllByRecursion}
use Rattle.sim_base.proofs.ListLaws.{all_push, all_weaker}
use Rattle.sim_base.specs.declared.message.Msg.{Msg}
use Rattle.sim_base.specs.declared.message.Job.{Job as JobOf}
use Rattle.msg_heap.specs.Contents.{as_payload}
use Rattle.msg_heap.specs.Jobs.{FitsJob}
use Rattle.msg_heap.specs.Lines.{FitsLine}
use Rattle.msg_heap.specs.declared.line.TheConstants.{STAY_SUMS}
use Rattle.msg_heap.specs.declared.content.Content.{Content}
use Rattle.msg_heap.specs.declared.content.Content.TheVariants as content
use Rattle.net_model.specs.declared.station.Kind.{Kind}
use Rattle.net_model.specs.declared.station.Kind.TheVariants as kind
use Rattle.net_model.specs.declared.limits.TheConstants.{MAX_LIMIT, MAX_STATIONS, MAX_HORIZON}
use Rattle.net_model.specs.Net.{Net, Site, site_at}
use Rattle.net_model.specs.Rules.{IsNet, IsSite, IsLink, HasWayOut}
use Rattle.stations.specs.declared.quick_sends.QuickSends.{QuickSends}
use Rattle.stations.specs.declared.kind_state.KindState.{KindState}
use Rattle.stations.specs.declared.kind_state.KindState.TheVariants.{Source, Server, Delay, Router, Sink}
use Rattle.stations.specs.declared.kind_state.ServerState.{ServerState}
use Rattle.stations.specs.Fits.{IsOfKind, FitsKind, FitsState, SuitsNet}
use Rattle.stations.specs.Handling.{StateView, handle, kind_on, line_of}
use Rattle.stations.specs.Sends.{AreSends}
use Rattle.run_laws.specs.Simulation.{Outcome}
use Rattle.sim_base.specs.declared.entry.Line.{Line}
use Rattle.stations.specs.declared.sender.Sender.{Sender}
use Rattle.stations.specs.Quick.{as_list, sends_of, AreShortLinks, HasShortLinks, HasShortJobs, IsShort, IsQuick, stay_of}
use Rattle.stations.specs.Sending.{Outgoing, Reaction, reaction, outgoing, route}
use Rattle.stations.specs.Servers.{start, start_at, start_next, next_place, server_job, server_done}
use Rattle.stations.proofs.Places.{all_remove}
use Rattle.stations.proofs.Lawful.{are_links, site_is, site_valid, handle-is, handles-fitting}

-- ---- server_job

-- if a server is free, the service of a job starts
pub server_job-free : (now : ℕ) (job : JobOf) (s : ServerState) (o : Outgoing) (servers : ℕ) → servers ≡ s.servers
    → s.busy < servers → server_job now job s o ≡ start now job s o
server_job-free now job s o servers is free =
    ap (λ b. if b then start now job s o
    else if nat_lt (length s.waiting) s.room then reaction (record s { waiting = s.waiting ++ job ∷ [] }) o
    else reaction (record s { lost = s.lost + 1 }) o)
    (lt-ltb s.busy s.servers (subst (λ n. s.busy < n) is free))

-- ---- sends_of

-- at most two messages are sent
pub sends_of-two : (sends : QuickSends) → length (sends_of sends) ≤ 2
sends_of-two sends = by sends.link sends.own
  where
    by : (a b : Option Msg) → length (as_list a ++ as_list b) ≤ 2
    by None None = omega arith
    by None (Some m) = omega arith
    by (Some m) None = omega arith
    by (Some m) (Some n) = omega arith

-- ---- stay_of

-- a message adds at most its time to the stays
pub stay_of-next : (net : Net) (site : Site) (now : ℕ) (c : Content) (k : KindState) (o : Outgoing)
    → stay_of (kind_on net site now (as_payload c) k o).state ≤ stay_of k + now
stay_of-next net site now c (Source s) o = omega arith
stay_of-next net site now c (Server s) o = omega arith
stay_of-next net site now c (Delay s) o = omega arith
stay_of-next net site now c (Router s) o = omega arith
stay_of-next net site now content.Tick (Sink s) o = omega arith
stay_of-next net site now (content.Job j) (Sink s) o = omega arith
stay_of-next net site now (content.Done j) (Sink s) o = omega arith

-- ---- line_of

-- the counts of a state that fits have a packed line, if its stays are small
pub line_fits : (handled : ℕ) (k : KindState) → FitsKind handled k → handled ≤ MAX_LIMIT
    → stay_of k < STAY_SUMS → FitsLine (line_of k)
line_fits handled (Source s) f h small = omega (arith, f.sent, h)
line_fits handled (Server s) f h small = record {
  busy = omega (arith, f.busy);
  wait = omega (arith, f.length_max);
  done = omega (arith, f.done, h);
  lost = omega (arith, f.lost, h);
}
line_fits handled (Delay s) f h small = omega (arith, f.passed, h)
line_fits handled (Router s) f h small = omega (arith, f.passed, h)
line_fits handled (Sink s) f h small = record { got = omega (arith, f.got, h); stay = small }

-- ---- HasShortLinks

-- the links of a station of a network have small numbers
pub short_links : (net : Net) (site : Site) → IsNet net → IsSite net site → 1 ≤ length site.links
    → AreShortLinks site.links
short_links net site valid lawful some = record {
  are = are_links net site lawful some;
  to_min = all_weaker (IsLink net) (λ l. 1 ≤ l.to) site.links (λ l is. is.is_station.low) lawful.links;
  to_max = all_weaker (IsLink net) (λ l. l.to ≤ MAX_STATIONS) site.links
      (λ l is. (let high = is.is_station.high in let most = valid.at_most in omega arith)) lawful.links;
}

-- a station of any kind that sends has such links
pub has_short_links : (net : Net) (site : Site) (k : Kind) (s : KindState) → IsNet net → IsSite net site
    → HasWayOut k site.links → IsOfKind site k s → HasShortLinks s site.links
has_short_links net site (kind.Source lo hi jobs class) (Source s) valid lawful way of = short_links net site valid lawful way
has_short_links net site (kind.Server servers room lo hi by_class) (Server s) valid lawful way of = short_links net site valid lawful way
has_short_links net site (kind.Delay lo hi) (Delay s) valid lawful way of = short_links net site valid lawful way
has_short_links net site (kind.Router turn) (Router s) valid lawful way of = short_links net site valid lawful way
has_short_links net site k (Sink s) valid lawful way of = tt
has_short_links net site (kind.Source lo hi jobs class) (Server s) valid lawful way of = absurd of
has_short_links net site (kind.Source lo hi jobs class) (Delay s) valid lawful way of = absurd of
has_short_links net site (kind.Source lo hi jobs class) (Router s) valid lawful way of = absurd of
has_short_links net site (kind.Server servers room lo hi by_class) (Source s) valid lawful way of = absurd of
has_short_links net site (kind.Server servers room lo hi by_class) (Delay s) valid lawful way of = absurd of
has_short_links net site (kind.Server servers room lo hi by_class) (Router s) valid lawful way of = absurd of
has_short_links net site (kind.Delay lo hi) (Source s) valid lawful way of = absurd of
has_short_links net site (kind.Delay lo hi) (Server s) valid lawful way of = absurd of
has_short_links net site (kind.Delay lo hi) (Router s) valid lawful way of = absurd of
has_short_links net site (kind.Router turn) (Source s) valid lawful way of = absurd of
has_short_links net site (kind.Router turn) (Server s) valid lawful way of = absurd of
has_short_links net site (kind.Router turn) (Delay s) valid lawful way of = absurd of
has_short_links net site kind.Sink (Source s) valid lawful way of = absurd of
has_short_links net site kind.Sink (Server s) valid lawful way of = absurd of
has_short_links net site kind.Sink (Delay s) valid lawful way of = absurd of
has_short_links net site kind.Sink (Router s) valid lawful way of = absurd of

-- ---- HasShortJobs

-- a waiting job leaves the line
start_at-short : (now place : ℕ) (job : Option JobOf) (s : ServerState) (o : Outgoing) → AllByRecursion FitsJob s.waiting
    → AllByRecursion FitsJob (start_at now place job s o).state.waiting
start_at-short now place None s o all = all
start_at-short now place (Some job) s o all = all_remove FitsJob s.waiting place all

-- or none does
start_next-short : (net : Net) (site : Site) (now : ℕ) (s : ServerState) (o : Outgoing) → AllByRecursion FitsJob s.waiting
    → AllByRecursion FitsJob (start_next net site now s o).state.waiting
start_next-short net site now s o all = by (nat_lt s.busy s.servers)
  where
    -- by whether a server is free
    by : (b : Bool) → AllByRecursion FitsJob
        (if b then start_at now (next_place net site s.waiting) (slice_get s.waiting (next_place net site s.waiting))
        s o else reaction s o).state.waiting
    by true = start_at-short now (next_place net site s.waiting) (slice_get s.waiting (next_place net site s.waiting)) s o all
    by false = all

-- a job joins the line, or it does not
server_job-short : (now : ℕ) (job : JobOf) (s : ServerState) (o : Outgoing) → AllByRecursion FitsJob s.waiting
    → FitsJob job → AllByRecursion FitsJob (server_job now job s o).state.waiting
server_job-short now job s o all fits = by (nat_lt s.busy s.servers) (nat_lt (length s.waiting) s.room)
  where
    -- by whether a server or a place is free
    by : (a b : Bool) → AllByRecursion FitsJob (if a then start now job s o
        else if b then reaction (record s { waiting = s.waiting ++ job ∷ [] }) o
        else reaction (record s { lost = s.lost + 1 }) o).state.waiting
    by true b = all
    by false true = all_push FitsJob s.waiting job all fits
    by false false = all

-- the end of a service takes at most one job from the line
server_done-short : (net : Net) (site : Site) (now : ℕ) (job : JobOf) (s : ServerState) (o : Outgoing)
    → AllByRecursion FitsJob s.waiting → AllByRecursion FitsJob (server_done net site now job s o).state.waiting
server_done-short net site now job s o all = by (nat_lt 0 s.busy)
  where
    -- by whether a server was busy
    by : (b : Bool) → AllByRecursion FitsJob (if b
        then start_next net site now (record s { busy = s.busy - 1; done = s.done + 1 }) (route site.links now job o)
        else reaction s o).state.waiting
    by true = start_next-short net site now (record s { busy = s.busy - 1; done = s.done + 1 }) (route site.links now job o) all
    by false = all

-- waiting jobs stay small if those that arrive are
pub short_jobs-next : (net : Net) (site : Site) (now : ℕ) (c : Content) (k : KindState) (o : Outgoing)
    → IsShort c → HasShortJobs k → HasShortJobs (kind_on net site now (as_payload c) k o).state
short_jobs-next net site now c (Source s) o short all = tt
short_jobs-next net site now c (Delay s) o short all = tt
short_jobs-next net site now c (Router s) o short all = tt
short_jobs-next net site now c (Sink s) o short all = tt
short_jobs-next net site now content.Tick (Server s) o short all = all
short_jobs-next net site now (content.Job j) (Server s) o short all = server_job-short now j s o all short
short_jobs-next net site now (content.Done j) (Server s) o short all = server_done-short net site now j s o all

-- ---- handle

-- the links of a station whose state suits the network
pub links_of-suits : (net : Net) (st : StateView) (site : Site) → IsNet net → SuitsNet net st
    → site_at net st.sender.station ≡ Some site → HasShortLinks st.kind site.links
links_of-suits net st site valid suits there =
    let same : suits.site ≡ site = sym (site_is net st.sender.station suits.site suits.is_there)
    ∙ site_is net st.sender.station site there in
    let lawful = site_valid net st.sender.station site valid there in
    has_short_links net site site.kind st.kind valid lawful lawful.way
    (subst (λ (q : Site). IsOfKind q q.kind st.kind) same suits.kind)

-- a state after the quick handling of a message
abbrev pub after_quick : StateView → Sender → KindState → StateView
after_quick st sender' kind' = record { sender = sender'; handled = st.handled + 1; kind = kind' }

-- the quick handling of a message is its handling, and the station's numbers stay small
pub record IsHandledQuick (net : Net) (st : StateView) (m : Msg) (out : QuickSends) (sender' : Sender) (kind' : KindState)
    : Type 0 where
  pub is : handle net st m ≡ record {
    state = after_quick st sender' kind';
    sends = sends_of out;
    line = line_of kind';
  }
  pub fits : FitsState (after_quick st sender' kind')
  pub suits : SuitsNet net (after_quick st sender' kind')
  pub sends : AreSends net m.key.time st.sender.station st.sender.next (sends_of out)
  pub next : sender'.next ≡ st.sender.next + length (sends_of out)
  pub station : sender'.station ≡ st.sender.station
  pub line : FitsLine (line_of kind')
  pub quick : (n : ℕ) → IsQuick (n + 1) st → IsQuick n (after_quick st sender' kind')

-- so it is for each content of a message
pub handled_quick : (net : Net) (st : StateView) (m : Msg) (site : Site) (now : ℕ) (c : Content) (out : QuickSends)
    (sender' : Sender) (kind' : KindState) → IsNet net → FitsState st → SuitsNet net st
    → site_at net st.sender.station ≡ Some site → now ≡ m.key.time → as_payload c ≡ m.payload
    → m.key.time ≤ MAX_HORIZON → st.handled < MAX_LIMIT → IsQuick 1 st → IsShort c
    → kind_on net site now (as_payload c) st.kind (outgoing st.sender [])
    ≡ reaction kind' (outgoing sender' (sends_of out))
    → IsHandledQuick net st m out sender' kind'
handled_quick net st m site now c out sender' kind' valid fits suits there at content early below quick short is =
    let same : kind_on net site m.key.time m.payload st.kind (outgoing st.sender [])
    ≡ kind_on net site now (as_payload c) st.kind (outgoing st.sender []) =
    (λ i. kind_on net site (sym at i) (sym content i) st.kind (outgoing st.sender [])) in
    let h = handle-is net st m site [] (sends_of out) kind' sender' there refl (same ∙ is) in
    let well = handles-fitting net st m valid fits suits (omega (arith, early)) in
    let after_fits : FitsState (after_quick st sender' kind') =
    subst (λ (o : Outcome StateView Msg Line). FitsState o.state) h well.fits in
    let next : sender'.next ≡ st.sender.next + length (sends_of out) =
    subst (λ (o : Outcome StateView Msg Line). o.state.sender.next ≡ st.sender.next + length o.sends) h well.next in
    let stay : stay_of kind' ≤ stay_of st.kind + now =
    subst (λ (r : Reaction KindState). stay_of r.state ≤ stay_of st.kind + now) is
    (stay_of-next net site now c st.kind (outgoing st.sender [])) in
    record {
      is = h;
      fits = after_fits;
      suits = subst (λ (o : Outcome StateView Msg Line). SuitsNet net o.state) h well.suits;
      sends = subst (λ (o : Outcome StateView Msg Line).
          AreSends net m.key.time st.sender.station st.sender.next o.sends) h well.sends;
      next = next;
      station = subst (λ (o : Outcome StateView Msg Line). o.state.sender.station ≡ st.sender.station) h well.station;
      line = line_fits (st.handled + 1) kind' after_fits.kind (omega (arith, below))
          (omega (arith, stay, at, early, quick.stay));
      quick = λ n q. record {
        next = omega (arith, next, sends_of-two out, q.next);
        stay = omega (arith, stay, at, early, q.stay);
        jobs = subst (λ (r : Reaction KindState). HasShortJobs r.state) is
            (short_jobs-next net site now c st.kind (outgoing st.sender []) short q.jobs);
      };
    }
