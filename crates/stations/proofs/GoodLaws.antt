-- The requirements of the laws of runs, proved of these stations.
use Rattle.std.proofs.Common.{◌≡◌, ℕ, suc, ◌+◌, ◌<◌, ◌≤◌, inl, inr, List}
use Rattle.std.proofs.Common.{[], ◌∷◌, length, refl, sym, ap, ◌∙◌, subst, Some, arith}
use Rattle.std.specs.List.{AllByRecursion}
use Rattle.sim_base.specs.declared.message.Msg.{Msg}
use Rattle.sim_base.proofs.OrderEqual.{msg-keyed, msg-timed}
use Rattle.run_laws.specs.Queue.{In}
use Rattle.run_laws.specs.Handlers.{HandlesLawfully, SendsToStations, HandlesFreshly}
use Rattle.run_laws.proofs.MessageOrder.{messages_ordered}
use Rattle.net_model.specs.declared.station.Kind.TheVariants as kind
use Rattle.net_model.specs.Net.{Net, Site, site_at, site_of, no_site}
use Rattle.net_model.specs.Rules.{IsNet, IsSite}
use Rattle.stations.specs.declared.sender.Sender.{Sender}
use Rattle.stations.specs.declared.kind_state.KindState.{KindState}
use Rattle.stations.specs.declared.kind_state.KindState.TheVariants.{Source, Server, Delay, Router, Sink}
use Rattle.stations.specs.Fits.{GoodKind, IsOfKind}
use Rattle.stations.specs.Sending.{Outgoing}
use Rattle.stations.specs.Sends.{IsSend, AreSends}
use Rattle.stations.specs.Handling.{StateView, handle}
use Rattle.stations.specs.Opening.{opening_kind, setup}
use Rattle.stations.specs.Good.{IsGood, next_number, sender_of, number_of}
use Rattle.stations.specs.Runs.{simulation}
use Rattle.stations.proofs.KindLaws.{good_kind, kind_on-good}
use Rattle.stations.proofs.Lawful.{site_cases, site_valid, number_in, site_is}
use Rattle.stations.proofs.OpeningLaws.{opening_kind-fits, opening_kind-is_of_kind}
use Rattle.stations.proofs.OpeningLaws.{first_tick-station, first_tick-first}
use Rattle.stations.specs.declared.sender.TheConstants.{MAX_SENDS}

module _ (net : Net) (valid : IsNet net) where
  -- ---- handle

  -- a good state handles a message and stays good, and sends as stations send
  pub record HandlesGoodState (s : ℕ) (st : StateView) (m : Msg) : Type 0 where
    pub good : IsGood net s (handle net st m).state
    pub sends : AreSends net m.key.time s st.sender.next (handle net st m).sends
    pub at_most : length (handle net st m).sends ≤ MAX_SENDS
    pub next : (handle net st m).state.sender.next ≡ st.sender.next + length (handle net st m).sends

  -- so it is at a station of the network
  handles-at_station : (site : Site) (st : StateView) (m : Msg) → site_at net st.sender.station ≡ Some site
      → IsOfKind (site_of net st.sender.station) (site_of net st.sender.station).kind st.kind
      → GoodKind st.handled st.kind → HandlesGoodState st.sender.station st m
  unfolding handle
  handles-at_station site st m there of good =
      let at = site_of net st.sender.station in
      let lawful : IsSite net at = rw (site_is net st.sender.station site there)
      (site_valid net st.sender.station site valid there) in
      let number = number_in net st.sender.station site there in
      let begin : Outgoing = record { sender = st.sender; sends = [] } in
      let after = kind_on-good net at m.key.time lawful.links valid.lookahead_min begin number at.kind st.handled
      m.payload st.kind refl of good in
      let g = after.grown in
      let count = ap length g.sends in
      record {
        good = record { station = g.station; kind = after.kind; fits = after.good };
        sends = subst (AreSends net m.key.time st.sender.station st.sender.next) (sym g.sends) g.are;
        at_most = omega (arith, g.at_most, count);
        next = omega (arith, g.next, count);
      }

  -- a message to a number that no station has is handled as a sink's
  handles-at_no_station : (sender : Sender) (handled : ℕ) (k : KindState) (m : Msg)
      → site_of net sender.station ≡ no_site → IsOfKind no_site kind.Sink k
      → HandlesGoodState sender.station (record { sender = sender; handled = handled; kind = k }) m
  unfolding handle
  handles-at_no_station sender handled (Sink s) m none of =
      record {
        good = record { station = refl; kind = rw none tt; fits = tt };
        sends = tt;
        at_most = omega arith;
        next = omega arith;
      }
  handles-at_no_station sender handled (Source s) m none of = absurd of
  handles-at_no_station sender handled (Server s) m none of = absurd of
  handles-at_no_station sender handled (Delay s) m none of = absurd of
  handles-at_no_station sender handled (Router s) m none of = absurd of

  -- so does a state whose kind is that of its own number, for every number
  handles-own : (st : StateView) (m : Msg)
      → IsOfKind (site_of net st.sender.station) (site_of net st.sender.station).kind st.kind
      → GoodKind st.handled st.kind → HandlesGoodState st.sender.station st m
  handles-own st m of good = elim (site_cases net st.sender.station) [
    | inl found ↦ handles-at_station found.0 st m found.1 of good
    | inr none ↦ handles-at_no_station st.sender st.handled st.kind m none
        (subst (λ (site : Site). IsOfKind site site.kind st.kind) none of)
  ]

  -- a good state stays good, and sends as stations send
  pub handles-good : (s : ℕ) (st : StateView) (m : Msg) → IsGood net s st → HandlesGoodState s st m
  handles-good s st m good =
      subst (λ (r : ℕ). HandlesGoodState r st m) good.station
      (handles-own st m (subst (λ (r : ℕ). IsOfKind (site_of net r) (site_of net r).kind st.kind)
      (sym good.station) good.kind) good.fits)

  -- ---- AreSends

  module _ (now s : ℕ) where
    -- the sends come later
    sends_later : (k : ℕ) (ms : List Msg) → AreSends net now s k ms → AllByRecursion (λ z. now < z.key.time) ms
    sends_later k [] are = tt
    sends_later k (m ∷ ms) are = (are.0.later, sends_later (suc k) ms are.1)

    -- a message that was sent, with its number
    pub record IsAmong (low high : ℕ) (z : Msg) : Type 0 where
      pub at : ℕ
      pub above : low ≤ at
      pub below : at < high
      pub is : IsSend net now s at z

    -- a message among sends with the numbers from k on is a send with one of these numbers
    pub among : (k : ℕ) (ms : List Msg) (z : Msg) → AreSends net now s k ms → In z ms → IsAmong k (k + length ms) z
    among k [] z are i = absurd i
    among k (m ∷ ms) z are (inl same) =
        record { at = k; above = omega arith; below = omega arith; is = subst (IsSend net now s k) (sym same) are.0 }
    among k (m ∷ ms) z are (inr later) =
        let rest = among (suc k) ms z are.1 later in
        record { at = rest.at; above = omega (arith, rest.above); below = omega (arith, rest.below); is = rest.is }

    -- numbers separate sends
    numbers_apart : (k : ℕ) (ms : List Msg) (z y : Msg) → AreSends net now s k ms → In z ms → In y ms
        → z.key.number ≡ y.key.number → z ≡ y
    numbers_apart k [] z y are i j same = absurd i
    numbers_apart k (m ∷ ms) z y are (inl a) (inl b) same = a ∙ sym b
    numbers_apart k (m ∷ ms) z y are (inl a) (inr j) same =
        let first = are.0.number in
        let z_is = ap (λ (x : Msg). x.key.number) a in
        let later = among (suc k) ms y are.1 j in
        absurd (omega (arith, later.above, later.is.number))
    numbers_apart k (m ∷ ms) z y are (inr i) (inl b) same =
        let first = are.0.number in
        let y_is = ap (λ (x : Msg). x.key.number) b in
        let later = among (suc k) ms z are.1 i in
        absurd (omega (arith, later.above, later.is.number))
    numbers_apart k (m ∷ ms) z y are (inr i) (inr j) same = numbers_apart (suc k) ms z y are.1 i j same

-- ---- the requirements of the laws of runs

module _ (net : Net) (valid : IsNet net) where
  -- a station opens in a good state
  pub opens_good : (s : ℕ) → IsGood net s (setup net s).state
  opens_good s =
      let at = site_of net s in
      record {
        station = first_tick-station (opening_kind at at.kind) _;
        kind = opening_kind-is_of_kind at at.kind;
        fits = elim (site_cases net s) [
          | inl found ↦ (
              let lawful : IsSite net at = rw (site_is net s found.0 found.1)
              (site_valid net s found.0 valid found.1) in
              good_kind 0 (opening_kind at at.kind) (opening_kind-fits net at at.kind lawful refl))
          | inr none ↦ subst (λ (site : Site). GoodKind 0 (opening_kind site site.kind)) (sym none) tt
        ];
      }

  -- good states stay good, and sends come later, and to another station later by at least the lookahead
  pub lawful-stations : HandlesLawfully (simulation net) (IsGood net)
  lawful-stations = record {
    order = record { order = messages_ordered; timed = msg-timed };
    opens = opens_good;
    keeps = λ s st m good. (handles-good net valid s st m good).good;
    later = λ s st m good. sends_later net valid m.key.time s st.sender.next (handle net st m).sends
        (handles-good net valid s st m good).sends;
    far = λ s st m z good i other.
        (among net valid m.key.time s st.sender.next (handle net st m).sends z
        (handles-good net valid s st m good).sends i).is.far other;
  }

  -- a first message is for its own station, a send for a station, and a decision for the one that it names
  pub stations-to_stations : SendsToStations (simulation net) (IsGood net)
  stations-to_stations = record {
    first = λ s m there is. (first_tick-first (opening_kind (site_of net s) (site_of net s).kind) _ m is).to;
    set_message = λ k p. refl;
    sends = λ s st m z there good i. let sent =
        (among net valid m.key.time s st.sender.next (handle net st m).sends z
        (handles-good net valid s st m good).sends i).is.is_station in (omega (arith, sent.low), sent.high);
  }

  -- a station numbers its sends, each number once, and the number of a decision is its place in the list
  pub fresh-stations : HandlesFreshly (simulation net) (IsGood net) sender_of number_of next_number
  fresh-stations = record {
    keyed = λ x y less. msg-keyed x y less;
    opened = λ s m there is. let first =
        first_tick-first (opening_kind (site_of net s) (site_of net s).kind) _ m is in (first.sender, first.used);
    set_message = λ k p. (refl, refl);
    mine = λ s st m z there good i.
        (among net valid m.key.time s st.sender.next (handle net st m).sends z
        (handles-good net valid s st m good).sends i).is.sender;
    low = λ s st m z there good i. let sent = among net valid m.key.time s st.sender.next (handle net st m).sends z
        (handles-good net valid s st m good).sends i in omega (arith, sent.above, sent.is.number);
    high = λ s st m z there good i. let sent = among net valid m.key.time s st.sender.next (handle net st m).sends z
        (handles-good net valid s st m good).sends i in
        omega (arith, sent.below, sent.is.number, (handles-good net valid s st m good).next);
    rises = λ s st m there good. omega (arith, (handles-good net valid s st m good).next);
    apart = λ s st m z y there good i j same. numbers_apart net valid m.key.time s st.sender.next
        (handle net st m).sends z y (handles-good net valid s st m good).sends i j same;
  }
