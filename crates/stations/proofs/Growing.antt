-- The effect of sending on a sender and on its sends.
use Rattle.std.proofs.Common.{◌≡◌, ◌≢◌, ℕ, suc, ◌+◌, ◌<◌, ◌≤◌, List, [], ◌∷◌, ◌++◌, length, refl, sym, ap, ◌∙◌, subst}
use Rattle.std.proofs.Common.{append_assoc, append-nil, length-append, Option, Some, None, slice_get, arith}
use Rattle.std.specs.List.{AllByRecursion}
use Rattle.sim_base.specs.declared.message.Msg.{Msg}
use Rattle.sim_base.specs.declared.message.Job.{Job as JobOf}
use Rattle.sim_base.specs.declared.message.Payload.{Payload}
use Rattle.sim_base.specs.declared.message.Payload.TheVariants.{Job}
use Rattle.net_model.specs.declared.station.Link.{Link}
use Rattle.net_model.specs.Net.{Net, HasStation}
use Rattle.net_model.specs.Rules.{IsLink}
use Rattle.sim_draw.specs.Drawing.{range_of}
use Rattle.stations.specs.Sending.{Outgoing, send, draw, send_later, send_over, after_pick, link_by, route_by}
use Rattle.stations.specs.Sends.{AreSends, IsJob}
use Rattle.stations.proofs.Places.{AllByRecursion-slice_get}

module _ (net : Net) (now : ℕ) where
  -- ---- Grown

  -- b is a after at most n messages more and at most n words drawn
  pub record Grown (n : ℕ) (a b : Outgoing) : Type 0 where
    pub station : b.sender.station ≡ a.sender.station
    pub draws : b.sender.draws.count ≤ a.sender.draws.count + n
    pub more : List Msg
    pub sends : b.sends ≡ a.sends ++ more
    pub at_most : length more ≤ n
    pub next : b.sender.next ≡ a.sender.next + length more
    pub are : AreSends net now a.sender.station a.sender.next more

  -- sends, followed by sends with the next numbers
  AreSends-append : (s k : ℕ) (ms ns : List Msg) → AreSends net now s k ms → AreSends net now s (k + length ms) ns
      → AreSends net now s k (ms ++ ns)
  AreSends-append s k [] ns are more = let same : k + 0 ≡ k = omega arith in
      subst (λ (i : ℕ). AreSends net now s i ns) same more
  AreSends-append s k (m ∷ ms) ns are more =
      let same : k + suc (length ms) ≡ suc k + length ms = omega arith in
      (are.0, AreSends-append s (suc k) ms ns are.1 (subst (λ (i : ℕ). AreSends net now s i ns) same more))

  -- an unchanged sender has grown by nothing
  pub grown-none : (a : Outgoing) → Grown 0 a a
  grown-none a = record {
    station = refl;
    draws = omega arith;
    more = [];
    sends = sym (append-nil a.sends);
    at_most = omega arith;
    next = omega arith;
    are = tt;
  }

  -- growth by at most n is growth by at most any number from n on
  pub grown-more : (n m : ℕ) (a b : Outgoing) → Grown n a b → n ≤ m → Grown m a b
  grown-more n m a b g le = record {
    station = g.station;
    draws = omega (arith, g.draws);
    more = g.more;
    sends = g.sends;
    at_most = omega (arith, g.at_most);
    next = g.next;
    are = g.are;
  }

  -- an unchanged sender has grown by at most any number
  pub grown-same : (n : ℕ) (a : Outgoing) → Grown n a a
  grown-same n a = grown-more 0 n a a (grown-none a) (omega arith)

  -- growth by at most n, and then by at most m, is growth by at most n + m
  pub grown-trans : (n m : ℕ) (a b c : Outgoing) → Grown n a b → Grown m b c → Grown (n + m) a c
  grown-trans n m a b c g h =
      let count = length-append g.more h.more in
      let here : AreSends net now a.sender.station (a.sender.next + length g.more) h.more =
      rw (← g.station, ← g.next) h.are in
      record {
        station = h.station ∙ g.station;
        draws = omega (arith, g.draws, h.draws);
        more = g.more ++ h.more;
        sends = h.sends ∙ (ap (λ s. s ++ h.more) g.sends ∙ append_assoc a.sends g.more h.more);
        at_most = omega (arith, count, g.at_most, h.at_most);
        next = omega (arith, count, g.next, h.next);
        are = AreSends-append a.sender.station a.sender.next g.more h.more g.are here;
      }

  -- ---- send and send_later

  -- one message that is sent as it should be, after at most one word was drawn
  grown-send : (time to : ℕ) (payload : Payload) (a o : Outgoing) → o.sender.station ≡ a.sender.station
      → o.sender.next ≡ a.sender.next → o.sends ≡ a.sends → o.sender.draws.count ≤ a.sender.draws.count + 1
      → now < time → (to ≢ a.sender.station → now + net.lookahead ≤ time)
      → (IsJob payload → now + net.lookahead ≤ time) → HasStation net to
      → Grown 1 a (send time to payload o)
  grown-send time to payload a o station next sends draws later far on_link is_station =
      let m : Msg = record {
        key = record { time = time; sender = o.sender.station; number = o.sender.next };
        to = to;
        payload = payload;
      } in
      record {
        station = station;
        draws = draws;
        more = m ∷ [];
        sends = ap (λ s. s ++ m ∷ []) sends;
        at_most = omega arith;
        next = omega (arith, next);
        are = (
          record {
            sender = station;
            number = next;
            later = later;
            far = far;
            on_link = on_link;
            is_station = is_station;
          },
          tt,
        );
      }

  -- ---- after_pick

  -- a pick takes at most one word drawn
  after_pick-draws : (weights : List ℕ) (o : Outgoing)
      → (after_pick weights o).sender.draws.count ≤ o.sender.draws.count + 1
  after_pick-draws [] o = omega arith
  after_pick-draws (w ∷ []) o = omega arith
  after_pick-draws (w ∷ v ∷ ws) o = omega arith

  -- and it sends nothing
  grown-picked : (weights : List ℕ) (o : Outgoing) → Grown 1 o (after_pick weights o)
  grown-picked weights o = record {
    station = refl;
    draws = after_pick-draws weights o;
    more = [];
    sends = sym (append-nil o.sends);
    at_most = omega arith;
    next = omega arith;
    are = tt;
  }

  module _ (a : Outgoing) (is_station : HasStation net a.sender.station) where
    -- a message to the station itself
    pub grown-later : (lo hi : ℕ) (payload : Payload) → ¬ IsJob payload → 1 ≤ lo
        → Grown 1 a (send_later now lo hi payload a)
    grown-later lo hi payload own low =
        grown-send (now + range_of lo hi a.sender.draws) a.sender.station payload a (draw a) refl refl refl
        (omega arith) (omega arith) (λ other. absurd (other refl)) (λ job. absurd (own job)) is_station

  -- ---- send_over

  -- a job over a link, from a sender that has drawn at most one word since a
  over-link : (link : Option Link) (links : List Link) (i extra : ℕ) (job : JobOf) (a o : Outgoing)
      → AllByRecursion (IsLink net) links → 1 ≤ net.lookahead → link ≡ slice_get links i
      → o.sender.station ≡ a.sender.station → o.sender.next ≡ a.sender.next → o.sends ≡ a.sends
      → o.sender.draws.count ≤ a.sender.draws.count + 1 → Grown 1 a (send_over link (now + extra) job o)
  over-link None links i extra job a o are ahead is station next sends draws =
      record {
        station = station;
        draws = draws;
        more = [];
        sends = sends ∙ sym (append-nil a.sends);
        at_most = omega arith;
        next = omega (arith, next);
        are = tt;
      }
  over-link (Some link) links i extra job a o are ahead is station next sends draws =
      let valid = AllByRecursion-slice_get (IsLink net) links i link are (sym is) in
      grown-send ((now + extra) + link.delay) link.to (Job job) a o station next sends draws
      (omega (arith, valid.slow)) (λ other. omega (arith, valid.slow))
      (λ job. omega (arith, valid.slow)) valid.is_station

  -- a job over a link that is picked by weights
  pub grown-route : (links : List Link) (weights : List ℕ) (job : JobOf) (a : Outgoing)
      → AllByRecursion (IsLink net) links → 1 ≤ net.lookahead → Grown 1 a (route_by links weights now job a)
  grown-route links weights job a are ahead =
      let zero_more : now + 0 ≡ now = omega arith in
      subst (λ (t : ℕ). Grown 1 a (send_over (link_by links weights a) t job (after_pick weights a))) zero_more
      (over-link (link_by links weights a) links _ 0 job a (after_pick weights a) are ahead refl refl refl refl
      (after_pick-draws weights a))

  -- a job over a given link of a station
  pub grown-over : (links : List Link) (i : ℕ) (job : JobOf) (a : Outgoing) → AllByRecursion (IsLink net) links
      → 1 ≤ net.lookahead → Grown 1 a (send_over (slice_get links i) now job a)
  grown-over links i job a are ahead =
      let zero_more : now + 0 ≡ now = omega arith in
      subst (λ (t : ℕ). Grown 1 a (send_over (slice_get links i) t job a)) zero_more
      (over-link (slice_get links i) links i 0 job a a are ahead refl refl refl refl (omega arith))

  -- a job that is held for a while, over a link that is picked first
  pub grown-held : (links : List Link) (weights : List ℕ) (extra : ℕ) (job : JobOf) (a : Outgoing)
      → AllByRecursion (IsLink net) links → 1 ≤ net.lookahead
      → Grown 2 a (send_over (link_by links weights a) (now + extra) job (draw (after_pick weights a)))
  grown-held links weights extra job a are ahead =
      let routed = after_pick weights a in
      grown-trans 1 1 a routed (send_over (link_by links weights a) (now + extra) job (draw routed))
      (grown-picked weights a)
      (over-link (link_by links weights a) links _ extra job routed (draw routed) are ahead refl refl refl refl
      (omega arith))
