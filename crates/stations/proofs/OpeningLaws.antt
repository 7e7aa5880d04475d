-- The opening of a station.
use Rattle.std.proofs.Common.{◌≡◌, ℕ, ◌<◌, Bool, true, false, nat_lt, if◌then◌else◌, slice_get}
use Rattle.std.proofs.Common.{inl, List, [], refl, sym, ap, subst, Some, arith}
use Rattle.std.proofs.lemmas.List.{length-map}
use Rattle.std.proofs.lemmas.Option.{same_Some}
use Rattle.net_model.specs.declared.station.Kind.{Kind}
use Rattle.net_model.specs.declared.station.Kind.TheVariants as kind
use Rattle.net_model.specs.declared.station.Link.{Link}
use Rattle.net_model.specs.Net.{Net, Site, HasStation, site_at, site_of}
use Rattle.net_model.specs.Rules.{IsNet, IsSite, IsKind, HasWayOut}
use Rattle.sim_base.specs.declared.message.Payload.TheVariants.{Tick}
use Rattle.stations.specs.declared.kind_state.KindState.{KindState}
use Rattle.stations.specs.declared.kind_state.KindState.TheVariants.{Source, Server, Delay, Router, Sink}
use Rattle.stations.specs.Fits.{FitsKind, FitsState, IsOfKind, SuitsNet}
use Rattle.stations.specs.Handling.{StateView}
use Rattle.sim_base.specs.declared.message.Msg.{Msg}
use Rattle.stations.specs.declared.sender.Sender.{Sender}
use Rattle.stations.specs.Sending.{Outgoing, outgoing, send_later}
use Rattle.stations.specs.Opening.{opening_kind, first_tick, setup}
use Rattle.stations.proofs.Growing.{Grown, grown-same}
use Rattle.stations.proofs.SourceLaws.{next_tick-grown}
use Rattle.stations.proofs.Lawful.{site_valid, number_in, site_is, are_links}
use Rattle.stations.proofs.Links.{are_weights}

-- ---- opening_kind

-- the opening state of a kind fits
pub opening_kind-fits : (net : Net) (site : Site) (k : Kind) → IsSite net site → site.kind ≡ k
    → FitsKind 0 (opening_kind site k)
opening_kind-fits net site (kind.Source lo hi jobs class) valid is =
    let of : IsKind (kind.Source lo hi jobs class) = subst (λ (q : Kind). IsKind q) is valid.kind in
    record { range = of.every; jobs = of.at_most; sent = omega arith }
opening_kind-fits net site (kind.Server servers room lo hi by_class) valid is =
    let of : IsKind (kind.Server servers room lo hi by_class) = subst (λ (q : Kind). IsKind q) is valid.kind in
    record {
      rules = of;
      busy = omega arith;
      line = inl refl;
      length_max = omega arith;
      done = omega arith;
      lost = omega arith;
    }
opening_kind-fits net site (kind.Delay lo hi) valid is =
    record { range = subst (λ (q : Kind). IsKind q) is valid.kind; passed = omega arith }
opening_kind-fits net site (kind.Router turn) valid is =
    record {
      weights = are_weights site.links
          (are_links net site valid (subst (λ (q : Kind). HasWayOut q site.links) is valid.way));
      passed = omega arith;
    }
opening_kind-fits net site kind.Sink valid is = record { got = omega arith; stay = omega arith }

-- and it is of this kind
pub opening_kind-is_of_kind : (site : Site) (k : Kind) → IsOfKind site k (opening_kind site k)
opening_kind-is_of_kind site (kind.Source lo hi jobs class) = tt
opening_kind-is_of_kind site (kind.Server servers room lo hi by_class) = tt
opening_kind-is_of_kind site (kind.Delay lo hi) = tt
opening_kind-is_of_kind site (kind.Router turn) = length-map site.links (λ (l : Link). l.weight)
opening_kind-is_of_kind site kind.Sink = tt

-- ---- first_tick

-- a station that opens sends one message at most, as stations send, and draws one word at most
first_tick-grown : (net : Net) (site : Site) (k : Kind) (o : Outgoing) → IsNet net → IsSite net site
    → site.kind ≡ k → HasStation net o.sender.station
    → Grown net 0 1 o (first_tick (opening_kind site k) o)
first_tick-grown net site (kind.Source lo hi jobs class) o valid lawful is is_station =
    let fits = opening_kind-fits net site (kind.Source lo hi jobs class) lawful is in
    next_tick-grown net 0 (record { lo = lo; hi = hi; jobs = jobs; sent = 0 }) o fits.range is_station
first_tick-grown net site (kind.Server servers room lo hi by_class) o valid lawful is is_station =
    grown-same net 0 1 o
first_tick-grown net site (kind.Delay lo hi) o valid lawful is is_station =
    grown-same net 0 1 o
first_tick-grown net site (kind.Router turn) o valid lawful is is_station =
    grown-same net 0 1 o
first_tick-grown net site kind.Sink o valid lawful is is_station =
    grown-same net 0 1 o

-- ---- setup

-- a station opens with a state that fits, and is one of the network
pub setup-well : (net : Net) (s : ℕ) (site : Site) → IsNet net → site_at net s ≡ Some site
    → FitsState (setup net s).state × SuitsNet net (setup net s).state
setup-well net s site valid there =
    let at = site_of net s in
    let is = site_is net s site there in
    let here : site_at net s ≡ Some at = rw is there in
    let lawful : IsSite net at = rw is (site_valid net s site valid there) in
    let number = number_in net s site there in
    let o : Outgoing = record {
      sender = record {
        station = s;
        next = 0;
        draws = record { seed = net.seed; stream = at.stream; count = 0 };
      };
      sends = [];
    } in
    let g = first_tick-grown net at at.kind o valid lawful refl number in (
      record {
        sender = record {
          station = rw g.station number.low;
          next = omega (arith, g.next, g.at_most);
          draws = omega (arith, g.draws);
        };
        kind = opening_kind-fits net at at.kind lawful refl;
      },
      record { site = at; is_there = rw g.station here; kind = opening_kind-is_of_kind at at.kind },
    )

-- the code's steps are the opening of the station
pub setup-is : (net : Net) (s : ℕ) (site : Site) (begun : KindState) (sender' : Sender) (before after : List Msg)
    → site_at net s ≡ Some site → begun ≡ opening_kind site site.kind → before ≡ []
    → first_tick begun (outgoing (record {
      station = s;
      next = 0;
      draws = record { seed = net.seed; stream = site.stream; count = 0 };
    }) before) ≡ outgoing sender' after
    → (setup net s).state ≡ record { sender = sender'; handled = 0; kind = begun }
setup-is net s site begun sender' before after there is none ticked =
    let ticked_here = rw (none, is) at ticked in
    rw (site_is net s site there, is)
    (ap (λ (o : Outgoing). let st : StateView = record {
      sender = o.sender;
      handled = 0;
      kind = opening_kind site site.kind;
    } in st) ticked_here)

-- ---- the message of a first tick

-- the sender of the first tick is the station itself
pub first_tick-station : (k : KindState) (o : Outgoing) → (first_tick k o).sender.station ≡ o.sender.station
first_tick-station (Source s) o = by (nat_lt s.sent s.jobs)
  where
    -- by whether a job is left
    by : (b : Bool) → (if b then send_later 0 s.lo s.hi Tick o else o).sender.station ≡ o.sender.station
    by true = refl
    by false = refl
first_tick-station (Server s) o = refl
first_tick-station (Delay s) o = refl
first_tick-station (Router s) o = refl
first_tick-station (Sink s) o = refl

-- the first message of a station is to itself, with number 0, which is then used
pub record IsFirst (s next : ℕ) (m : Msg) : Type 0 where
  pub to : m.to ≡ s
  pub sender : m.key.sender ≡ s
  pub used : m.key.number < next

-- the message that a station opens with is from it and to it, and its number is used up
pub first_tick-first : (k : KindState) (sender : Sender) (m : Msg)
    → slice_get (first_tick k (outgoing sender [])).sends 0 ≡ Some m
    → IsFirst sender.station (first_tick k (outgoing sender [])).sender.next m
first_tick-first (Source s) sender m is = by (nat_lt s.sent s.jobs) is
  where
    -- by whether a job is left
    by : (b : Bool) → slice_get (if b then send_later 0 s.lo s.hi Tick (outgoing sender []) else outgoing sender
        []).sends 0 ≡ Some m → IsFirst sender.station
        (if b then send_later 0 s.lo s.hi Tick (outgoing sender []) else outgoing sender []).sender.next m
    by true same =
        let it = same_Some _ m same in
        record {
          to = ap (λ (x : Msg). x.to) (sym it);
          sender = ap (λ (x : Msg). x.key.sender) (sym it);
          used = (let number = ap (λ (x : Msg). x.key.number) it in omega arith);
        }
    by false none = absurd (cc)
first_tick-first (Server s) sender m is = absurd (cc)
first_tick-first (Delay s) sender m is = absurd (cc)
first_tick-first (Router s) sender m is = absurd (cc)
first_tick-first (Sink s) sender m is = absurd (cc)
