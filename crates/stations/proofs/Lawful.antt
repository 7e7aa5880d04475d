-- The promises of a network about its stations.
use Rattle.std.proofs.Common.{◌≡◌, ◌⊎◌, ℕ, zero, suc, ◌+◌, ◌<◌, ◌≤◌, inl, inr, List, []}
use Rattle.std.proofs.Common.{length, refl, sym, ap, subst, Some, unwrap_or, arith}
use Rattle.std.proofs.lemmas.List.{nil_from_length}
use Rattle.std.proofs.lemmas.Option.{slice_get_cases, slice_get_within}
use Rattle.sim_base.specs.Weights.{IsWeight}
use Rattle.sim_base.proofs.ListLaws.{all_weaker}
use Rattle.net_model.specs.Net.{Net, Site, HasStation, site_at, site_of, no_site}
use Rattle.net_model.specs.Rules.{IsNet, IsSite, IsLink}
use Rattle.net_model.specs.declared.limits.TheConstants.{MAX_TIME}
use Rattle.stations.specs.declared.kind_state.KindState.{KindState}
use Rattle.stations.specs.Fits.{AreLinks, IsOfKind, SuitsNet, FitsState}
use Rattle.sim_base.specs.declared.message.Msg.{Msg}
use Rattle.stations.specs.declared.sender.Sender.{Sender}
use Rattle.stations.specs.Handling.{StateView, handle, handled_as, kind_on, line_of}
use Rattle.stations.specs.Sending.{Outgoing, outgoing, reaction}
use Rattle.stations.specs.Sends.{AreSends}
use Rattle.stations.proofs.Places.{AllByRecursion-slice_get}
use Rattle.stations.proofs.KindLaws.{good_kind, kind_on-good, kind_on-fits}
use Rattle.stations.specs.declared.sender.TheConstants.{MAX_EVENT_TIMES, MAX_SENDS}

-- ---- site_at and site_of

-- a number is that of a station, or no station has it
pub site_cases : (net : Net) (s : ℕ) → ((site : Site) × (site_at net s ≡ Some site)) ⊎ (site_of net s ≡ no_site)
site_cases net zero = inr refl
site_cases net (suc i) = elim (slice_get_cases net.sites i).1 [
  | inl found ↦ inl (found.0, found.2)
  | inr past ↦ inr (ap (λ o. unwrap_or o no_site) past.1)
]

-- a number from 1 to that of the last station is that of a station
pub site_at-within : (net : Net) (s : ℕ) → HasStation net s → (site : Site) × (site_at net s ≡ Some site)
site_at-within net zero is = absurd (let low = is.low in omega arith)
site_at-within net (suc i) is = let high = is.high in elim (slice_get_cases net.sites i).1 [
  | inl found ↦ (found.0, found.2)
  | inr past ↦ absurd (let beyond = past.0 in omega arith)
]

-- a station that is there meets the rules
pub site_valid : (net : Net) (s : ℕ) (site : Site) → IsNet net → site_at net s ≡ Some site → IsSite net site
site_valid net zero site valid is = absurd (cc)
site_valid net (suc i) site valid is = AllByRecursion-slice_get (IsSite net) net.sites i site valid.sites is

-- the number of a station that is there is from 1 to that of the last
pub number_in : (net : Net) (s : ℕ) (site : Site) → site_at net s ≡ Some site → HasStation net s
number_in net zero site is = absurd (cc)
number_in net (suc i) site is =
    record { low = omega arith; high = let rest = slice_get_within net.sites i site is in omega arith }

-- a station that is found at a number is the station of that number
pub site_is : (net : Net) (s : ℕ) (site : Site) → site_at net s ≡ Some site → site_of net s ≡ site
site_is net s site is = ap (λ o. unwrap_or o no_site) is

-- ---- AreLinks

-- jobs may go over the links of a station that meets the rules and has a link
pub are_links : (net : Net) (site : Site) → IsSite net site → 1 ≤ length site.links → AreLinks site.links
are_links net site valid some =
    record {
      nonempty = some;
      at_most = valid.at_most;
      weights = all_weaker (IsLink net) (λ l. IsWeight l.weight) site.links (λ l is. is.weight) valid.links;
      delay_max = all_weaker (IsLink net) (λ l. l.delay ≤ MAX_TIME) site.links (λ l is. is.small) valid.links;
    }

-- ---- handle

-- a state of the network's station that fits handles a message and stays so, and sends as stations send
pub record HandlesFittingState (net : Net) (st : StateView) (m : Msg) : Type 0 where
  pub fits : FitsState (handle net st m).state
  pub suits : SuitsNet net (handle net st m).state
  pub sends : AreSends net m.key.time st.sender.station st.sender.next (handle net st m).sends
  pub next : (handle net st m).state.sender.next ≡ st.sender.next + length (handle net st m).sends
  pub at_most : length (handle net st m).sends ≤ MAX_SENDS
  pub handled : (handle net st m).state.handled ≡ st.handled + 1
  pub station : (handle net st m).state.sender.station ≡ st.sender.station

-- so it is for each station of the network whose state fits, and each message that it may handle
pub handles-fitting : (net : Net) (st : StateView) (m : Msg) → IsNet net → FitsState st → SuitsNet net st
    → m.key.time < MAX_EVENT_TIMES → HandlesFittingState net st m
unfolding handle
handles-fitting net st m valid fits suits early =
    let site = site_of net st.sender.station in
    let is = site_is net st.sender.station suits.site suits.is_there in
    let there : site_at net st.sender.station ≡ Some site = rw is suits.is_there in
    let lawful : IsSite net site = rw is (site_valid net st.sender.station suits.site valid suits.is_there) in
    let of : IsOfKind site site.kind st.kind = subst (λ (q : Site). IsOfKind q q.kind st.kind) (sym is) suits.kind in
    let number = number_in net st.sender.station suits.site suits.is_there in
    let begin : Outgoing = record { sender = st.sender; sends = [] } in
    let after = kind_on-good net site m.key.time lawful.links valid.lookahead_min begin number site.kind st.handled
    m.payload st.kind refl of (good_kind st.handled st.kind fits.kind) in
    let g = after.grown in
    let count = ap length g.sends in
    record {
      fits = record {
        sender = record {
          station = rw g.station number.low;
          next = omega (arith, g.next, g.at_most, fits.sender.next);
          draws = omega (arith, g.draws, fits.sender.draws);
        };
        kind = kind_on-fits m.key.time early net site st.handled m.payload st.kind begin fits.kind after.good;
      };
      suits = record { site = site; is_there = rw g.station there; kind = after.kind };
      sends = subst (AreSends net m.key.time st.sender.station st.sender.next) (sym g.sends) g.are;
      next = omega (arith, g.next, count);
      at_most = omega (arith, g.at_most, count);
      handled = refl;
      station = g.station;
    }

-- the code's steps are the handling of the message
pub handle-is : (net : Net) (st : StateView) (m : Msg) (site : Site) (before after : List Msg) (kind' : KindState)
    (sender' : Sender) → site_at net st.sender.station ≡ Some site → length before ≡ 0
    → kind_on net site m.key.time m.payload st.kind (outgoing st.sender before) ≡ reaction kind'
    (outgoing sender' after)
    → handle net st m ≡ record {
      state = record { sender = sender'; handled = st.handled + 1; kind = kind' };
      sends = after;
      line = line_of kind';
    }
unfolding handle
handle-is net st m site before after kind' sender' there none is =
    let nothing = nil_from_length before none in
    let same = site_is net st.sender.station site there in
    rw same (ap (handled_as (st.handled + 1)) (rw nothing at is))
