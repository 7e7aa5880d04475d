-- Plain data that fits a station restores a state of it.
use Rattle.std.proofs.Common.{◌≡◌, ℕ, ◌+◌, ◌*◌, ◌≤◌, ◌⊎◌, inl, inr, List, [], ◌∷◌, length, Bool, true, false}
use Rattle.std.proofs.Common.{refl, Some, arith, ◌==◌, ltb-true, eq-eqb, eqb-true}
use Rattle.std.specs.Prelude.{◌&&◌, ◌||◌, nat_le}
use Rattle.std.specs.List.{AllByRecursion, list_all}
use Rattle.std.proofs.lemmas.Bool.{leb-true, le-leb, and_parts as both, and_from as and}
use Rattle.sim_base.specs.Weights.{IsWeight}
use Rattle.net_model.specs.declared.station.Kind.{Kind}
use Rattle.net_model.specs.declared.station.Kind.TheVariants as kind
use Rattle.net_model.specs.declared.limits.TheConstants.{MAX_WEIGHT, MAX_TIME}
use Rattle.net_model.specs.Net.{Net, Site, site_at, site_of}
use Rattle.net_model.specs.Rules.{IsNet, IsSite, IsRange, is_range, is_within, IsKind}
use Rattle.net_model.proofs.Bounds.{is_range-bounds, is_within-bounds}
use Rattle.stations.specs.declared.kind_state.KindState.{KindState}
use Rattle.stations.specs.declared.kind_state.KindState.TheVariants.{Source, Server, Delay, Router, Sink}
use Rattle.stations.specs.declared.sender.TheConstants.{MAX_STAY_SUM, MAX_SENDS}
use Rattle.stations.specs.Fits.{FitsKind, IsOfKind}
use Rattle.stations.proofs.Lawful.{site_at-within, site_is, site_valid}
use Rattle.stations.specs.declared.saved.Saved.{Saved}
use Rattle.stations.specs.declared.saved.Shape.{Shape}
use Rattle.stations.specs.declared.saved.Shape.TheVariants as shape
use Rattle.stations.specs.Fitting.{fits_shape, FittingIsRestored}
use Rattle.stations.specs.Saving.{restored_kind, restored}

-- ---- tests

pub range-true : (low lo hi : ℕ) → IsRange low lo hi → is_range low lo hi ≡ true
range-true low lo hi r =
    and _ _ (and _ _ (le-leb low lo r.above) (le-leb lo hi r.ordered)) (le-leb hi MAX_TIME r.small)

pub within-true : (low high n : ℕ) → low ≤ n → n ≤ high → is_within low high n ≡ true
within-true low high n p q = and _ _ (le-leb low n p) (le-leb n high q)

pub all_pass-true : {X : Type 0} (p : X → Bool) (xs : List X) → AllByRecursion (λ x. p x ≡ true) xs
    → list_all p xs ≡ true
all_pass-true p [] all = refl
all_pass-true p (x ∷ xs) all = and (p x) (list_all p xs) all.0 (all_pass-true p xs all.1)

pub all_pass-all : {X : Type 0} (p : X → Bool) (xs : List X) → list_all p xs ≡ true
    → AllByRecursion (λ x. p x ≡ true) xs
all_pass-all p [] e = tt
all_pass-all p (x ∷ xs) e = let h = both (p x) (list_all p xs) e in (h.0, all_pass-all p xs h.1)

pub line-true : (n busy servers : ℕ) → (n ≡ 0) ⊎ (servers ≤ busy) → ((n == 0) || nat_le servers busy) ≡ true
line-true n busy servers (inl e) = rw (eq-eqb n 0 e) refl
line-true n busy servers (inr le) = by (n == 0) (nat_le servers busy) (le-leb servers busy le)
  where
    by : (a b : Bool) → b ≡ true → (a || b) ≡ true
    by true b e = refl
    by false b e = e

line-either : (n busy servers : ℕ) → ((n == 0) || nat_le servers busy) ≡ true → (n ≡ 0) ⊎ (servers ≤ busy)
line-either n busy servers e = by (n == 0) refl e
  where
    by : (a : Bool) → (n == 0) ≡ a → (a || nat_le servers busy) ≡ true → (n ≡ 0) ⊎ (servers ≤ busy)
    by true is h = inl (eqb-true n 0 is)
    by false is h = inr (leb-true servers busy h)

-- ---- FittingIsRestored

module _ (net : Net) where
  -- the state that a shape that fits restores
  record KindIsRestored (site : Site) (k : Kind) (handled : ℕ) (h : Shape) : Type 0 where
    pub state : KindState
    pub is : restored_kind k h ≡ Some state
    pub fits : FitsKind handled state
    pub of : IsOfKind site k state

  shape-restored : (site : Site) (k : Kind) (handled : ℕ) (h : Shape) → IsKind k →
      1 ≤ length site.links ⊎ (k ≡ kind.Sink) →
      length site.links ≤ 16 → fits_shape net site handled k h ≡ true → KindIsRestored site k handled h
  shape-restored site (kind.Source lo hi jobs class) handled (shape.Source low high sent) valid links few e =
      let h = both _ _ e in
      let most = valid.at_most in
      let less = leb-true sent jobs h.1 in
      record {
        state = Source (record { lo = low; hi = high; jobs = jobs; sent = sent });
        is = refl;
        fits = record { range = is_range-bounds 1 low high h.0; jobs = most; sent = omega (arith, less, most) };
        of = tt;
      }
  shape-restored site (kind.Server servers room lo hi by_class) handled
      (shape.Server number space low high busy done lost line) valid links few e =
      let h = both _ _ e in
      let rules = both _ _ h.0 in
      let more = both _ _ rules.1 in
      let counts = both _ _ h.1 in
      let queue = both _ _ counts.0 in
      let short = both _ _ queue.0 in
      let ends = both _ _ counts.1 in
      let done_lost = both _ _ ends.0 in
      let bounds = is_within-bounds 1 _ number rules.0 in
      record {
        state = Server (record {
          servers = number;
          room = space;
          lo = low;
          hi = high;
          busy = busy;
          waiting = line;
          done = done;
          lost = lost;
        });
        is = refl;
        fits = record {
          rules = record {
            at_least = bounds.0;
            at_most = bounds.1;
            small = leb-true space _ more.0;
            service = is_range-bounds 1 low high more.1;
          };
          busy = leb-true busy _ short.0;
          line = line-either (length line) busy number queue.1;
          length_max = leb-true (length line) _ short.1;
          done = leb-true done handled done_lost.0;
          lost = leb-true lost handled done_lost.1;
        };
        of = tt;
      }
  shape-restored site (kind.Delay lo hi) handled (shape.Delay low high passed) valid links few e =
      let h = both _ _ e in
      record {
        state = Delay (record { lo = low; hi = high; passed = passed });
        is = refl;
        fits = record { range = is_range-bounds 0 low high h.0; passed = leb-true passed handled h.1 };
        of = tt;
      }
  shape-restored site (kind.Router turn) handled (shape.Router passed weights) valid links few e =
      let h = both _ _ e in
      let parts = both _ _ h.0 in
      let count = eqb-true (length weights.items) (length site.links) parts.0 in
      record {
        state = Router (record { weights = weights; passed = passed });
        is = refl;
        fits = record {
          weights = record {
            nonempty = elim links [ inl some ↦ omega (arith, count, some) | inr sink ↦ absurd (cc) ];
            at_most = omega (arith, count, few);
            all = all weights.items (all_pass-all (is_within 1 MAX_WEIGHT) weights.items parts.1);
          };
          passed = leb-true passed handled h.1;
        };
        of = count;
      }
    where
      all : (ws : List ℕ) → AllByRecursion (λ w. is_within 1 MAX_WEIGHT w ≡ true) ws → AllByRecursion IsWeight ws
      all [] are = tt
      all (w ∷ ws) are = let b = is_within-bounds 1 MAX_WEIGHT w are.0 in
          (record { heavy = b.0; light = b.1 }, all ws are.1)
  shape-restored site kind.Sink handled (shape.Sink got stay) valid links few e =
      let h = both _ _ e in
      let less = ltb-true stay MAX_STAY_SUM h.1 in
      record {
        state = Sink (record { got = got; stay = stay });
        is = refl;
        fits = record { got = leb-true got handled h.0; stay = omega (arith, less) };
        of = tt;
      }
  shape-restored site k handled h valid links few e = absurd (cc)

  has-way : (site : Site) → IsSite net site → (1 ≤ length site.links) ⊎ (site.kind ≡ kind.Sink)
  has-way site lawful = by site.kind refl
    where
      by : (k : Kind) → site.kind ≡ k → (1 ≤ length site.links) ⊎ (site.kind ≡ kind.Sink)
      by kind.Sink is = inr is
      by (kind.Source lo hi jobs class) is = inl (let w = lawful.way in rw is at w)
      by (kind.Server servers room lo hi by_class) is = inl (let w = lawful.way in rw is at w)
      by (kind.Delay lo hi) is = inl (let w = lawful.way in rw is at w)
      by (kind.Router turn) is = inl (let w = lawful.way in rw is at w)

  pub fits-restored : IsNet net → FittingIsRestored net
  fits-restored valid s saved there e =
      let found = site_at-within net s there in
      let same = site_is net s found.0 found.1 in
      let site : Site = site_of net s in
      let here : site_at net s ≡ Some site = rw same found.1 in
      let lawful : IsSite net site = rw same (site_valid net s found.0 valid found.1) in
      let numbers_fit : Bool = nat_le saved.handled net.limit && (nat_le saved.next (MAX_SENDS * (saved.handled + 1))
      && nat_le saved.drawn (MAX_SENDS * (saved.handled + 1))) in
      let h = both numbers_fit (fits_shape net site saved.handled site.kind saved.shape) e in
      let counts = both _ _ h.0 in
      let numbers = both _ _ counts.1 in
      let kind = shape-restored site site.kind saved.handled saved.shape lawful.kind (has-way site lawful)
      lawful.at_most
      h.1 in
      let low = there.low in
      record {
        state = record {
          sender = record {
            station = s;
            next = saved.next;
            draws = record { seed = net.seed; stream = site.stream; count = saved.drawn };
          };
          handled = saved.handled;
          kind = kind.state;
        };
        is = rw kind.is refl;
        fits = record {
          sender = record {
            station = low;
            next = leb-true saved.next _ numbers.0;
            draws = leb-true saved.drawn _ numbers.1;
          };
          kind = kind.fits;
        };
        suits = record { site = site; is_there = here; kind = kind.of };
        station = refl;
        handled = refl;
      }

-- the code's result for a restored kind is the restored state
pub restored-by : (net : Net) (s : ℕ) (site : Site) (saved : Saved) (k : KindState) → site_at net s ≡ Some site →
    restored_kind site.kind saved.shape ≡ Some k →
    restored net s saved ≡ Some (record {
      sender = record {
        station = s;
        next = saved.next;
        draws = record { seed = net.seed; stream = site.stream; count = saved.drawn };
      };
      handled = saved.handled;
      kind = k;
    })
restored-by net s site saved k there is = rw (site_is net s site there, is) refl
