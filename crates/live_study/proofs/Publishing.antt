-- What is published shows fronts of the helm's journal.
use Rattle.std.proofs.Common.{◌≡◌, ◌==◌, inl, inr, ⊎_elim, ℕ, ◌+◌, ◌-◌, ◌<◌, ◌≤◌, Bool, true, false, List, [], ◌∷◌}
use Rattle.std.proofs.Common.{◌++◌, map, Result, Ok, Err, OnOk, sym, ap, ◌∙◌, subst, arith}
use Rattle.std.proofs.Common.{append_assoc, append-nil}
use Rattle.std.specs.List.{AllByRecursion}
use Rattle.std.proofs.lemmas.Bool.{cases_lt}
use Rattle.std.proofs.lemmas.Bool.Decides.{nat_tests}
use mathlib.Core.List.{IsPrefix}
use Rattle.sim_base.specs.Clones.{Clone, base}
use Rattle.sim_base.proofs.ListLaws.{all_push, all_weaker, prefix_trans}
use Rattle.net_model.specs.Net.{Net, HasStation}
use Rattle.decision_book.specs.Journal.{Event, NewFront, NewCall, after}
use Rattle.decision_desk.specs.Passes.{HelmView}
use Rattle.phys_proc.specs.Racks.{RackView}
use Rattle.shelf.specs.Racks.{HasRack, MayBePublished, if_this, latest}
use Rattle.shelf.proofs.Legals.{HasRack-push, latest-with}
use Rattle.world_core.specs.Worlds.{WorldView}
use Rattle.live_study.specs.Engines.{InStep}
use Rattle.live_study.specs.Looks.{AreAtFront, HasRacks, IsRackOf}
use Rattle.live_study.specs.Showing.{AreShownOf, AreShownTo, Raises, TellsEach}
use Rattle.live_study.proofs.Stepping.{front_after}

-- ---- journals that go on
-- the clones at a front of a journal are those at that front of a journal that goes on from it
at_later : (net : Net) (es fs : List Event) (front : ℕ) (clones : List Clone) → IsPrefix es fs
    → AreAtFront net es front clones → AreAtFront net fs front clones
at_later net es fs front clones p h = ⊎_elim
    (λ (z : (front ≡ 0) × (clones ≡ base ∷ [])). inl z)
    (λ (z : (before : List Event) × IsPrefix (before ++ NewFront front ∷ []) es × (clones ≡ (after net before).clones)).
    inr (z.0, prefix_trans (z.0 ++ NewFront front ∷ []) es fs z.1 p, z.2))
    h

-- a rack of a journal is one of a journal that goes on from it
pub rack_later : (net : Net) (es fs : List Event) (r : RackView) → IsPrefix es fs → IsRackOf net es r
    → IsRackOf net fs r
rack_later net es fs r p h = record { net_is = h.net_is; at = at_later net es fs r.front r.clones p h.at }

-- the journal of a helm that raised its front goes on from the one that it had
raises_prefix : (old new : HelmView) (front : ℕ) → Raises old new front → IsPrefix old.helm new.helm
raises_prefix old new front r = (
  map NewCall r.calls ++ NewFront front ∷ [],
  sym (r.helm ∙ append_assoc old.helm (map NewCall r.calls) (NewFront front ∷ [])),
)

-- the world is at the front that the helm has raised
pub at_raised : (old new : HelmView) (w : WorldView) → Raises old new w.front → InStep new w
    → AreAtFront new.net new.helm w.front w.clones
at_raised old new w r i =
    let before : List Event = old.helm ++ map NewCall r.calls in
    let clones : w.clones ≡ (after new.net before).clones =
    i.clones ∙ ap (λ es. (after new.net es).clones) r.helm ∙ front_after new.net before w.front in
    inr (before, ([], append-nil (before ++ NewFront w.front ∷ []) ∙ sym r.helm), clones)

-- ---- a round of racks
-- when the front was raised, no station had its turn yet
pub round_begins : (old new : HelmView) (w v : WorldView) (published : List RackView) → AreShownOf old w published
    → new.net ≡ old.net → Raises old new v.front → v.net ≡ w.net → w.front < v.front → AreShownTo new v 0 published
round_begins old new w v published h net r same rises = record {
  up_to = record {
    racks = all_weaker (IsRackOf old.net old.helm) (IsRackOf new.net new.helm) published
        (λ q k. subst (λ (n : Net). IsRackOf n new.helm q) (sym net)
        (rack_later old.net old.helm new.helm q (raises_prefix old new v.front r) k))
        h.racks;
    time_max = all_weaker (λ (q : RackView). q.front ≤ w.front) (λ (q : RackView). q.front ≤ v.front) published
        (λ q k. omega (arith, k, rises)) h.time_max;
    has_rack = subst (λ (n : Net). HasRacks n published) (sym same) h.has_rack;
    last = λ e s low high. absurd (omega (arith, low, high));
  };
  below = all_weaker (λ (q : RackView). q.front ≤ w.front)
      (λ (q : RackView). 0 < q.station → q.front < v.front) published (λ q k s. omega (arith, k, rises)) h.time_max;
}

-- a rack of the next station at the front of the world may follow those that are published
MayBePublished-next : (h : HelmView) (w : WorldView) (done : ℕ) (r : RackView) (published : List RackView)
    → AllByRecursion (IsRackOf h.net h.helm) published
    → AllByRecursion (λ (q : RackView). done < q.station → q.front < w.front) published
    → r.net ≡ h.net → r.station ≡ done + 1 → r.front ≡ w.front → r.front ≤ r.net.horizon → MayBePublished published r
MayBePublished-next h w done r [] racks below net station front within = tt
MayBePublished-next h w done r (q ∷ published) racks below net station front within = (
  record {
    net = net ∙ sym racks.0.net_is;
    later = λ same. let less : q.front < w.front = below.0 (omega (arith, same, station)) in omega (arith, less, front);
    within = λ same. within;
  },
  MayBePublished-next h w done r published racks.1 below.1 net station front within,
)

-- the rack of the next station may be published
may_publish : (h : HelmView) (w : WorldView) (done : ℕ) (r : RackView) (published : List RackView)
    → AreShownTo h w done published → r.net ≡ h.net → r.station ≡ done + 1 → r.front ≡ w.front
    → r.front ≤ r.net.horizon → MayBePublished published r
may_publish h w done r published shown net station front within =
    MayBePublished-next h w done r published shown.up_to.racks shown.below net station front within

-- the last rack of a station, with one rack more, by whether that is of the station
is_last : (s : ℕ) (racks : List RackView) (r : RackView) (b : Bool) → (r.station == s) ≡ b
    → latest s (racks ++ r ∷ []) ≡ if_this b r (latest s racks)
is_last s racks r b e = latest-with s racks r ∙ ap (λ c. if_this c r (latest s racks)) e

-- with the rack of the next station published, one station more had its turn
round_goes_on : (h : HelmView) (w : WorldView) (done : ℕ) (r : RackView) (published : List RackView)
    → AreShownTo h w done published → AreAtFront h.net h.helm w.front w.clones → r.net ≡ h.net → r.clones ≡ w.clones
    → r.station ≡ done + 1 → r.front ≡ w.front → AreShownTo h w (done + 1) (published ++ r ∷ [])
round_goes_on h w done r published shown at net clones station front = record {
  up_to = record {
    racks = all_push (IsRackOf h.net h.helm) published r shown.up_to.racks (record {
      net_is = net;
      at = subst (λ f. AreAtFront h.net h.helm f r.clones) (sym front)
          (subst (λ cs. AreAtFront h.net h.helm w.front cs) (sym clones) at);
    });
    time_max = all_push (λ (q : RackView). q.front ≤ w.front) published r shown.up_to.time_max (omega (arith, front));
    has_rack = λ s is. HasRack-push s published r (shown.up_to.has_rack s is);
    last = λ e s low high. ⊎_elim
        (λ (k : s < done + 1).
        let b = shown.up_to.last e s low (omega (arith, k)) in
        let other : (r.station == s) ≡ false = grind (arith, nat_tests, k, station) in
        (b.0, is_last s published r false other ∙ b.1, b.2))
        (λ (k : done + 1 ≤ s).
        let this : (r.station == s) ≡ true = grind (arith, nat_tests, k, high, station) in
        (r, is_last s published r true this, front))
        (cases_lt s (done + 1));
  };
  below = all_push (λ (q : RackView). done + 1 < q.station → q.front < w.front) published r
      (all_weaker (λ (q : RackView). done < q.station → q.front < w.front)
      (λ (q : RackView). done + 1 < q.station → q.front < w.front) published
      (λ q k s. k (omega (arith, s))) shown.below)
      (λ s. absurd (omega (arith, s, station)));
}

-- before the horizon a station may have its turn without a rack
pub round_skips : (h : HelmView) (w : WorldView) (done : ℕ) (published : List RackView) → AreShownTo h w done published
    → (w.front ≡ w.net.horizon → ⊥) → AreShownTo h w (done + 1) published
round_skips h w done published shown not = record {
  up_to = record {
    racks = shown.up_to.racks;
    time_max = shown.up_to.time_max;
    has_rack = shown.up_to.has_rack;
    last = λ e. absurd (not e);
  };
  below = all_weaker (λ (q : RackView). done < q.station → q.front < w.front)
      (λ (q : RackView). done + 1 < q.station → q.front < w.front) published
      (λ q k s. k (omega (arith, s))) shown.below;
}

-- ---- AreShownTo, at a station: all before it are done
-- its rack may be published
pub may_show : (h : HelmView) (w : WorldView) (station : ℕ) (r : RackView) (published : List RackView)
    → HasStation w.net station → AreShownTo h w (station - 1) published → w.net ≡ h.net → w.front ≤ w.net.horizon
    → r.net ≡ w.net → r.station ≡ station → r.front ≡ w.front
    → HasRack r.station published × MayBePublished published r
may_show h w station r published is shown of within net own front =
    let low = is.low in
    let next : r.station ≡ station - 1 + 1 = omega (arith, own, low) in (
      subst (λ s. HasRack s published) (sym own) (shown.up_to.has_rack station is),
      may_publish h w (station - 1) r published shown (net ∙ of) next front
          (let same = ap (λ (n : Net). n.horizon) net in omega (arith, within, front, same)),
    )

-- and then it is shown
shows_more : (h : HelmView) (w : WorldView) (station : ℕ) (r : RackView) (published : List RackView) → 1 ≤ station
    → AreShownTo h w (station - 1) published → AreAtFront h.net h.helm w.front w.clones → w.net ≡ h.net
    → r.net ≡ w.net → r.clones ≡ w.clones → r.station ≡ station → r.front ≡ w.front
    → AreShownTo h w station (published ++ r ∷ [])
shows_more h w station r published low shown at of net clones own front =
    let back : station - 1 + 1 ≡ station = omega (arith, low) in
    subst (λ n. AreShownTo h w n (published ++ r ∷ [])) back
    (round_goes_on h w (station - 1) r published shown at (net ∙ of) clones (own ∙ sym back) front)

-- if it was published
pub shows_if : {E : Type 0} (h : HelmView) (w : WorldView) (station : ℕ) (r : RackView) (published new : List RackView)
    (end : Result (Unit {0}) E) → 1 ≤ station → AreShownTo h w (station - 1) published
    → AreAtFront h.net h.helm w.front w.clones → w.net ≡ h.net → r.net ≡ w.net → r.clones ≡ w.clones
    → r.station ≡ station → r.front ≡ w.front → OnOk end (new ≡ published ++ r ∷ [])
    → OnOk end (AreShownTo h w station new)
shows_if h w station r published new (Ok u) low shown at of net clones own front is =
    subst (λ racks. AreShownTo h w station racks) (sym is)
    (shows_more h w station r published low shown at of net clones own front)
shows_if h w station r published new (Err e) low shown at of net clones own front is = tt

-- ---- TellsEach
-- a publish leaves a handle for each reader
pub tells_if : {E : Type 0} (end : Result (Unit {0}) E) (has_published : Bool) (old new spares : ℕ) → new ≡ old
    → OnOk end (has_published ≡ true) → OnOk end (spares ≡ old) → OnOk end (TellsEach new has_published spares)
tells_if (Ok u) has_published old new spares same is left = (is, left ∙ sym same)
tells_if (Err e) has_published old new spares same is left = tt
