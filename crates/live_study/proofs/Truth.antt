-- A look of a run that came to the horizon is true.
use Rattle.std.proofs.Common.{◌≡◌, ◌==◌, ◌⊎◌, ⊎_elim, ℕ, ◌+◌, ◌<◌, ◌≤◌, Bool, true}
use Rattle.std.proofs.Common.{false, List, [], ◌∷◌, ◌++◌, length, Option, Some, None, IfSome}
use Rattle.std.proofs.Common.{inl, inr, refl, sym, ap, ◌∙◌, subst, arith}
use Rattle.std.specs.List.{AllByRecursion}
use Rattle.std.proofs.lemmas.Bool.{cases_lt}
use Rattle.std.proofs.lemmas.Bool.Decides.{nat_tests}
use mathlib.Core.List.{IsPrefix}
use Rattle.sim_base.proofs.ListLaws.{all_left, all_right, all_weaker, prefix_trans}
use Rattle.net_model.specs.Net.{Net, station_named}
use Rattle.decision_book.specs.Journal.{Event}
use Rattle.decision_book.proofs.Planned.{station_named-low}
use Rattle.decision_desk.specs.Passes.{HelmView}
use Rattle.phys_proc.specs.Racks.{RackView, FindsClone}
use Rattle.phys_proc.specs.declared.rack.Glance.{Glance}
use Rattle.shelf.specs.Racks.{AreLegal, IsGlance, MayComeAfter, latest, or_this}
use Rattle.shelf.proofs.Legals.{latest-all}
use Rattle.shelf.proofs.Prefixes.{prefix_shorter}
use Rattle.journal_text.specs.declared.looked.Looked.{Looked}
use Rattle.world_core.specs.Worlds.{WorldView}
use Rattle.live_study.specs.Looks.{AreAtFront, AreOfOneHistory, IsAt, IsRackOf}
use Rattle.live_study.specs.Looks.{IsReadLook, IsTrueGlance, IsTrueLook, WasRead}
use Rattle.live_study.specs.Showing.{AreShownOf}
use Rattle.live_study.proofs.Publishing.{rack_later}

-- ---- legal lists, in parts
-- the first part of a legal list is legal
legal_left : (xs ys : List RackView) → AreLegal (xs ++ ys) → AreLegal xs
legal_left [] ys legal = tt
legal_left (x ∷ xs) ys legal = (all_left (λ (r : RackView). MayComeAfter r x) xs ys legal.0, legal_left xs ys legal.1)

-- a later rack of a station may come after an earlier one
comes_after : (s : ℕ) (xs ys : List RackView) (p q : RackView) → AreLegal (xs ++ ys) → latest s xs ≡ Some p
    → latest s ys ≡ Some q → MayComeAfter q p × (p.station ≡ q.station)
comes_after s [] ys p q legal e f = absurd (cc)
comes_after s (x ∷ xs) ys p q legal e f =
    by_rest (λ g. comes_after s xs ys p q legal.1 g f) (latest s xs) refl (x.station == s) refl e
  where
    by_rest : (latest s xs ≡ Some p → MayComeAfter q p × (p.station ≡ q.station)) → (o : Option RackView)
        → latest s xs ≡ o → (b : Bool) → (x.station == s) ≡ b → or_this o b x ≡ Some p
        → MayComeAfter q p × (p.station ≡ q.station)
    by_rest more (Some later) g b is e = more (g ∙ e)
    by_rest more None g true is e =
        let same : x ≡ p = cc in
        let here : x.station ≡ s = grind (arith, nat_tests, is) in
        let h = latest-all (λ (r : RackView). MayComeAfter r x) s ys q
        (all_right (λ (r : RackView). MayComeAfter r x) xs ys legal.0) f in
        subst (λ (r : RackView). MayComeAfter q r × (r.station ≡ q.station)) same (h.0, here ∙ sym h.1)
    by_rest more None g false is e = absurd (cc)

-- if two lists have no rack of a station, the first has none
latest_none : (s : ℕ) (xs ys : List RackView) → latest s (xs ++ ys) ≡ None → latest s xs ≡ None
latest_none s [] ys g = refl
latest_none s (x ∷ xs) ys g =
    of_rest (λ h. latest_none s xs ys h) (latest s (xs ++ ys)) refl (x.station == s) refl g
  where
    of_rest : (latest s (xs ++ ys) ≡ None → latest s xs ≡ None) → (o : Option RackView) → latest s (xs ++ ys) ≡ o
        → (b : Bool) → (x.station == s) ≡ b → or_this o b x ≡ None → latest s (x ∷ xs) ≡ None
    of_rest more (Some later) h b is g = absurd (cc)
    of_rest more None h true is g = absurd (cc)
    of_rest more None h false is g = rw (more h, is) refl

-- the last rack of a station in two lists is that of the second if that has one, and else of the first
latest_in : (s : ℕ) (xs ys : List RackView) (r : RackView) → latest s (xs ++ ys) ≡ Some r
    → (latest s ys ≡ Some r) ⊎ (latest s xs ≡ Some r)
latest_in s [] ys r e = inl e
latest_in s (x ∷ xs) ys r e =
    by_rest (λ g. latest_in s xs ys r g) (latest s (xs ++ ys)) refl (x.station == s) refl e
  where
    by_rest : (latest s (xs ++ ys) ≡ Some r → (latest s ys ≡ Some r) ⊎ (latest s xs ≡ Some r)) → (o : Option RackView)
        → latest s (xs ++ ys) ≡ o → (b : Bool) → (x.station == s) ≡ b → or_this o b x ≡ Some r
        → (latest s ys ≡ Some r) ⊎ (latest s (x ∷ xs) ≡ Some r)
    by_rest more (Some later) g b is e = ⊎_elim
        (λ (h : latest s ys ≡ Some r). inl h)
        (λ (h : latest s xs ≡ Some r). inr (ap (λ o. or_this o (x.station == s) x) h))
        (more (g ∙ e))
    by_rest more None g true is e = inr (rw (latest_none s xs ys g, is) e)
    by_rest more None g false is e = absurd (cc)

-- ---- what was read was published
-- this holds of a rack, and it is one of the station
abbrev Holds : (RackView → Type 0) → RackView → ℕ → Type 0
Holds P r s = P r × (r.station ≡ s)

-- a rack of a station that a seat has read is one of those that were published, where the last of these is at the
-- horizon
read_is_published : (P : RackView → Type 0) (net : Net) (s : ℕ) (published read before : List RackView) (r : RackView)
    → ((q : RackView) → P q → q.net ≡ net) → AreOfOneHistory published read → IsAt net.horizon published s
    → AllByRecursion P published → IsPrefix before read → latest s before ≡ Some r → Holds P r s
read_is_published P net s published read before r own up at all begins e =
    let whole : IsPrefix before up.all = prefix_trans before read up.all begins up.begins in
    ⊎_elim
    (λ (l : length before < length published + 1).
    let p : IsPrefix before published = prefix_shorter before published up.all whole up.told (omega (arith, l)) in
    latest-all P s before r (all_left P before p.0 (subst (AllByRecursion P) (sym p.1) all)) e)
    (λ (l : length published + 1 ≤ length before).
    let p : IsPrefix published before = prefix_shorter published before up.all up.told whole (omega (arith, l)) in
    ⊎_elim
    (λ (h : latest s p.0 ≡ Some r).
    let legal : AreLegal before = legal_left before whole.0 (subst AreLegal (sym whole.1) up.legal) in
    let after = comes_after s published p.0 at.0 r (subst AreLegal (sym p.1) legal) at.1 h in
    let later : at.0.front < r.front = after.0.later after.1 in
    let most : r.front ≤ r.net.horizon = after.0.within after.1 in
    let same = ap (λ (n : Net). n.horizon) (after.0.net ∙ own at.0 (latest-all P s published at.0 all at.1).0) in
    absurd (omega (arith, later, most, at.2, same)))
    (λ (h : latest s published ≡ Some r). latest-all P s published r all h)
    (latest_in s published p.0 r (subst (λ xs. latest s xs ≡ Some r) (sym p.1) e)))
    (cases_lt (length before) (length published + 1))

-- ---- true looks
-- a glance of a rack of the journal is true
true_glance : (net : Net) (events : List Event) (s : ℕ) (who : List ℕ) (r : RackView) (g : Glance)
    → IsRackOf net events r → r.station ≡ s → IsGlance r who g → IsTrueGlance net events s who g
true_glance net events s who r g of station is = record {
  clones = r.clones;
  at = subst (λ f. AreAtFront net events f r.clones) (sym is.front) of.at;
  many = is.clones;
  found = subst (λ f. FindsClone net r.clones s f who g.found) (sym is.front)
      (subst (λ t. FindsClone net r.clones t r.front who g.found) station
      (subst (λ (n : Net). FindsClone n r.clones r.station r.front who g.found) of.net_is is.found));
}

-- a look that was read at a seat of one history with what was published up to the horizon
pub true_look : (net : Net) (h : HelmView) (w : WorldView) (events : List Event) (published read : List RackView)
    (l : Looked) → h.net ≡ net → w.net ≡ net → w.front ≡ w.net.horizon → IsPrefix h.helm events
    → AreShownOf h w published → AreOfOneHistory published read → IsReadLook net read l → IsTrueLook net events l
true_look net h w events published read l of world last begins shown up r = record {
  unknown = r.unknown;
  known = known_true l.glance r.known;
}
  where
    of_journal : AllByRecursion (IsRackOf net events) published
    of_journal = all_weaker (IsRackOf h.net h.helm) (IsRackOf net events) published
        (λ q k. subst (λ (n : Net). IsRackOf n events q) of (rack_later h.net h.helm events q begins k)) shown.racks

    known_true : (o : Option Glance)
        → IfSome o (λ g. (s : ℕ) × (station_named l.station net ≡ Some s) × (s ≤ length net.sites)
        × WasRead read s l.who g)
        → IfSome o (λ g. (s : ℕ) × (station_named l.station net ≡ Some s) × IsTrueGlance net events s l.who g)
    known_true None k = tt
    known_true (Some g) k =
        let s : ℕ = k.0 in
        let low : 1 ≤ s = station_named-low l.station net s k.1 in
        let at = shown.last last s low (subst (λ (n : Net). s ≤ length n.sites) (sym world) k.2) in
        let front : w.front ≡ net.horizon = last ∙ ap (λ (n : Net). n.horizon) world in
        let at_end : IsAt net.horizon published s = (at.0, at.1, at.2 ∙ front) in
        let held = read_is_published (IsRackOf net events) net s published read k.3.before k.3.rack
        (λ q h. h.net_is) up at_end of_journal k.3.begins k.3.last in
        (s, k.1, true_glance net events s l.who k.3.rack g held.0 held.1 k.3.glance)
