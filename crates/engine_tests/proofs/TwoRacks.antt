-- The racks of an opening run: two. Then two of a later front.
use Rattle.std.proofs.Common.{◌≡◌, ◌==◌, ℕ, zero, suc, ◌+◌, ◌<◌, ◌≤◌, Bool, true, List, [], ◌∷◌, ◌++◌, Option, Some}
use Rattle.std.proofs.Common.{None, refl, sym, ◌∙◌, subst, arith, slice_get}
use Rattle.std.proofs.lemmas.Bool.Decides.{nat_tests}
use Rattle.sim_base.proofs.ListLaws.{all_push}
use Rattle.net_model.specs.Net.{Net}
use Rattle.phys_proc.specs.Racks.{RackView}
use Rattle.shelf.specs.Racks.{HasRack, MayBePublished, MayComeAfter, MayOpen, latest, or_this}
use Rattle.engine_tests.specs.Seen.{AreSeenUpTo, AreTwoAt, IsRackAt}
use Rattle.engine_tests.proofs.Seen.{seen_follows}

-- ---- slice_get

-- a property of two racks at their places
at_two : (P : ℕ → RackView → Type 0) (a b : RackView) → P 0 a → P 1 b
    → (i : ℕ) (r : RackView) → slice_get (a ∷ b ∷ []) i ≡ Some r → P i r
at_two P a b x y zero r e = let h : a ≡ r = cc in subst (P 0) h x
at_two P a b x y (suc zero) r e = let h : b ≡ r = cc in subst (P 1) h y
at_two P a b x y (suc (suc i)) r e = absurd (cc)

-- ---- MayOpen, AreSeenUpTo, HasRack

module _ (net : Net) (front : ℕ) (racks : List RackView) (two : AreTwoAt net front racks) where
  -- they may open a shelf
  pub two_open : MayOpen racks
  two_open = subst MayOpen (sym two.2) (record {
    each = at_two (λ i r. r.station ≡ i + 1) two.0 two.1 two.3.station two.4.station;
    net = λ i j q r f g. all j r g ∙ sym (all i q f);
  })
    where
      all : (i : ℕ) (r : RackView) → slice_get (two.0 ∷ two.1 ∷ []) i ≡ Some r → r.net ≡ net
      all = at_two (λ _ r. r.net ≡ net) two.0 two.1 two.3.net two.4.net

  -- they are seen up to the front
  pub two_seen : AreSeenUpTo net front racks
  two_seen = subst (AreSeenUpTo net front) (sym two.2)
      ((two.3.net, omega (arith, two.3.front)), ((two.4.net, omega (arith, two.4.front)), tt))

  -- the second station has a rack
  pub second_has : HasRack 2 racks
  second_has = subst (HasRack 2) (sym two.2) (by_first (two.0.station == 2) (
    two.1,
    by_second (two.1.station == 2)
        (grind (arith, nat_tests, two.4.station)),
  ))
    where
      by_second : (u : Bool) → u ≡ true → or_this None u two.1 ≡ Some two.1
      by_second u e = rw e refl

      by_first : (u : Bool) → (r : RackView) × (latest 2 (two.1 ∷ []) ≡ Some r)
          → (r : RackView) × (or_this (latest 2 (two.1 ∷ [])) u two.0 ≡ Some r)
      by_first u h = (h.0, subst (λ o. or_this o u two.0 ≡ Some h.0) (sym h.1) refl)

  -- the first station has a rack
  pub first_has : HasRack 1 racks
  first_has = subst (HasRack 1) (sym two.2) (by_rest (latest 1 (two.1 ∷ [])) (two.0.station == 1)
      (grind (arith, nat_tests, two.3.station)))
    where
      by_rest : (o : Option RackView) (u : Bool) → u ≡ true → (r : RackView) × (or_this o u two.0 ≡ Some r)
      by_rest (Some r) u e = (r, refl)
      by_rest None u e = (two.0, rw e refl)

  -- a rack of a later front may follow them
  pub later_follows : (later s : ℕ) (r : RackView) → IsRackAt net later s r → front < later → later ≤ net.horizon
      → MayBePublished racks r
  later_follows later s r is l w = seen_follows net front racks r two_seen is.net (omega (arith, l, is.front))
      (subst (λ (n : Net). r.front ≤ n.horizon) (sym is.net) (omega (arith, w, is.front)))

  -- the second station's rack may follow them and the first station's rack
  pub second_follows : (later : ℕ) (r q : RackView) → IsRackAt net later 1 q → IsRackAt net later 2 r → front < later
      → later ≤ net.horizon → MayBePublished (racks ++ q ∷ []) r
  second_follows later r q first second l w =
      all_push (λ (x : RackView). MayComeAfter r x) racks q (later_follows later 2 r second l w) (record {
        net = second.net ∙ sym first.net;
        later = λ same. absurd (omega (arith, same, first.station, second.station));
        within = λ same. absurd (omega (arith, same, first.station, second.station));
      })
