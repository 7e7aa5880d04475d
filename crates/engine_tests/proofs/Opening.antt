-- The racks of an opening run: one.
use Rattle.std.proofs.Common.{◌≡◌, ◌==◌, ℕ, zero, suc, ◌+◌, Bool, true, [], ◌∷◌, Some, None, refl, sym}
use Rattle.std.proofs.Common.{◌∙◌, subst, arith, slice_get}
use Rattle.std.proofs.lemmas.Bool.Decides.{nat_tests}
use Rattle.net_model.specs.Net.{Net}
use Rattle.phys_proc.specs.Racks.{RackView}
use Rattle.shelf.specs.Racks.{HasRack, MayOpen, or_this}
use Rattle.engine_tests.specs.Seen.{AreSeenUpTo, IsRackAt}

-- ---- slice_get
-- a property of one rack at its place
at_one : (P : ℕ → RackView → Type 0) (a : RackView) → P 0 a
    → (i : ℕ) (r : RackView) → slice_get (a ∷ []) i ≡ Some r → P i r
at_one P a x zero r e = let h : a ≡ r = cc in subst (P 0) h x
at_one P a x (suc i) r e = absurd (cc)

-- ---- MayOpen, AreSeenUpTo, HasRack
module _ (net : Net) (front : ℕ) (a : RackView) (x : IsRackAt net front 1 a) where
  -- it may open a shelf
  pub one_opens : MayOpen (a ∷ [])
  one_opens = record {
    each = at_one (λ i r. r.station ≡ i + 1) a x.station;
    net = λ i j q r f g. all j r g ∙ sym (all i q f);
  }
    where
      all : (i : ℕ) (r : RackView) → slice_get (a ∷ []) i ≡ Some r → r.net ≡ net
      all = at_one (λ _ r. r.net ≡ net) a x.net

  -- the rack is seen up to the front
  pub one_seen : AreSeenUpTo net front (a ∷ [])
  one_seen = ((x.net, omega (arith, x.front)), tt)

  -- the rack is the first station's
  pub one_has : HasRack 1 (a ∷ [])
  one_has = (a, by_test (a.station == 1) (grind (arith, nat_tests, x.station)))
    where
      by_test : (u : Bool) → u ≡ true → or_this None u a ≡ Some a
      by_test u e = rw e refl
