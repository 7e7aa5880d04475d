-- The pending messages that the clones take after a new clone joined an old one.
use Rattle.std.proofs.Common.{◌≡◌, ℕ, List, [], ◌∷◌, Option, Some, None, Bool, true, false}
use Rattle.std.proofs.Common.{◌&&◌, ◌||◌, cond, nat_lt, inl, inr, refl, sym, ap, ◌∙◌, eq-eqb}
use Rattle.std.specs.Prelude.{is_some, if◌then◌else◌}
use Rattle.std.specs.List.{AllByRecursion}
use Rattle.std.proofs.lemmas.Bool.{cases_eq, eqb-true, ne_eqb, and_parts, or_right}
use Rattle.sim_base.specs.Pending.{spread_marks}
use Rattle.sim_base.specs.Marked.{JoinsMarks, MeetsMarks}
use Rattle.run_laws.specs.Simulation.{Simulation}
use Rattle.run_laws.specs.Copies.{AreOf, part, messages_taken, takes_as, origin_of}
use Rattle.run_laws.proofs.Cuts.{and-second}

-- ---- ||

-- if the second of two tests does not pass, the first alone decides
or-second : (a b : Bool) → b ≡ false → (a || b) ≡ a
or-second true b h = refl
or-second false b h = h

-- ---- spread_marks

module _ {K : Type 0} {has : K → ℕ → Bool} {join : K → K → K} {meet : K → K → Option K} (joins : JoinsMarks has join)
    (meets : MeetsMarks has meet)
    (common : (a b k : K) → meet a b ≡ Some k → (c : ℕ) × (has k c ≡ true))
    (old new : ℕ) (by more : K) (is_by : AreOf has by old) (is_more : AreOf has more new) where
  -- marks that meet those of the old clone have it
  has_old : (k u : K) → meet k by ≡ Some u → has k old ≡ true
  has_old k u e =
      let d = common k by u e in
      let h = and_parts (has k d.0) (has by d.0) (sym (meets.some k by u e d.0) ∙ d.1) in
      ap (has k) (eqb-true old d.0 (sym (is_by d.0) ∙ h.1)) ∙ h.0

  -- a message is marked with a clone if it was marked with the clone's origin
  spread_mark : (r : Option K) (k : K) (c : ℕ) → meet k by ≡ r → has k new ≡ false →
      has (if is_some r then join k more else k) c ≡ has k (origin_of old new c)
  spread_mark None k c e f = elim (cases_eq c new) [
    | inl p ↦ ap (has k) p ∙ f ∙ sym (sym (and-second (has k old) (has by old) (is_by old ∙ eq-eqb old old refl))
        ∙ meets.none k by e old) ∙ sym (ap (λ b. has k (cond b old c)) (eq-eqb c new p))
    | inr n ↦ sym (ap (λ b. has k (cond b old c)) (ne_eqb c new n))
  ]
  spread_mark (Some u) k c e f = joins.joined k more c ∙ elim (cases_eq c new) [
    | inl p ↦ or_right (has k c) (has more c) (is_more c ∙ eq-eqb new c (sym p)) ∙ sym (has_old k u e)
        ∙ sym (ap (λ b. has k (cond b old c)) (eq-eqb c new p))
    | inr n ↦ or-second (has k c) (has more c) (is_more c ∙ ne_eqb new c (λ p. n (sym p)))
        ∙ sym (ap (λ b. has k (cond b old c)) (ne_eqb c new n))
  ]

  module _ {S M N : Type 0} (sim : Simulation S M N) (ends : ℕ → ℕ) where
    -- each clone takes the messages that its origin took
    pub part-spread_marks : (c : ℕ) (q : List (M × K)) → AllByRecursion (λ x. has x.1 new ≡ false) q →
        part (takes_as sim has ends old new) c (spread_marks join meet by more q) ≡ messages_taken sim has ends
        (origin_of old new c) q
    part-spread_marks c [] f = refl
    part-spread_marks c (x ∷ q) f =
        let d = origin_of old new c in
        ap (λ l. cond (has (if is_some (meet x.1 by) then join x.1 more else x.1) c && nat_lt (sim.time x.0) (ends d))
        (x.0 ∷ l) l) (part-spread_marks c q f.1)
        ∙ ap (λ b. cond (b && nat_lt (sim.time x.0) (ends d)) (x.0 ∷ messages_taken sim has ends d q)
        (messages_taken sim has ends d q))
        (spread_mark (meet x.1 by) x.1 c refl f.0)
