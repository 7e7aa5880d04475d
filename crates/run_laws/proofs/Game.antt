-- The small simulation of the examples meets the requirements of the laws.
use Rattle.std.proofs.Common.{◌≡◌, ℕ, ◌+◌, ◌-◌, ◌<◌, ◌≤◌, [], ◌∷◌, ◌⊎◌, nat_lt, inl, inr}
use Rattle.std.proofs.Common.{Bool, true, false, cond, ◌==◌, Some, None, refl, sym, ap, ◌∙◌, arith}
use Rattle.std.specs.declared.cmp.Ordering.TheVariants.{Equal}
use Rattle.std.specs.List.{AllByRecursion}
use Rattle.std.specs.Ordering.{nat_cmp, ordering_then}
use Rattle.std.proofs.lemmas.Bool.{cases_eq, ne_eqb}
use Rattle.sim_base.proofs.OrderEqual.{three_same, ordering_then-le}
use Rattle.sim_base.proofs.OrderLaws.{key_total}
use Rattle.run_laws.specs.Queue.{In}
use Rattle.run_laws.specs.Handlers.{IsTimed, HandlesLawfully, SendsToStations}
use Rattle.run_laws.specs.Examples.{Ball, ball, ball_cmp, bounces, game, AnyState}

-- ---- Ball, ball_cmp

-- a ball is its three numbers
ball_parts : (a b c d e f : ℕ) → a ≡ d → b ≡ e → c ≡ f → ball a b c ≡ ball d e f
ball_parts a b c d e f p q r = cc

-- balls that tie are one
ball_same : (x y : Ball) → ball_cmp x y ≡ Equal → x ≡ y
ball_same x y e =
    let h = three_same x.time x.number x.to y.time y.number y.to e in
    ball_parts x.time x.number x.to y.time y.number y.to h.0 h.1 h.2

-- balls are ordered by time first
ball_order : IsTimed ball_cmp (λ b. b.time)
ball_order = record {
  order = record {
    total = key_total (λ (b : Ball). b.time) (λ b. b.number) (λ b. b.to);
    same = ball_same;
  };
  timed = λ x y e. ordering_then-le x.time y.time (ordering_then (nat_cmp x.number y.number) (nat_cmp x.to y.to)) e;
}

-- ---- bounces

-- one of two balls, if any
one_of_two : (x y z : Ball) (b c : Bool) → In z (cond b (x ∷ []) (cond c (y ∷ []) [])) → (z ≡ x) ⊎ (z ≡ y)
one_of_two x y z true c (inl e) = inl e
one_of_two x y z true c (inr n) = absurd n
one_of_two x y z false true (inl e) = inr e
one_of_two x y z false true (inr n) = absurd n
one_of_two x y z false false i = absurd i

-- the sends are the ball, thrown back, or its bounce
in_bounces : (s : ℕ) (m z : Ball) → In z (bounces s m) →
    (z ≡ ball (m.time + 3) 0 (3 - s)) ⊎ (z ≡ ball (m.time + 1) (m.number + 10) s)
in_bounces s m z i = one_of_two (ball (m.time + 3) 0 (3 - s)) (ball (m.time + 1) (m.number + 10) s) z (m.number == 0)
    (nat_lt m.number 10) i

-- the sends come later
all_later : (t : ℕ) (x y : Ball) (b c : Bool) → t < x.time → t < y.time →
    AllByRecursion (λ z. t < z.time) (cond b (x ∷ []) (cond c (y ∷ []) []))
all_later t x y true c h k = (h, tt)
all_later t x y false true h k = (k, tt)
all_later t x y false false h k = tt

-- ---- game

-- balls are thrown back later, and to the other station by the lookahead
pub game_is_lawful : HandlesLawfully game AnyState
game_is_lawful = record {
  order = ball_order;
  opens = λ s. tt;
  keeps = λ s st m g. tt;
  later = λ s st m g. all_later m.time (ball (m.time + 3) 0 (3 - s)) (ball (m.time + 1) (m.number + 10) s)
      (m.number == 0) (nat_lt m.number 10) (omega arith) (omega arith);
  far = λ s st m z g i n. elim (in_bounces s m z i) [
    | inl e ↦ let t = ap (λ b. b.time) e in omega (arith, t)
    | inr e ↦ absurd (n (ap (λ b. b.to) e))
  ];
}

-- the one ball that is there at the start
first_ball : (s : ℕ) (m : Ball) (b : Bool) → (s == 1) ≡ b → cond b (Some (ball 2 0 1)) None ≡ Some m →
    (s ≡ 1) × (m ≡ ball 2 0 1)
first_ball s m true e f = elim (cases_eq s 1) [
  | inl is ↦ (is, cc)
  | inr n ↦ let h = sym (ne_eqb s 1 n) ∙ e in let k : ⊥ = cc in absurd k
]
first_ball s m false e f = let h : ⊥ = cc in absurd h

-- and each is for a station
pub game_sends_to_stations : SendsToStations game AnyState
game_sends_to_stations = record {
  first = λ s m is e. let h = first_ball s m (s == 1) refl e in ap (λ b. b.to) h.1 ∙ sym h.0;
  set_message = λ k p. refl;
  sends = λ s st m z is g i.
      let above : 0 < s = is.0 in
      let most : s ≤ 2 = is.1 in
      elim (in_bounces s m z i) [
        | inl e ↦ let t = ap (λ b. b.to) e in (omega (arith, t, above, most), omega (arith, t, above, most))
        | inr e ↦ let t = ap (λ b. b.to) e in (omega (arith, t, above, most), omega (arith, t, above, most))
      ];
}
