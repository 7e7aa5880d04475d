-- Link clocks never fall, reach the horizon in a bounded number of rounds, and make rounds.
use Rattle.std.proofs.Common.{◌≡◌, ℕ, zero, suc, ◌+◌, ◌-◌, ◌*◌, ◌/◌, ◌<◌, ◌≤◌, ◌==◌, min, List, [], ◌∷◌, inl, inr, cond}
use Rattle.std.proofs.Common.{refl, sym, ap, ◌∙◌, subst, arith, Bool, true, false, eq-eqb, ◌⊎◌}
use Rattle.std.proofs.Math.Nat.{suc-mul, add-mul, lt-div-mul-add}
use Rattle.std.proofs.lemmas.Bool.{cases_eq, cases_lt, ne_eqb}
use Rattle.run_laws.specs.Queue.{In}
use Rattle.sim_base.specs.Clones.{Clone}
use Rattle.run_laws.specs.Simulation.{Simulation}
use Rattle.run_laws.specs.Handlers.{IsStationOf}
use Rattle.link_laws.specs.Cuts.{IsRoundOf}
use Rattle.link_laws.specs.Clocks.{Delays, least_with, inbound, clock, AreDone, AreRounds, KeepsToLinks}
use Rattle.link_laws.specs.RoundLaws.{IsLinkTime, IsLeastLinkTime}

-- ---- least_with

-- it is within the bound
least_with-within : (t : ℕ) (ds : List ℕ) (b : ℕ) → least_with t ds b ≤ b
least_with-within t [] b = omega arith
least_with-within t (d ∷ ds) b = let h = least_with-within t ds b in omega (arith, h)

-- and within the time plus each delay
least_with-each : (t : ℕ) (ds : List ℕ) (b d : ℕ) → In d ds → least_with t ds b ≤ t + d
least_with-each t [] b d i = absurd i
least_with-each t (e ∷ ds) b d (inl k) = omega (arith, k)
least_with-each t (e ∷ ds) b d (inr k) = let h = least_with-each t ds b d k in omega (arith, h)

-- a lower bound of each is one of it
least_with-from : (low t : ℕ) (ds : List ℕ) (b : ℕ) → low ≤ b → ((d : ℕ) → In d ds → low ≤ t + d) →
    low ≤ least_with t ds b
least_with-from low t [] b l f = l
least_with-from low t (d ∷ ds) b l f =
    let h = least_with-from low t ds b l (λ e i. f e (inr i)) in
    let k : low ≤ t + d = f d (inl refl) in
    omega (arith, h, k)

-- it rises with the time and the bound
least_with-rises : (t u : ℕ) (ds : List ℕ) (b e : ℕ) → t ≤ u → b ≤ e → least_with t ds b ≤ least_with u ds e
least_with-rises t u [] b e l k = k
least_with-rises t u (d ∷ ds) b e l k = let h = least_with-rises t u ds b e l k in omega (arith, h, l)

-- ---- inbound

module _ (delays : Delays) (stations horizon : ℕ) where
  -- a property of both results of a test
  of_both : (P : ℕ → Type 0) (b : Bool) (x y : ℕ) → P x → P y → P (cond b x y)
  of_both P true x y h k = h
  of_both P false x y h k = k

  -- two results of one test
  cond-rises : (b : Bool) (x y u v : ℕ) → x ≤ u → y ≤ v → cond b x y ≤ cond b u v
  cond-rises true x y u v h k = h
  cond-rises false x y u v h k = k

  -- it is within the horizon
  inbound-within : (time : ℕ → ℕ) (s n : ℕ) → inbound delays stations horizon time s n ≤ horizon
  inbound-within time s zero = omega arith
  inbound-within time s (suc n) =
      let h = inbound-within time s n in
      let k = least_with-within (time (suc n)) (delays (suc n) s) (inbound delays stations horizon time s n) in
      of_both (λ x. x ≤ horizon) (suc n == s) (inbound delays stations horizon time s n)
      (least_with (time (suc n)) (delays (suc n) s) (inbound delays stations horizon time s n)) h (omega (arith, h, k))

  -- and within each sender's time plus the delay of a link
  inbound-each : (time : ℕ → ℕ) (s n x d : ℕ) → IsStationOf n x → (x ≡ s → ⊥) → In d (delays x s) →
      inbound delays stations horizon time s n ≤ time x + d
  inbound-each time s zero x d is not i = absurd (let a = is.0 in let b = is.1 in omega (arith, a, b))
  inbound-each time s (suc n) x d is not i = elim (cases_eq x (suc n)) [
    | inl e ↦
        let k : In d (delays (suc n) s) = subst (λ y. In d (delays y s)) e i in
        let h = least_with-each (time (suc n)) (delays (suc n) s) (inbound delays stations horizon time s n) d k in
        let t = ap time e in
        subst (λ b. cond b (inbound delays stations horizon time s n)
        (least_with (time (suc n)) (delays (suc n) s) (inbound delays stations horizon time s n)) ≤ time x + d)
        (sym (ne_eqb (suc n) s (λ f. not (e ∙ f)))) (omega (arith, h, t))
    | inr m ↦
        let a = is.0 in
        let b = is.1 in
        let h = inbound-each time s n x d (a, omega (arith, b, m)) not i in
        let k = least_with-within (time (suc n)) (delays (suc n) s) (inbound delays stations horizon time s n) in
        of_both (λ y. y ≤ time x + d) (suc n == s) (inbound delays stations horizon time s n)
        (least_with (time (suc n)) (delays (suc n) s) (inbound delays stations horizon time s n)) h
        (omega (arith, h, k))
  ]

  -- a lower bound of the horizon and of each of those is one of it
  inbound-from : (low : ℕ) (time : ℕ → ℕ) (s n : ℕ) → low ≤ horizon →
      ((x d : ℕ) → In d (delays x s) → low ≤ time x + d) → low ≤ inbound delays stations horizon time s n
  inbound-from low time s zero l f = l
  inbound-from low time s (suc n) l f =
      let h = inbound-from low time s n l f in
      of_both (λ y. low ≤ y) (suc n == s) (inbound delays stations horizon time s n)
      (least_with (time (suc n)) (delays (suc n) s) (inbound delays stations horizon time s n)) h
      (least_with-from low (time (suc n)) (delays (suc n) s) (inbound delays stations horizon time s n) h
      (λ d i. f (suc n) d i))

  -- it rises with the senders' times
  inbound-rises : (time later : ℕ → ℕ) (s n : ℕ) → ((x : ℕ) → time x ≤ later x) →
      inbound delays stations horizon time s n ≤ inbound delays stations horizon later s n
  inbound-rises time later s zero f = omega arith
  inbound-rises time later s (suc n) f =
      let h = inbound-rises time later s n f in
      cond-rises (suc n == s) (inbound delays stations horizon time s n)
      (least_with (time (suc n)) (delays (suc n) s) (inbound delays stations horizon time s n))
      (inbound delays stations horizon later s n)
      (least_with (later (suc n)) (delays (suc n) s) (inbound delays stations horizon later s n)) h
      (least_with-rises (time (suc n)) (later (suc n)) (delays (suc n) s) (inbound delays stations horizon time s n)
      (inbound delays stations horizon later s n) (f (suc n)) h)

  -- the horizon, or the time of a link from one of n stations
  abbrev IsOneOf : (ℕ → ℕ) → ℕ → ℕ → ℕ → Type 0
  IsOneOf time s n t = (t ≡ horizon) ⊎ IsLinkTime delays n time s t

  -- the least of a bound and, for each delay, a time plus the delay is one of them
  least_with-one : (t : ℕ) (ds : List ℕ) (b : ℕ) →
      (least_with t ds b ≡ b) ⊎ ((d : ℕ) × In d ds × (least_with t ds b ≡ t + d))
  least_with-one t [] b = inl refl
  least_with-one t (d ∷ ds) b = elim (cases_lt (t + d) (least_with t ds b)) [
    | inl l ↦ inr (d, inl refl, (let e : min (t + d) (least_with t ds b) ≡ t + d = omega (arith, l) in e))
    | inr l ↦
        let e : min (t + d) (least_with t ds b) ≡ least_with t ds b = omega (arith, l) in
        elim (least_with-one t ds b) [
          | inl h ↦ inl (e ∙ h)
          | inr h ↦ inr (h.0, inr h.1, e ∙ h.2)
        ]
  ]

  -- how far a station may go is one of those
  inbound-one : (time : ℕ → ℕ) (s n : ℕ) → IsOneOf time s n (inbound delays stations horizon time s n)
  inbound-one time s zero = inl refl
  inbound-one time s (suc n) =
      let more : (t : ℕ) → IsOneOf time s n t → IsOneOf time s (suc n) t = λ t h. elim h [
        | inl e ↦ inl e
        | inr e ↦ let a = e.is_station.0 in let b = e.is_station.1 in inr (record {
          sender = e.sender;
          is_station = (a, omega (arith, b));
          other = e.other;
          delay = e.delay;
          is_delay = e.is_delay;
          is = e.is;
        })
      ] in
      let old : ℕ = inbound delays stations horizon time s n in
      let new : ℕ = least_with (time (suc n)) (delays (suc n) s) (inbound delays stations horizon time s n) in
      elim (cases_eq (suc n) s) [
        | inl e ↦ subst (λ b. IsOneOf time s (suc n) (cond b old new)) (sym (eq-eqb (suc n) s e))
            (more old (inbound-one time s n))
        | inr m ↦ subst (λ b. IsOneOf time s (suc n) (cond b old new)) (sym (ne_eqb (suc n) s m))
            (elim (least_with-one (time (suc n)) (delays (suc n) s) old) [
              | inl h ↦ subst (IsOneOf time s (suc n)) (sym h) (more old (inbound-one time s n))
              | inr h ↦ inr (record {
                sender = suc n;
                is_station = (omega arith, omega arith);
                other = m;
                delay = h.0;
                is_delay = h.1;
                is = h.2;
              })
            ])
      ]

  -- ---- clock

  -- the next clock is the horizon, or a sender's clock plus the delay of a link
  clock-one : (k s : ℕ) → IsOneOf (clock delays stations horizon k) s stations (clock delays stations horizon (suc k) s)
  unfolding clock
  clock-one k s = inbound-one (clock delays stations horizon k) s stations

  -- a clock never falls
  pub clock-rises : (k s : ℕ) → clock delays stations horizon k s ≤ clock delays stations horizon (suc k) s
  unfolding clock
  clock-rises zero s = omega arith
  clock-rises (suc k) s = inbound-rises (clock delays stations horizon k) (clock delays stations horizon (suc k)) s
      stations (clock-rises k)

  -- it never passes the horizon
  pub clock-within : (k s : ℕ) → clock delays stations horizon k s ≤ horizon
  unfolding clock
  clock-within zero s = omega arith
  clock-within (suc k) s = inbound-within (clock delays stations horizon k) s stations

  -- the next clock is within each sender's clock plus the delay of a link
  pub clock-each : (k s x d : ℕ) → IsStationOf stations x → (x ≡ s → ⊥) → In d (delays x s) →
      clock delays stations horizon (suc k) s ≤ clock delays stations horizon k x + d
  unfolding clock
  clock-each k s x d is not i = inbound-each (clock delays stations horizon k) s stations x d is not i

  -- so the next clock is the least of the horizon and those
  pub clock-least : (k s : ℕ) → IsLeastLinkTime delays stations (clock delays stations horizon k) s horizon
      (clock delays stations horizon (suc k) s)
  clock-least k s = record {
    within = clock-within (suc k) s;
    each = λ t l. let h = clock-each k s l.sender l.delay l.is_station l.other l.is_delay in let e = l.is in
        omega (arith, h, e);
    one = clock-one k s;
  }

  -- a clock does not fall over several rounds
  clock-rises_by : (j k s : ℕ) → clock delays stations horizon k s ≤ clock delays stations horizon (j + k) s
  clock-rises_by zero k s = let e : 0 + k ≡ k = omega arith in
      subst (λ i. clock delays stations horizon k s ≤ clock delays stations horizon i s) (sym e) (omega arith)
  clock-rises_by (suc j) k s =
      let h = clock-rises_by j k s in
      let r = clock-rises (j + k) s in
      let e : suc (j + k) ≡ suc j + k = omega arith in
      subst (λ i. clock delays stations horizon k s ≤ clock delays stations horizon i s) e (omega (arith, h, r))

  -- once all clocks are at the horizon, they stay there
  pub done-stays : (j k : ℕ) → j ≤ k → AreDone delays stations horizon j → AreDone delays stations horizon k
  done-stays j k l done s is =
      let e : (k - j) + j ≡ k = omega (arith, l) in
      let h = subst (λ i. clock delays stations horizon j s ≤ clock delays stations horizon i s) e
      (clock-rises_by (k - j) j s) in
      let w = clock-within k s in
      let d = done s is in
      omega (arith, h, w, d)

  -- so the first number of rounds after which they are there is the number of rounds
  pub rounds-are : (k : ℕ) → AreDone delays stations horizon k →
      ((j : ℕ) → k ≡ suc j → ¬ (AreDone delays stations horizon j)) → AreRounds delays stations horizon k
  rounds-are k done first = record {
    done = done;
    least = λ j l all. first (k - 1) (omega (arith, l)) (done-stays j (k - 1) (omega (arith, l)) all);
  }

  module _ (low : ℕ) (delay_min : (x s d : ℕ) → In d (delays x s) → low ≤ d) where
    -- each round moves a clock by the least delay, or to the horizon
    clock-far : (k s : ℕ) → min horizon (k * low) ≤ clock delays stations horizon k s
    unfolding clock
    clock-far zero s = let e : 0 * low ≡ 0 = omega arith in omega (arith, e)
    clock-far (suc k) s = inbound-from (min horizon (suc k * low)) (clock delays stations horizon k) s stations
        (omega arith)
        (λ x d i.
        let h = clock-far k x in
        let l = delay_min x s d i in
        let m = suc-mul k low in
        omega (arith, h, l, m))

    -- so a clock is at the horizon once k times the least delay reaches it
    pub clock-done : (k s : ℕ) → horizon ≤ k * low → clock delays stations horizon k s ≡ horizon
    clock-done k s l =
        let h = clock-far k s in
        let w = clock-within k s in
        omega (arith, h, w)

    -- so horizon / low + 1 rounds are enough
    pub rounds-enough : 0 < low → AreDone delays stations horizon (horizon / low + 1)
    rounds-enough moves s is = clock-done (horizon / low + 1) s
        (let h = lt-div-mul-add {a = horizon} {b = low} moves in
        let m = add-mul (horizon / low) 1 low in
        let one : 1 * low ≡ low = omega arith in
        omega (arith, h, m, one))

    -- and the number of rounds is at most that
    pub rounds-at_most : (k : ℕ) → 0 < low → AreRounds delays stations horizon k → k ≤ horizon / low + 1
    rounds-at_most k moves r = elim (cases_lt (horizon / low + 1) k) [
      | inl l ↦ absurd (r.least (horizon / low + 1) l (rounds-enough moves))
      | inr l ↦ l
    ]

-- ---- IsRoundOf

-- the clocks after k rounds and those after one more make a round of any clones. A station's floor is its clock
pub clocks_make_rounds : {S M N : Type 0} {sim : Simulation S M N} {Good : ℕ → S → Type 0} (delays : Delays)
    (links : KeepsToLinks sim Good delays) (k : ℕ) (cs : List Clone) →
    IsRoundOf sim Good cs (clock delays sim.stations sim.horizon k) (clock delays sim.stations sim.horizon (suc k))
clocks_make_rounds {S} {M} {N} {sim} {Good} delays links k cs = record {
  floor = clock delays sim.stations sim.horizon k;
  is_round = record {
    later = λ s. clock-rises delays sim.stations sim.horizon k s;
    apart = λ x st m z good i other late.
        let d = links.far x st m z good i other in
        let far = d.2 in
        let h = clock-each delays sim.stations sim.horizon k (sim.to z) x d.0 (links.from x (sim.to z) d.0 d.1)
        (λ e. other (sym e)) d.1 in
        omega (arith, far, h, late);
  };
  idle = λ c l s. refl;
}
