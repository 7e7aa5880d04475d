-- The first log of a run that is beyond the limit, as a search through the windows finds it.
use Rattle.std.proofs.Common.{◌≡◌, inl, inr, ℕ, zero, suc, ◌+◌, ◌-◌, ◌<◌, ◌≤◌, refl, sym}
use Rattle.std.proofs.Common.{ap, ◌∙◌, subst, arith, List, length, Some, None, Bool, lt-ltb, le-ltb}
use Rattle.std.specs.Prelude.{if◌then◌else◌}
use Rattle.std.proofs.lemmas.Bool.{cases_lt}
use Rattle.std.specs.Option.{option_or}
use Rattle.sim_base.specs.Clones.{Clone, clone_at}
use Rattle.net_model.specs.Net.{Net}
use Rattle.net_model.specs.Rules.{IsNet}
use Rattle.run_laws.specs.Fronts.{least}
use Rattle.run_laws.proofs.NextFronts.{next_front-rises, window_end-within}
use Rattle.stations.specs.Runs.{IsBeyond, log_at, next_front, simulation}
use Rattle.stations.proofs.GoodLaws.{lawful-stations}
use Rattle.world_core.specs.Overs.{IsFirstBeyond, NoneBeyond}
use Rattle.study_run.specs.Overs.{HasCome, first_overrun, first_overrun_of, overrun_at, overrun_in, overrun_of}
use Rattle.study_run.proofs.FirstBelow.{below_none, below_some, both_none, found_below, none_below}

-- ---- overrun_of, overrun_in, overrun_at

module _ (net : Net) (cs : List Clone) (front : ℕ) where
  -- a log beyond the limit is found
  long_is : (s c : ℕ) → IsBeyond net s front (clone_at cs c) → overrun_of net cs front s c ≡ Some (s, c)
  long_is s c long = ap (λ (b : Bool). if b then Some (s, c) else None)
      (lt-ltb net.limit (length (log_at net (clone_at cs c) s front)) long)

  -- a log within it is not
  short_is : (s c : ℕ) → ¬ (IsBeyond net s front (clone_at cs c)) → overrun_of net cs front s c ≡ None
  short_is s c h = elim (cases_lt net.limit (length (log_at net (clone_at cs c) s front))) [
    | inl long ↦ absurd (h long)
    | inr short ↦ ap (λ (b : Bool). if b then Some (s, c) else None)
        (le-ltb net.limit (length (log_at net (clone_at cs c) s front)) short)
  ]

  -- what is found is beyond the limit
  over_is : (s c : ℕ) (p : ℕ × ℕ) → overrun_of net cs front s c ≡ Some p → IsBeyond net s front (clone_at cs c)
      × (p ≡ (s, c))
  over_is s c p h = elim (cases_lt net.limit (length (log_at net (clone_at cs c) s front))) [
    | inl long ↦ (long, (let e : Some (s, c) ≡ Some p = sym (long_is s c long) ∙ h in cc))
    | inr short ↦
        let none : overrun_of net cs front s c ≡ None =
        ap (λ (b : Bool). if b then Some (s, c) else None)
        (le-ltb net.limit (length (log_at net (clone_at cs c) s front)) short) in
        absurd (let k = sym none ∙ h in cc)
  ]

  -- none is found if none is beyond the limit
  none_over : NoneBeyond net cs front → overrun_at net cs front ≡ None
  none_over h = below_none (λ i. overrun_in net cs front (i + 1)) (length net.sites)
      (λ i l. below_none (overrun_of net cs front (i + 1)) (length cs)
      (λ c k. short_is (i + 1) c (h c k (i + 1) (omega arith, omega (arith, l)))))

  -- if none is found at a station, no clone's log there is beyond the limit
  none_here : (s c : ℕ) → overrun_in net cs front s ≡ None → c < length cs → ¬ (IsBeyond net s front (clone_at cs c))
  none_here s c h there long =
      let none = none_below (overrun_of net cs front s) (length cs) c h there in
      let some = long_is s c long in
      absurd (let k = sym none ∙ some in cc)

  -- the converse
  pub none_beyond : overrun_at net cs front ≡ None → NoneBeyond net cs front
  none_beyond h c there s is long =
      let low : 1 ≤ s = is.0 in
      let high : s ≤ length net.sites = is.1 in
      let e : s - 1 + 1 ≡ s = omega (arith, low) in
      let here = none_below (λ i. overrun_in net cs front (i + 1)) (length net.sites) (s - 1) h
      (omega (arith, low, high)) in
      none_here s c (ap (overrun_in net cs front) (sym e) ∙ here) there long

  -- the least station with a log beyond the limit, and the least clone there, are found
  first_is : (s c : ℕ) → IsFirstBeyond net cs front s c → overrun_at net cs front ≡ Some (s, c)
  first_is zero c h = absurd (let l = h.is_station.low in omega (arith, l))
  first_is (suc i) c h =
      let e : i + 1 ≡ suc i = omega arith in
      let high = h.is_station.high in
      let here : overrun_in net cs front (suc i) ≡ Some (suc i, c) =
      below_some (overrun_of net cs front (suc i)) (length cs) c (suc i, c) h.clone (long_is (suc i) c h.beyond)
      (λ j l. short_is (suc i) j (h.least_clone j l)) in
      below_some (λ i. overrun_in net cs front (i + 1)) (length net.sites) i (suc i, c) (omega (arith, high))
      (ap (overrun_in net cs front) e ∙ here)
      (λ j l. below_none (overrun_of net cs front (j + 1)) (length cs)
      (λ k there. short_is (j + 1) k (h.least_station (j + 1) (omega arith) (omega (arith, l)) k there)))

  -- and what is found is the least
  pub is_first : (s c : ℕ) → overrun_at net cs front ≡ Some (s, c) → IsFirstBeyond net cs front s c
  is_first s c h =
      let at = found_below (λ i. overrun_in net cs front (i + 1)) (length net.sites) (s, c) h in
      let of = found_below (overrun_of net cs front (at.place + 1)) (length cs) (s, c) at.is_there in
      let here = over_is (at.place + 1) of.place (s, c) of.is_there in
      let same_s : s ≡ at.place + 1 = ap (λ p. p.0) here.1 in
      let same_c : c ≡ of.place = ap (λ p. p.1) here.1 in
      let below = at.below in
      let first : IsFirstBeyond net cs front (at.place + 1) of.place = record {
        is_station = record { low = omega arith; high = omega (arith, below) };
        clone = of.below;
        beyond = here.0;
        least_station = λ t low less k there long.
            let e : t - 1 + 1 ≡ t = omega (arith, low) in
            none_here t k (ap (overrun_in net cs front) (sym e) ∙ at.none_before (t - 1) (omega (arith, low, less)))
            there long;
        least_clone = λ k less long.
            let none = of.none_before k less in
            let some = long_is (at.place + 1) k long in
            absurd (let e = sym none ∙ some in cc);
      } in
      subst (λ t. IsFirstBeyond net cs front t c) (sym same_s)
      (subst (λ k. IsFirstBeyond net cs front (at.place + 1) k) (sym same_c) first)

-- ---- first_overrun

module _ (net : Net) (cs : List Clone) where
  -- one more window
  pub window_more : (n front : ℕ) → front < net.horizon
      → first_overrun net cs (suc n) front ≡ option_or (overrun_at net cs (next_front net cs front))
      (first_overrun net cs n (next_front net cs front))
  unfolding first_overrun
  window_more n front l =
      ap (λ (b : Bool). if b then option_or (overrun_at net cs (next_front net cs front))
      (first_overrun net cs n (next_front net cs front)) else None) (lt-ltb front net.horizon l)

  -- there is no more window
  pub first_overrun-ended : (n front : ℕ) → net.horizon ≤ front → first_overrun net cs n front ≡ None
  unfolding first_overrun
  first_overrun-ended zero front h = refl
  first_overrun-ended (suc n) front h =
      ap (λ (b : Bool). if b then option_or (overrun_at net cs (next_front net cs front))
      (first_overrun net cs n (next_front net cs front)) else None) (le-ltb front net.horizon h)

  -- without windows nothing is found
  pub no_windows : (front s c : ℕ) → first_overrun net cs 0 front ≡ Some (s, c) → ⊥
  unfolding first_overrun
  no_windows front s c h = absurd (cc)

  module _ (valid : IsNet net) where
    -- below the horizon a window goes on
    pub rises : (front : ℕ) → front < net.horizon → front < next_front net cs front
    rises front l = let ahead = valid.lookahead_min in
        next_front-rises (lawful-stations net valid) cs front (omega (arith, ahead)) l

    -- from a front on, with enough windows
    within_from : (n front : ℕ) → net.horizon ≤ n + front → front < net.horizon → first_overrun net cs n front ≡ None
        → NoneBeyond net cs net.horizon
    within_from zero front far below h = absurd (omega (arith, far, below))
    within_from (suc n) front far below h =
        let f : ℕ = next_front net cs front in
        let p = both_none (overrun_at net cs f) (first_overrun net cs n f) (sym (window_more n front below) ∙ h) in
        let later : front < f = rises front below in
        let within : f ≤ net.horizon = window_end-within (simulation net) (least (simulation net) cs front) in
        elim (cases_lt f net.horizon) [
          | inl less ↦ within_from n f (omega (arith, far, later)) less p.1
          | inr most ↦ let is : f ≡ net.horizon = omega (arith, within, most) in
              subst (NoneBeyond net cs) is (none_beyond net cs f p.0)
        ]

    -- if nothing is found, no log is beyond the limit at the horizon
    pub within_horizon : first_overrun_of net cs ≡ None → NoneBeyond net cs net.horizon
    within_horizon h = let some = valid.horizon in within_from net.horizon 0 (omega arith) (omega (arith, some)) h

-- ---- a run from window to window

module _ (net : Net) (cs : List Clone) (front : ℕ) (below : front < net.horizon) where
  -- a window after which no log is beyond the limit
  pub comes_next : IsNet net → HasCome net cs front → NoneBeyond net cs (next_front net cs front)
      → HasCome net cs (next_front net cs front)
  comes_next valid come none = by come.left come.enough come.same
    where
      by : (n : ℕ) → net.horizon ≤ n + front → first_overrun net cs n front ≡ first_overrun_of net cs
          → HasCome net cs (next_front net cs front)
      by zero enough same = absurd (omega (arith, enough, below))
      by (suc n) enough same =
          let later = rises net cs valid front below in
          record {
            left = n;
            enough = omega (arith, enough, later);
            same = sym (window_more net cs n front below
                ∙ ap (λ o. option_or o (first_overrun net cs n (next_front net cs front)))
                (none_over net cs (next_front net cs front) none)) ∙ same;
          }

  -- a window after which one is
  pub over_here : (s c : ℕ) → HasCome net cs front → IsFirstBeyond net cs (next_front net cs front) s c
      → first_overrun_of net cs ≡ Some (s, c)
  over_here s c come first = by come.left come.enough come.same
    where
      by : (n : ℕ) → net.horizon ≤ n + front → first_overrun net cs n front ≡ first_overrun_of net cs
          → first_overrun_of net cs ≡ Some (s, c)
      by zero enough same = absurd (omega (arith, enough, below))
      by (suc n) enough same = sym same ∙ (window_more net cs n front below
          ∙ ap (λ o. option_or o (first_overrun net cs n (next_front net cs front)))
          (first_is net cs (next_front net cs front) s c first))

-- at the horizon
pub comes_last : (net : Net) (cs : List Clone) (front : ℕ) → net.horizon ≤ front → HasCome net cs front
    → first_overrun_of net cs ≡ None
comes_last net cs front h come = sym come.same ∙ first_overrun-ended net cs come.left front h
