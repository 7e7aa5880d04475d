-- The least due time: of a clone by its stations, after a decision, an end and a fork; of all clones by the copies.
use Rattle.std.proofs.Common.{◌≡◌, ◌⊎◌, ℕ, zero, suc, ◌<◌, ◌≤◌, List, [], ◌∷◌, ◌++◌, Option, Some, None}
use Rattle.std.proofs.Common.{Bool, true, false, cond, inl, inr, refl, sym, ap, ◌∙◌, arith, subst, length, nat_lt}
use Rattle.std.proofs.lemmas.Bool.{cases_eq}
use Rattle.sim_base.specs.Clones.{Clone, clone_at, clones_with_fork, fork_of, with_plan, with_end}
use Rattle.sim_base.specs.declared.decision.Planned.{Planned}
use Rattle.run_laws.specs.Queue.{insert, In}
use Rattle.run_laws.specs.Simulation.{Simulation}
use Rattle.run_laws.specs.Runs.{end_of, IsTimelyEnd, MayFork, all_due, due_at}
use Rattle.run_laws.specs.Fronts.{earlier, least_time, least_of, least, window_end, next_front}
use Rattle.run_laws.specs.Handlers.{IsStation, AreForStations, HandlesLawfully, SendsToStations, IsStationOf}
use Rattle.run_laws.specs.Handlers.{AllAreForStations}
use Rattle.run_laws.specs.Copies.{Copy, Stands}
use Rattle.run_laws.specs.FrontLaws.{time_before, IsLeastTime, least_to, IsTaken}
use Rattle.run_laws.proofs.Lists.{in_own, own_from, in_append, append_old}
use Rattle.run_laws.proofs.ForStations.{due_is_for_stations}
use Rattle.run_laws.proofs.Late.{due_sorted, decision_adds_due, end_drops_due}
use Rattle.run_laws.proofs.Stands.{clone_in}
use Rattle.run_laws.proofs.Places.{place_in}
use Rattle.run_laws.proofs.Forks.{all_due-fork}
use Rattle.run_laws.proofs.Leasts.{least-either, least-unique, least_time-is, least-insert, least-earlier_than}

-- ---- least_of

module _ {S M N : Type 0} (sim : Simulation S M N) where
  -- due at one of the stations 1 to n
  abbrev DueTo : Clone → ℕ → ℕ → M → Type 0
  DueTo c front zero m = ⊥
  DueTo c front (suc n) m = DueTo c front n m ⊎ In m (due_at sim c (suc n) front)

  -- the least time of the stations 1 to n is that of the messages due at one of them
  least_to-is : (c : Clone) (front n : ℕ) → IsLeastTime sim.time (DueTo c front n) (least_to sim c front n)
  least_to-is c front zero = λ m i. i
  least_to-is c front (suc n) = least-either sim.time (DueTo c front n) (λ m. In m (due_at sim c (suc n) front))
      (least_to sim c front n) (least_time sim.time (due_at sim c (suc n) front)) (least_to-is c front n)
      (least_time-is sim.time (due_at sim c (suc n) front))

  -- a message due at one of them is due in the clone
  is_due : (c : Clone) (front n : ℕ) (m : M) → DueTo c front n m → In m (all_due sim c front)
  is_due c front zero m h = absurd h
  is_due c front (suc n) m h = elim h [
    | inl k ↦ is_due c front n m k
    | inr i ↦ (in_own sim.to (suc n) (all_due sim c front) m i).0
  ]

  -- and so is each message due at one of them
  due_there : (c : Clone) (front n s : ℕ) (m : M) → IsStationOf n s → In m (due_at sim c s front) → DueTo c front n m
  due_there c front zero s m here i = let low : 0 < s = here.0 in let high : s ≤ 0 = here.1 in
      absurd (omega (arith, low, high))
  due_there c front (suc n) s m here i = elim (cases_eq s (suc n)) [
    | inl e ↦ inr (subst (λ r. In m (due_at sim c r front)) e i)
    | inr ne ↦ inl (due_there c front n s m
        (here.0, let high : s ≤ suc n = here.1 in let k : s ≤ n = omega (arith, ne, high) in k) i)
  ]

  -- of a fork
  pub least_of-fork : (c : Clone) (name : List ℕ) (front : ℕ) → c.end ≡ None →
      least_of sim (fork_of c name) front ≡ least_of sim c front
  least_of-fork c name front e = ap (least_time sim.time) (all_due-fork sim c name e front)

module _ {S M N : Type 0} {sim : Simulation S M N} {Good : ℕ → S → Type 0} (law : HandlesLawfully sim Good) where
  -- with a decision at the front or later
  pub least_of-with_plan : (c : Clone) (p : Planned) (front t : ℕ) → sim.time (sim.set_message (length c.plans) p) ≡ t →
      front ≤ t →
      least_of sim (with_plan c p) front ≡ cond (nat_lt t (end_of sim c)) (earlier (Some t) (least_of sim c front))
      (least_of sim c front)
  least_of-with_plan c p front t e l =
      let m : M = sim.set_message (length c.plans) p in
      let later : front ≤ sim.time m = subst (λ u. front ≤ u) (sym e) l in
      ap (least_time sim.time) (decision_adds_due law c p front later).due
      ∙ by m (all_due sim c front) (nat_lt (sim.time m) (end_of sim c))
      ∙ ap (λ u. cond (nat_lt u (end_of sim c)) (earlier (Some u) (least_of sim c front)) (least_of sim c front)) e
    where
      -- by whether the decision comes before the end
      by : (m : M) (q : List M) (b : Bool) →
          least_time sim.time (cond b (insert sim.order m q) q)
          ≡ cond b (earlier (Some (sim.time m)) (least_time sim.time q)) (least_time sim.time q)
      by m q true = least-insert law.order m q
      by m q false = refl

  -- with an end at the front or later
  pub least_of-with_end : (c : Clone) (at front : ℕ) → IsTimelyEnd sim c front at →
      least_of sim (with_end c at) front ≡ time_before at (least_of sim c front)
  least_of-with_end c at front end = ap (least_time sim.time) (end_drops_due law c at front end).due
      ∙ least-earlier_than law.order at (all_due sim c front) (due_sorted law c front)

module _ {S M N : Type 0} {sim : Simulation S M N} {Good : ℕ → S → Type 0} (law : HandlesLawfully sim Good)
    (stations : SendsToStations sim Good) where
  -- by the stations
  pub least_of-stations : (c : Clone) (front : ℕ) → AreForStations sim c.plans →
      least_of sim c front ≡ least_to sim c front sim.stations
  least_of-stations c front there = least-unique sim.time (λ m. In m (all_due sim c front))
      (DueTo sim c front sim.stations) (least_of sim c front) (least_to sim c front sim.stations)
      (λ m i. let h = due_is_for_stations law stations c front m there i in
      due_there sim c front sim.stations (sim.to m) m h
      (own_from sim.to (sim.to m) (all_due sim c front) m i refl))
      (is_due sim c front sim.stations)
      (least_time-is sim.time (all_due sim c front)) (least_to-is sim c front sim.stations)

-- ---- least

module _ {S M N : Type 0} (sim : Simulation S M N) (front : ℕ) where
  -- due in one of the clones
  abbrev DueIn : List Clone → M → Type 0
  DueIn cs m = (c : Clone) × In c cs × In m (all_due sim c front)

  -- the least due time of some clones is the least of the messages due in one of them
  pub least-is : (cs : List Clone) → IsLeastTime sim.time (DueIn cs) (least sim cs front)
  least-is [] = λ m h. h.1
  least-is (c ∷ cs) = least-of_same (least sim (c ∷ cs) front)
      (least-either sim.time (λ m. In m (all_due sim c front)) (DueIn cs) (least_of sim c front) (least sim cs front)
      (least_time-is sim.time (all_due sim c front)) (least-is cs))
    where
      -- a message due in the first clone, or in one of the others, is due in one of all
      to : (m : M) → In m (all_due sim c front) ⊎ DueIn cs m → DueIn (c ∷ cs) m
      to m (inl i) = (c, inl refl, i)
      to m (inr h) = (h.0, inr h.1, h.2)

      -- and the other way round
      from : (m : M) → DueIn (c ∷ cs) m → In m (all_due sim c front) ⊎ DueIn cs m
      from m h = elim h.1 [ inl e ↦ inl (subst (λ k. In m (all_due sim k front)) e h.2) | inr i ↦ inr (h.0, i, h.2) ]

      -- so the least time is the same
      least-of_same : (t : Option ℕ) → IsLeastTime sim.time (λ m. In m (all_due sim c front) ⊎ DueIn cs m) t →
          IsLeastTime sim.time (DueIn (c ∷ cs)) t
      least-of_same None a = λ m h. a m (from m h)
      least-of_same (Some t) a = ((a.0.0, to a.0.0 a.0.1, a.0.2), λ m h. a.1 m (from m h))

  -- with a fork
  least-forked : (cs : List Clone) (old : ℕ) (name : List ℕ) → MayFork cs old →
      least sim (clones_with_fork cs name old) front ≡ least sim cs front
  least-forked cs old name may =
      let k : Clone = fork_of (clone_at cs old) name in
      least-unique sim.time (DueIn (cs ++ k ∷ [])) (DueIn cs) (least sim (cs ++ k ∷ []) front) (least sim cs front)
      (λ m h. elim (in_append cs (k ∷ []) h.0 h.1) [
        | inl i ↦ (h.0, i, h.2)
        | inr i ↦ elim i [
          | inl e ↦ (
            clone_at cs old,
            clone_in cs old may.in_range,
            subst (In m)
                (ap (λ u. all_due sim u front) e ∙ all_due-fork sim (clone_at cs old) name may.going front) h.2,
          )
          | inr n ↦ absurd n
        ]
      ])
      (λ m h. (h.0, append_old cs (k ∷ []) h.0 h.1, h.2))
      (least-is (cs ++ k ∷ [])) (least-is cs)

  -- so the next front with a fork is the one without it
  pub next_front-forked : (cs : List Clone) (old : ℕ) (name : List ℕ) → MayFork cs old →
      next_front sim (clones_with_fork cs name old) front ≡ next_front sim cs front
  next_front-forked cs old name may = ap (window_end sim) (least-forked cs old name may)

-- ---- least, by the copies of all stations

module _ {S M N K : Type 0} {sim : Simulation S M N} {Good : ℕ → S → Type 0} (law : HandlesLawfully sim Good)
    (to_stations : SendsToStations sim Good) (has : K → ℕ → Bool) (cs : List Clone) (front : ℕ)
    (copies : ℕ → List (Copy S M N K))
    (there : AllAreForStations sim cs)
    (stand : (s : ℕ) → IsStation sim s → Stands sim has cs front s (copies s)) where
  -- a message that a clone takes of a copy is due in the clone
  due_if_taken : (m : M) → IsTaken K sim has cs copies m → DueIn sim front cs m
  due_if_taken m x =
      let st = stand x.station x.is_station in
      let l = st.living x.copy x.clone x.is_copy x.is_in in
      let d : In m (due_at sim (clone_at cs x.clone) x.station front) =
      subst (In m) (st.due x.copy x.clone x.is_copy x.is_in) x.is_taken in (
        clone_at cs x.clone,
        clone_in cs x.clone l,
        (in_own sim.to x.station (all_due sim (clone_at cs x.clone) front) m d).0,
      )

  -- and a clone takes its due messages of its copy
  taken_if_due : (m : M) → DueIn sim front cs m → IsTaken K sim has cs copies m
  taken_if_due m h =
      let p = place_in cs h.0 h.1 in
      let c : ℕ = p.0 in
      let i : In m (all_due sim (clone_at cs c) front) = subst (λ k. In m (all_due sim k front)) (sym p.2) h.2 in
      let here : IsStation sim (sim.to m) = due_is_for_stations law to_stations (clone_at cs c) front m
      (there c p.1) i in
      let st = stand (sim.to m) here in
      let a = st.carried c p.1 in
      record {
        station = sim.to m;
        is_station = here;
        copy = a.0;
        is_copy = a.1;
        clone = c;
        is_in = a.2;
        is_taken = subst (In m) (sym (st.due a.0 c a.1 a.2))
            (own_from sim.to (sim.to m) (all_due sim (clone_at cs c) front) m i refl);
      }

  -- the least time that a clone takes of the copies is the least due time of the clones
  pub least-copies : (t : Option ℕ) → IsLeastTime sim.time (IsTaken K sim has cs copies) t → least sim cs front ≡ t
  least-copies t f = least-unique sim.time (DueIn sim front cs) (IsTaken K sim has cs copies)
      (least sim cs front) t taken_if_due due_if_taken (least-is sim front cs) f
