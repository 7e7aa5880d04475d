-- The world after a decision: the copies still represent the clones.
use Rattle.std.proofs.Common.{◌≡◌, ℕ, zero, suc, ◌+◌, ◌==◌, ◌||◌, ◌<◌, ◌≤◌, Bool, true, false, cond}
use Rattle.std.proofs.Common.{List, [], ◌∷◌, ◌++◌, inl, inr, refl, sym, ap, ◌∙◌, subst, arith, length}
use Rattle.std.proofs.Common.{length-set, map, get_or, Option, Some, None, slice_get, min, nat_lt, eqb-true, eq-eqb}
use Rattle.std.proofs.Math.Path.{fun_ext}
use Rattle.std.proofs.lemmas.Bool.{cases_eq, ne_eqb, lt-ltb, false≢true}
use Rattle.std.proofs.lemmas.Bool.Decides.{nat_tests}
use Rattle.std.proofs.lemmas.List.{length_push}
use Rattle.std.proofs.lemmas.Option.{slice_get-get_or, slice_get_within}
use Rattle.sim_base.specs.Order.{msg_cmp}
use Rattle.sim_base.specs.Marked.{SortedMarked}
use Rattle.sim_base.specs.Same.{same_entry}
use Rattle.sim_base.specs.Clones.{Clone, clone_at, clones_with_plan, clones_with_end, clones_with_fork, fork_of}
use Rattle.sim_base.specs.declared.message.Msg.{Msg}
use Rattle.sim_base.specs.declared.decision.Planned.{Planned}
use Rattle.sim_base.specs.declared.lists.TheConstants.{MAX_CLONES}
use Rattle.sim_base.proofs.ListLaws.{all_push}
use Rattle.sim_base.proofs.SameEntry.{same_entry-Decides}
use Rattle.clone_sets.specs.Sets.{has, one, with}
use Rattle.clone_sets.specs.declared.set.CloneSet.{CloneSet}
use Rattle.clone_sets.proofs.SetLaws.{has-one, has-with}
use Rattle.net_model.specs.Net.{Net, HasStation}
use Rattle.stations.specs.Runs.{simulation, set_message}
use Rattle.stations.proofs.GoodLaws.{lawful-stations}
use Rattle.run_laws.specs.Handlers.{IsStation, AreForStations}
use Rattle.run_laws.specs.Copies.{Stands, ends_of}
use Rattle.run_laws.specs.Runs.{end_of, IsTimelyPlan, IsTimelyEnd, MayFork}
use Rattle.run_laws.proofs.Queue.{all_from}
use Rattle.run_laws.proofs.Places.{set_cases, clone_push_same, clone_push_other}
use Rattle.run_laws.proofs.Deciding.{stands_after_decision, stands_after_other_decision, stands_end, stands_fork}
use Rattle.run_laws.proofs.HandledStays.{handled-added, handled-ended, handled-forked}
use Rattle.phys_proc.specs.Ends.{ends_in}
use Rattle.phys_proc.specs.Own.{StationCopy, with_message}
use Rattle.phys_proc.specs.Procs.{ProcView}
use Rattle.phys_proc.proofs.Delivery.{all_given}
use Rattle.world_core.specs.Worlds.{StandsAt, WorldStands, WorldView}
use Rattle.station_steps.specs.Windows.{AllDelivered, with_mail}
use Rattle.station_steps.specs.Forking.{AllForked, LivesAtAll, LivesNowhere}

-- ---- WorldView

-- a world of the same network and front is the old one with its clones
pub world_with : (old new : WorldView) (cs : List Clone) → new.net ≡ old.net → new.front ≡ old.front → new.clones ≡ cs
    → new ≡ record old { clones = cs }
world_with old new cs net front clones =
    ap (λ (n : Net). record { net = n; clones = new.clones; front = new.front }) net
    ∙ (ap (λ f. record { net = old.net; clones = new.clones; front = f }) front
    ∙ ap (λ l. record { net = old.net; clones = l; front = old.front }) clones)

-- ---- LivesAtAll, LivesNowhere

-- a clone lives at every station
pub LivesAtAll-stands : (net : Net) (cs : List Clone) (ended : List (ℕ × ℕ)) (front : ℕ) (procs : List ProcView)
    → WorldStands net cs ended front procs → (c : ℕ) → c < length cs → LivesAtAll c procs
LivesAtAll-stands net cs ended front procs world c l = λ i p got. (world.each i p got).living c ∙ lt-ltb c (length cs) l

-- the number of the next clone lives at none
pub LivesNowhere-stands : (net : Net) (cs : List Clone) (ended : List (ℕ × ℕ)) (front : ℕ) (procs : List ProcView)
    → WorldStands net cs ended front procs → LivesNowhere (length cs) procs
LivesNowhere-stands net cs ended front procs world = λ i p got. (world.each i p got).living (length cs) ∙ not_below
  where
    not_below : nat_lt (length cs) (length cs) ≡ false
    not_below = grind (arith, nat_tests)

-- ---- a fork

module _ (net : Net) (cs : List Clone) (name : List ℕ) (old : ℕ) (there : old < length cs)
    (open_end : (clone_at cs old).end ≡ None) where
  -- the new clone
  abbrev new_clone : Clone
  new_clone = fork_of (clone_at cs old) name

  -- its old one may be forked
  may_fork : MayFork cs old
  may_fork = record { in_range = there; going = open_end }

  -- no clone has another end
  ends_forked : (c : ℕ) → ends_of (simulation net) cs c ≡ ends_of (simulation net) (clones_with_fork cs name old) c
  ends_forked c = elim (cases_eq c (length cs)) [
    | inl e ↦ ap (λ k. end_of (simulation net) k) (beyond cs c (omega (arith, e)))
        ∙ sym (ap (λ k. end_of (simulation net) k) (ap (clone_at (clones_with_fork cs name old)) e
        ∙ clone_push_same cs new_clone))
    | inr n ↦ ap (λ k. end_of (simulation net) k) (sym (clone_push_other cs new_clone c n))
  ]
    where
      beyond : (cs : List Clone) (c : ℕ) → length cs ≤ c → clone_at cs c ≡ clone_at [] 0
      beyond [] zero l = refl
      beyond [] (suc c) l = refl
      beyond (x ∷ xs) zero l = absurd (omega (arith, l))
      beyond (x ∷ xs) (suc c) l = beyond xs c (omega (arith, l))

  -- the decisions of all clones are for stations
  plans_forked : ((c : ℕ) → c < length cs → AreForStations (simulation net) (clone_at cs c).plans) → (c : ℕ)
      → c < length (clones_with_fork cs name old) → AreForStations (simulation net) (clone_at
      (clones_with_fork cs name old) c).plans
  plans_forked f c l = elim (cases_eq c (length cs)) [
    | inl e ↦ subst (λ k. AreForStations (simulation net) k.plans)
        (sym (ap (clone_at (clones_with_fork cs name old)) e ∙ clone_push_same cs new_clone)) (f old there)
    | inr n ↦ subst (λ k. AreForStations (simulation net) k.plans) (sym (clone_push_other cs new_clone c n))
        (f c (less n))
  ]
    where
      less : (c ≡ length cs → ⊥) → c < length cs
      less n = let many = length_push cs new_clone in grind (arith, many, l)

  -- exactly the clones live, with the new one
  living_forked : (living : CloneSet) (c : ℕ) → ((c : ℕ) → has living c ≡ nat_lt c (length cs))
      → has (with living (length cs)) c ≡ nat_lt c (length (clones_with_fork cs name old))
  living_forked living c f =
      has-with living (length cs) c ∙ ap (λ b. (length cs == c) || b) (f c) ∙ one_more c (length cs)
      ∙ ap (nat_lt c) (sym (length_push cs new_clone))
    where
      one_more : (c n : ℕ) → ((n == c) || nat_lt c n) ≡ nat_lt c (n + 1)
      one_more c n = grind (arith, nat_tests)

  -- if the new clone joins the old one in all copies, the world represents the clones with the fork
  pub world_forked : (ended : List (ℕ × ℕ)) (front : ℕ) (procs news : List ProcView) → length cs < MAX_CLONES
      → WorldStands net cs ended front procs → AllForked old (length cs) procs news
      → WorldStands net (clones_with_fork cs name old) ended front news
  world_forked ended front procs news few world done = record {
    valid = world.valid;
    time_max = world.time_max;
    count = done.count ∙ world.count;
    at_most = let many = length_push cs new_clone in omega (arith, few, many);
    ends = world.ends ∙ fun_ext ends_forked;
    for_stations = plans_forked world.for_stations;
    each = each_forked;
  }
    where
      each_forked : (i : ℕ) (q : ProcView) → slice_get news i ≡ Some q
          → StandsAt net (clones_with_fork cs name old) front i q
      each_forked i q got =
          let l = slice_get_within news i q got in
          let p = slice_get-get_or procs i q (let k = done.count in omega (arith, l, k)) in
          let w = world.each i (get_or procs i q) p in
          let d = done.each i (get_or procs i q) q p got in
          record {
            station = record { proc = d.proc net w.station.proc; number = d.station ∙ w.station.number };
            living = λ c. ap (λ k. has k c) d.living ∙ living_forked (get_or procs i q).living c w.living;
            once = d.once ∙ w.once ∙ sym (handled-forked (simulation net) same_entry same_entry-Decides cs name old
                (i + 1) front may_fork);
            copies = stands_fork (simulation net) has cs old name front (i + 1)
                (get_or procs i q).copies q.copies may_fork (d.copies net (ends_of (simulation net) cs) w.station.proc)
                w.copies;
          }

-- ---- a set

module _ (net : Net) (cs : List Clone) (who : ℕ) (plan : Planned) (there : who < length cs) where
  -- the clone with the decision
  abbrev with_set : Clone
  with_set = record (clone_at cs who) { plans = (clone_at cs who).plans ++ plan ∷ [] }

  -- the message of the decision
  abbrev tells : Msg
  tells = set_message (length (clone_at cs who).plans) plan

  -- if the message of the set is delivered to the copies, the world represents the clones with the set
  pub world_added : (ended : List (ℕ × ℕ)) (front : ℕ) (procs news : List ProcView) → HasStation net plan.station
      → front ≤ plan.at → WorldStands net cs ended front procs
      → AllDelivered ((tells, one who) ∷ []) procs news → WorldStands net
      (clones_with_plan cs who plan) ended front news
  world_added ended front procs news is late world done = record {
    valid = world.valid;
    time_max = world.time_max;
    count = done.count ∙ world.count;
    at_most = let many = length-set cs who with_set in let f = world.at_most in omega (arith, f, many);
    ends = world.ends ∙ fun_ext (λ c.
        sym (set_cases (λ c k. end_of (simulation net) k ≡ end_of (simulation net) (clone_at cs c)) cs who with_set
        there refl (λ c n. refl) c));
    for_stations = λ c l. set_cases (λ c k. c < length cs → AreForStations (simulation net) k.plans) cs who with_set
        there
        (λ l. all_push (λ p. IsStation (simulation net) p.station) (clone_at cs who).plans plan
        (world.for_stations who there) (is.low, is.high))
        (λ c n l. world.for_stations c l) c (let many = length-set cs who with_set in omega (arith, many, l));
    each = each_added;
  }
    where
      each_added : (i : ℕ) (q : ProcView) → slice_get news i ≡ Some q
          → StandsAt net (clones_with_plan cs who plan) front i q
      each_added i q got =
          let l = slice_get_within news i q got in
          let p = slice_get-get_or procs i q (let k = done.count in omega (arith, l, k)) in
          let w = world.each i (get_or procs i q) p in
          let d = done.each i (get_or procs i q) q p got in
          record {
            station = record { proc = d.proc net w.station.proc; number = d.station ∙ w.station.number };
            living = λ c. ap (λ k. has k c) d.living ∙ w.living c ∙ ap (nat_lt c) (sym (length-set cs who with_set));
            once = d.once ∙ w.once ∙ sym (handled-added (lawful-stations net world.valid) same_entry cs front
                (i + 1) who plan tells timely);
            copies = subst (Stands (simulation net) has (clones_with_plan cs who plan) front (i + 1)) (sym d.copies)
                (by (plan.station == i + 1) refl (get_or procs i q).copies w.copies);
          }
        where
          timely : IsTimelyPlan (simulation net) cs front who plan tells
          timely = record { in_range = there; is = refl; late = late }

          by : (b : Bool) → (plan.station == i + 1) ≡ b → (olds : List StationCopy)
              → Stands (simulation net) has cs front (i + 1) olds →
              Stands (simulation net) has (clones_with_plan cs who plan) front (i + 1)
              (with_mail (cond b ((tells, one who) ∷ []) []) olds)
          by true e olds st = stands_after_decision (lawful-stations net world.valid) has cs front
              (i + 1) who plan tells (one who) olds (map (with_message tells (one who)) olds) timely
              (eqb-true plan.station (i + 1) e) (has-one who)
              (all_given net (ends_of (simulation net) cs) tells (one who) olds
              (all_from (λ (a : StationCopy). SortedMarked msg_cmp a.pending) olds st.sorted)) st
          by false e olds st = stands_after_other_decision (lawful-stations net world.valid) has cs front
              (i + 1) who plan tells olds timely
              (λ same. false≢true (sym e ∙ eq-eqb plan.station (i + 1) same)) st

-- ---- an end

module _ (net : Net) (cs : List Clone) (who at : ℕ) (there : who < length cs)
    (open_end : (clone_at cs who).end ≡ None) where
  -- the clone with the end
  abbrev with_end : Clone
  with_end = record (clone_at cs who) { end = Some at }

  -- before, it ends at the horizon
  at_horizon : end_of (simulation net) (clone_at cs who) ≡ net.horizon
  at_horizon = ap (λ (o : Option ℕ). end_of (simulation net) (record (clone_at cs who) { end = o })) open_end

  -- if the list of ends has the new end, the world represents the clones with it, with unchanged copies
  pub world_ended : (olds news : List (ℕ × ℕ)) (front : ℕ) (procs : List ProcView) → front ≤ at → at ≤ net.horizon →
      ((c : ℕ) → ends_in net.horizon news c ≡ cond (who == c) (min at (ends_in net.horizon olds c))
      (ends_in net.horizon olds c)) →
      WorldStands net cs olds front procs → WorldStands net (clones_with_end cs who at) news front procs
  world_ended olds news front procs late early ends world = record {
    valid = world.valid;
    time_max = world.time_max;
    count = world.count;
    at_most = let many = length-set cs who with_end in let f = world.at_most in omega (arith, f, many);
    ends = fun_ext ends_are;
    for_stations = λ c l. set_cases (λ c k. c < length cs → AreForStations (simulation net) k.plans) cs who with_end
        there
        (λ l. world.for_stations who there) (λ c n l. world.for_stations c l) c
        (let many = length-set cs who with_end in omega (arith, many, l));
    each = λ i p got. let w = world.each i p got in record {
      station = w.station;
      living = λ c. w.living c ∙ ap (nat_lt c) (sym (length-set cs who with_end));
      once = w.once ∙ sym (handled-ended (lawful-stations net world.valid) same_entry cs front
          (i + 1) who at there timely);
      copies = stands_end (lawful-stations net world.valid) has cs front (i + 1) who there p.copies at timely w.copies;
    };
  }
    where
      within : at ≤ end_of (simulation net) (clone_at cs who)
      within = rw at_horizon early

      timely : IsTimelyEnd (simulation net) (clone_at cs who) front at
      timely = record { late = late; within = within }

      was : (c : ℕ) → ends_in net.horizon olds c ≡ ends_of (simulation net) cs c
      was c = ap (λ f. f c) world.ends

      ends_are : (c : ℕ) → ends_in net.horizon news c ≡ ends_of (simulation net) (clones_with_end cs who at) c
      ends_are c = ends c ∙ ap (λ t. cond (who == c) (min at t) t) (was c)
          ∙ sym (set_cases (λ c k. end_of (simulation net) k ≡ cond (who == c)
          (min at (ends_of (simulation net) cs c)) (ends_of (simulation net) cs c)) cs who with_end there
          (sym (ap (λ b. cond b (min at (ends_of (simulation net) cs who)) (ends_of (simulation net) cs who))
          (eq-eqb who who refl) ∙ least_is))
          (λ c n. sym (ap (λ b. cond b (min at (ends_of (simulation net) cs c)) (ends_of (simulation net) cs c))
          (ne_eqb who c (λ e. n (sym e))))) c)
        where
          least_is : min at (ends_of (simulation net) cs who) ≡ at
          least_is = grind (arith, within)
