-- A step of all stations: the copies that represent the clones at a cut represent them at the next one.
use Rattle.std.proofs.Common.{◌≡◌, ◌↔◌, ◌*◌, ℕ, zero, suc, ◌+◌, ◌<◌, ◌≤◌, true, option_map, List, [], inl, inr, Some}
use Rattle.std.proofs.Common.{refl, sym, ap, ◌∙◌, subst, arith, length, slice_get, unwrap_or}
use Rattle.std.proofs.lemmas.Bool.{false≢true}
use Rattle.std.proofs.lemmas.Option.{slice_get_cases}
use Rattle.std.proofs.Math.Nat.{suc-mul}
use Rattle.std.proofs.Math.Numerals.{add-one}
use Rattle.sim_base.specs.Order.{msg_cmp}
use Rattle.sim_base.specs.Marked.{SortedMarked}
use Rattle.sim_base.specs.Same.{same_entry}
use Rattle.sim_base.specs.Clones.{Clone, clone_at}
use Rattle.sim_base.proofs.SameEntry.{same_entry-Decides}
use Rattle.clone_sets.specs.Sets.{has}
use Rattle.clone_sets.proofs.SetLaws.{has-empty}
use Rattle.net_model.specs.Net.{Net}
use Rattle.net_model.specs.Rules.{IsNet}
use Rattle.stations.specs.Good.{IsGood}
use Rattle.stations.specs.Runs.{simulation, handled_once, IsBeyond}
use Rattle.stations.proofs.GoodLaws.{lawful-stations, stations-to_stations}
use Rattle.run_laws.specs.Queue.{In}
use Rattle.run_laws.specs.Handlers.{IsStation, AllAreForStations}
use Rattle.run_laws.specs.Runs.{log_at}
use Rattle.run_laws.specs.SharedTexts.{station_sum}
use Rattle.run_laws.specs.Copies.{IsStepped, ends_of, IsDelivered, AreOver, GainTogether}
use Rattle.run_laws.proofs.Queue.{all_in}
use Rattle.phys_proc.specs.Own.{StationCopy, IsCopy}
use Rattle.phys_proc.specs.Procs.{ProcView}
use Rattle.phys_proc.proofs.ComesFrom.{sets_join}
use Rattle.station_steps.specs.declared.station_step.StationStep.{StationStep}
use Rattle.station_steps.specs.Windows.{AllFlow, IsFlow, NoneOver, copies_at, done_at, sent_at, after_window}
use Rattle.station_steps.specs.Windows.{all_handled}
use Rattle.station_steps.proofs.Flows.{copies_at-got, done_at-got, sent_at-got}
use Rattle.station_steps.proofs.Places.{by_number, got_within}
use Rattle.station_steps.proofs.Handled.{handled_at, handled_at-got, all_handled-sum}
use Rattle.station_steps.proofs.Delivered.{IsDelivered-after_window}
use Rattle.link_laws.specs.Cuts.{IsRoundOf}
use Rattle.link_laws.specs.CutCopies.{StandsAtCut, EachIsRound}
use Rattle.link_laws.proofs.CutStands.{stands_after_round}
use Rattle.link_laws.proofs.RoundGains.{round_over, round_grows, round_is_few}
use Rattle.world_core.specs.Cuts.{CutStandsAt}
use Rattle.world_core.specs.Overs.{most_handled}
use Rattle.world_core.specs.Worlds.{total_at}

-- ---- the stations of a world

-- the copies of all stations represent the clones at a cut, and each station was stepped to its next time, in a round
pub record CutStepped (net : Net) (cs : List Clone) (cut next : ℕ → ℕ) (procs : List ProcView)
    (flows : List StationStep) : Type 0 where
  pub valid : IsNet net
  pub for_stations : AllAreForStations (simulation net) cs
  pub all_procs : length procs ≡ length net.sites
  pub all_flows : length flows ≡ length net.sites
  pub round : IsRoundOf (simulation net) (IsGood net) cs cut next
  pub stood : (i : ℕ) (p : ProcView) → slice_get procs i ≡ Some p → CutStandsAt net cs cut i p
  pub stepped : AllFlow net (ends_of (simulation net) cs) (λ i. next (i + 1)) procs flows

module _ (net : Net) (cs : List Clone) (cut next : ℕ → ℕ) (procs : List ProcView) (flows : List StationStep)
    (world : CutStepped net cs cut next procs flows) where
  -- each station of the network has its copies
  pub proc_of : (i : ℕ) → i < length net.sites → (p : ProcView) × (slice_get procs i ≡ Some p)
  proc_of i l = got_within procs i (omega (arith, world.all_procs, l))

  -- and the result of its step
  pub flow_of : (i : ℕ) → i < length net.sites → (flow : StationStep) × (slice_get flows i ≡ Some flow)
  flow_of i l = got_within flows i (omega (arith, world.all_flows, l))

  -- its copies represent the clones
  stand_of : (i : ℕ) → i < length net.sites → StandsAtCut (simulation net) has cs cut (i + 1) (copies_at procs i)
  stand_of i l =
      let p = proc_of i l in
      subst (StandsAtCut (simulation net) has cs cut (i + 1)) (sym (copies_at-got procs i p.0 p.1))
      (world.stood i p.0 p.1).copies

  -- the same by the number of the station
  stood_at : (r : ℕ) → IsStation (simulation net) r
      → StandsAtCut (simulation net) has cs cut r (by_number [] (copies_at procs) r)
  stood_at zero here = absurd (let h = here.0 in omega (arith, h))
  stood_at (suc i) here = let l = here.1 in
      subst (λ s. StandsAtCut (simulation net) has cs cut s (copies_at procs i)) (add-one i)
      (stand_of i (omega (arith, l)))

  -- the result of a station is that of its copies
  pub is_flow : (i : ℕ) (l : i < length net.sites) (flow : StationStep) → slice_get flows i ≡ Some flow →
      IsFlow net (ends_of (simulation net) cs) (next (i + 1)) i (proc_of i l).0 flow
  is_flow i l flow got = let p = proc_of i l in world.stepped i p.0 flow p.1 got

  -- all copies, by the number of their station
  abbrev olds : ℕ → List StationCopy
  olds = by_number [] (copies_at procs)

  -- those over the limit are the clones whose logs are beyond it
  pub over_of : (i : ℕ) (l : i < length net.sites) (flow : StationStep) → slice_get flows i ≡ Some flow → (c : ℕ) →
      (has flow.over c ≡ true) ↔ ((c < length cs) × IsBeyond net (i + 1) (next (i + 1)) (clone_at cs c))
  over_of i l flow got c =
      let p = proc_of i l in
      let over : AreOver (simulation net) has (ends_of (simulation net) cs) (suc i) (next (suc i)) (olds (suc i))
      flow.over =
      subst (λ cps. AreOver (simulation net) has (ends_of (simulation net) cs) (suc i) (next (suc i)) cps flow.over)
      (sym (copies_at-got procs i p.0 p.1))
      (subst (λ s. AreOver (simulation net) has (ends_of (simulation net) cs) s (next s) p.0.copies flow.over)
      (add-one i) (is_flow i l flow got).over) in
      subst (λ s. (has flow.over c ≡ true) ↔ ((c < length cs) × IsBeyond net s (next s) (clone_at cs c)))
      (sym (add-one i))
      (round_over (lawful-stations net world.valid) (stations-to_stations net world.valid) sets_join cs cut next
      world.for_stations world.round olds stood_at (suc i) (omega arith, omega (arith, l)) flow.over over c)

  -- ---- few messages

  -- no log was beyond the limit
  short_of : (i : ℕ) → i < length net.sites → (c : ℕ) → c < length cs
      → ¬ (IsBeyond net (i + 1) (cut (i + 1)) (clone_at cs c))
  short_of i l c there long =
      let p = proc_of i l in
      let st = (world.stood i p.0 p.1).copies.logs in
      let a = st.carried c there in
      let copy = all_in (IsCopy net p.0.station) p.0.copies a.0 (world.stood i p.0 p.1).station.proc.copies a.1 in
      let short : length (log_at (simulation net) (clone_at cs c) (i + 1) (cut (i + 1))) ≤ net.limit =
      subst (λ k. length k ≤ net.limit) (st.log a.0 c a.1 a.2) copy.length_max in
      omega (arith, short, long)

  -- what the copies of a station gained
  gained_of : (i : ℕ) (l : i < length net.sites) (flow : StationStep) → slice_get flows i ≡ Some flow →
      GainTogether (simulation net) has (ends_of (simulation net) cs) (suc i) (next (suc i)) (olds (suc i)) flow.handled
  gained_of i l flow got =
      let p = proc_of i l in
      subst (λ cps. GainTogether (simulation net) has (ends_of (simulation net) cs) (suc i) (next (suc i)) cps
      flow.handled) (sym (copies_at-got procs i p.0 p.1))
      (subst (λ s. GainTogether (simulation net) has (ends_of (simulation net) cs) s (next s) p.0.copies flow.handled)
      (add-one i) (is_flow i l flow got).gain)

  -- with what was handled before, a station has handled at most the limit for each clone
  few_at : (i : ℕ) → i < length net.sites → (flow : StationStep) → slice_get flows i ≡ Some flow →
      handled_once net cs (suc i) (cut (suc i)) + flow.handled ≤ length cs * net.limit
  few_at i l flow got =
      round_is_few (lawful-stations net world.valid) (stations-to_stations net world.valid) sets_join cs cut next
      world.for_stations world.round olds stood_at (suc i) (omega arith, omega (arith, l)) same_entry flow.handled
      same_entry-Decides
      (subst (λ s. (c : ℕ) → c < length cs → ¬ (IsBeyond net s (cut s) (clone_at cs c))) (add-one i) (short_of i l))
      (gained_of i l flow got)

  -- the same for the first n stations together
  few_to : (n : ℕ) → n ≤ length net.sites →
      station_sum (λ s. handled_once net cs s (cut s)) n + station_sum
      (by_number 0 (handled_at flows)) n ≤ n * (length cs * net.limit)
  few_to zero l = omega arith
  few_to (suc n) l =
      let i : n < length net.sites = omega (arith, l) in
      let flow = flow_of n i in
      let a = few_to n (omega (arith, l)) in
      let b = few_at n i flow.0 flow.1 in
      let c : handled_at flows n ≡ flow.0.handled = handled_at-got flows n flow.0 flow.1 in
      let d : suc n * (length cs * net.limit) ≡ n * (length cs * net.limit) + length cs * net.limit =
      suc-mul n (length cs * net.limit) in
      omega (arith, a, b, c, d)

  -- the same for all stations together
  pub few_handled : total_at net cs cut + all_handled flows ≤ most_handled net (length cs)
  few_handled =
      let h = few_to (length net.sites) (omega arith) in
      let e = all_handled-sum flows ∙ ap (station_sum (by_number 0 (handled_at flows))) world.all_flows in
      omega (arith, h, e)

  -- ---- after the round

  module _ (none : NoneOver flows) where
    -- each station was stepped as the laws require
    step_at : (i : ℕ) → i < length net.sites
        → IsStepped (simulation net) has (ends_of (simulation net) cs) (i + 1) (next (i + 1)) (copies_at procs i)
        (done_at flows i) (sent_at flows i)
    step_at i l =
        let p = proc_of i l in
        let f = flow_of i l in
        let c : copies_at procs i ≡ p.0.copies = copies_at-got procs i p.0 p.1 in
        let d : done_at flows i ≡ f.0.done.copies = done_at-got flows i f.0 f.1 in
        let e : sent_at flows i ≡ f.0.sent.items = sent_at-got flows i f.0 f.1 in
        rw (c, d, e) ((is_flow i l f.0 f.1).windows (none i f.0 f.1))

    -- the same for all stations
    each_is_round : EachIsRound (simulation net) has cs cut next olds (by_number [] (done_at flows))
        (by_number [] (sent_at flows))
    each_is_round = record {
      stood = stood_at;
      stepped = λ r here. stepped_at r here;
      no_other = λ r other. others r other;
    }
      where
        stepped_at : (r : ℕ) → IsStation (simulation net) r
            → IsStepped (simulation net) has (ends_of (simulation net) cs) r (next r) (olds r)
            (by_number [] (done_at flows) r) (by_number [] (sent_at flows) r)
        stepped_at zero here = absurd (let h = here.0 in omega (arith, h))
        stepped_at (suc i) here = let l = here.1 in
            subst (λ s. IsStepped (simulation net) has (ends_of (simulation net) cs) s (next s) (copies_at procs i)
            (done_at flows i) (sent_at flows i)) (add-one i) (step_at i (omega (arith, l)))

        others : (r : ℕ) → ¬ (IsStation (simulation net) r) → by_number [] (sent_at flows) r ≡ []
        others zero other = refl
        others (suc i) other = elim (slice_get_cases flows i).1 [
          | inl found ↦ absurd (let l = found.1 in other (omega arith, omega (arith, l, world.all_flows)))
          | inr past ↦ ap (λ o. unwrap_or (option_map (λ (f : StationStep). f.sent.items) o) []) past.1
        ]

    -- what was sent to a station is delivered to its copies
    is_delivered : (i : ℕ) → i < length net.sites
        → IsDelivered (simulation net) has cs (i + 1) (by_number [] (sent_at flows)) (done_at flows i)
        (after_window flows i)
    is_delivered i l = IsDelivered-after_window net cs flows i (step_at i l).split.disjoint (sorted_at i l)
      where
        sorted_at : (i : ℕ) → i < length net.sites → (a : StationCopy) → In a (done_at flows i)
            → SortedMarked msg_cmp a.pending
        sorted_at i l a h =
            let f = flow_of i l in
            let d : done_at flows i ≡ f.0.done.copies = done_at-got flows i f.0 f.1 in
            (all_in (IsCopy net f.0.done.station) f.0.done.copies a (is_flow i l f.0 f.1).proc.copies
            (subst (In a) d h)).sorted

    -- they represent the clones at the next clocks
    pub stand_after : (i : ℕ) → i < length net.sites
        → StandsAtCut (simulation net) has cs next (i + 1) (after_window flows i)
    stand_after i l =
        subst (λ s. StandsAtCut (simulation net) has cs next s (after_window flows i)) (sym (add-one i))
        (stands_after_round (lawful-stations net world.valid) (stations-to_stations net world.valid) has cs cut next
        olds (by_number [] (done_at flows)) (by_number [] (sent_at flows)) (suc i)
        (after_window flows i) world.for_stations world.round each_is_round
        (omega arith, omega (arith, l))
        (subst (λ s. IsDelivered (simulation net) has cs s (by_number [] (sent_at flows)) (done_at flows i)
        (after_window flows i)) (add-one i) (is_delivered i l)))

    -- no log is beyond the limit
    pub none_long : (i : ℕ) → i < length net.sites → (c : ℕ) → c < length cs
        → ¬ (IsBeyond net (i + 1) (next (i + 1)) (clone_at cs c))
    none_long i l c there long =
        let f = flow_of i l in
        absurd (false≢true (sym (ap (λ k. has k c) (none i f.0 f.1) ∙ has-empty c)
        ∙ (over_of i l f.0 f.1 c).1 (there, long)))

    -- the messages handled once grow by what the station has handled
    pub grown_at : (i : ℕ) → i < length net.sites → (flow : StationStep) → slice_get flows i ≡ Some flow
        → handled_once net cs (suc i) (next (suc i)) ≡ handled_once net cs (suc i) (cut (suc i)) + flow.handled
    grown_at i l flow got =
        round_grows (lawful-stations net world.valid) (stations-to_stations net world.valid) sets_join cs cut next
        world.for_stations world.round olds stood_at (suc i) (omega arith, omega (arith, l)) same_entry flow.handled
        same_entry-Decides
        (subst (λ s. (c : ℕ) → c < length cs → ¬ (IsBeyond net s (next s) (clone_at cs c))) (add-one i) (none_long i l))
        (gained_of i l flow got)

    -- the same for the first n stations together
    grown_to : (n : ℕ) → n ≤ length net.sites
        → station_sum (λ s. handled_once net cs s (next s)) n
        ≡ station_sum (λ s. handled_once net cs s (cut s)) n + station_sum (by_number 0 (handled_at flows)) n
    grown_to zero l = refl
    grown_to (suc n) l =
        let i : n < length net.sites = omega (arith, l) in
        let flow = flow_of n i in
        let a = grown_to n (omega (arith, l)) in
        let b = grown_at n i flow.0 flow.1 in
        let c : handled_at flows n ≡ flow.0.handled = handled_at-got flows n flow.0 flow.1 in
        omega (arith, a, b, c)

    -- the same for all stations together
    pub total_grows : total_at net cs next ≡ total_at net cs cut + all_handled flows
    total_grows =
        let h = grown_to (length net.sites) (omega arith) in
        let e = all_handled-sum flows ∙ ap (station_sum (by_number 0 (handled_at flows))) world.all_flows in
        omega (arith, h, e)
