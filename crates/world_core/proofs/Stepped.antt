-- The stations of a world, stepped from a cut to the next one, by any stepper.
use Rattle.std.proofs.Common.{◌≡◌, ℕ, ◌+◌, ◌<◌, List, Option, Some, None, sym, ap, ◌∙◌, subst, arith, length, map}
use Rattle.std.proofs.Common.{slice_get, refl}
use Rattle.std.proofs.lemmas.List.{length-map}
use Rattle.std.proofs.lemmas.Option.{slice_get_within}
use Rattle.std.proofs.Math.Numerals.{add-one}
use Rattle.sim_base.specs.Clones.{Clone}
use Rattle.sim_base.proofs.ListLaws.{slice_get-map_some}
use Rattle.clone_sets.specs.Sets.{has}
use Rattle.net_model.specs.Net.{Net}
use Rattle.stations.specs.Good.{IsGood}
use Rattle.stations.specs.Runs.{simulation, handled_once}
use Rattle.phys_proc.specs.Ends.{ends_in}
use Rattle.phys_proc.specs.Procs.{ProcView}
use Rattle.station_steps.specs.declared.station_step.StationStep.{StationStep}
use Rattle.station_steps.specs.Windows.{AllDelivered, AllFlow, NoneOver, bound_of, done_at, all_sent}
use Rattle.station_steps.specs.Windows.{after_window, with_mail, sent_to}
use Rattle.station_steps.specs.Stepping.{AllSteppedAndGiven, FirstOver}
use Rattle.station_steps.proofs.Flows.{AllFlow-bounds, done_at-got}
use Rattle.link_laws.specs.Cuts.{IsRoundOf}
use Rattle.link_laws.specs.CutCopies.{StandsAtCut}
use Rattle.world_core.specs.declared.world.WorldFault.TheVariants.{EventLimit}
use Rattle.world_core.specs.Cuts.{CutStandsAt, CutStands, IsStepTo, HasSteppedTo}
use Rattle.world_core.specs.Overs.{IsFaultAt}
use Rattle.world_core.proofs.AfterStep.{CutStepped, proc_of, flow_of, grown_at, stand_after, few_handled, total_grows}
use Rattle.world_core.proofs.FirstBeyond.{first_beyond, none_beyond}

module _ (net : Net) (cs : List Clone) (ended : List (ℕ × ℕ)) (cut next : ℕ → ℕ) (procs : List ProcView)
    (world : CutStands net cs ended cut procs) (round : IsRoundOf (simulation net) (IsGood net) cs cut next) where
  module _ (flows : List StationStep) (count : length flows ≡ length procs)
      (stepped : AllFlow net (ends_in net.horizon ended) (λ i. next (i + 1)) procs flows) where
    -- the stations before the step, and their results
    cut_stepped : CutStepped net cs cut next procs flows
    cut_stepped = record {
      valid = world.valid;
      for_stations = world.for_stations;
      all_procs = world.count;
      all_flows = count ∙ world.count;
      round = round;
      stood = world.each;
      stepped = subst (λ e. AllFlow net e (λ i. next (i + 1)) procs flows) world.ends stepped;
    }

    -- if no clone goes over the limit, and what was sent is delivered, they represent the clones at the next cut
    cut_after : NoneOver flows → (news : List ProcView)
        → AllDelivered (all_sent flows) (map (λ (f : StationStep). f.done) flows) news
        → CutStands net cs ended next news
    cut_after none news given = record {
      valid = world.valid;
      count = given.count ∙ length-map flows (λ (f : StationStep). f.done) ∙ count ∙ world.count;
      at_most = world.at_most;
      ends = world.ends;
      for_stations = world.for_stations;
      each = each_after;
    }
      where
        each_after : (i : ℕ) (q : ProcView) → slice_get news i ≡ Some q → CutStandsAt net cs next i q
        each_after i q got =
            let long : length news ≡ length net.sites = given.count ∙ length-map flows (λ (f : StationStep). f.done)
            ∙ count ∙ world.count in
            let l : i < length net.sites = let m = slice_get_within news i q got in omega (arith, m, long) in
            let f = flow_of net cs cut next procs flows cut_stepped i l in
            let p = proc_of net cs cut next procs flows cut_stepped i l in
            let done : slice_get (map (λ (f : StationStep). f.done) flows) i ≡ Some f.0.done =
            slice_get-map_some (λ (f : StationStep). f.done) flows i f.0 f.1 in
            let d = given.each i f.0.done q done got in
            let s = cut_stepped.stepped i p.0 f.0 p.1 f.1 in
            let w = world.each i p.0 p.1 in
            let e : done_at flows i ≡ f.0.done.copies = done_at-got flows i f.0 f.1 in
            let c : after_window flows i ≡ q.copies = ap (with_mail (sent_to i (all_sent flows))) e ∙ sym d.copies in
            let grown : handled_once net cs (i + 1) (next (i + 1))
            ≡ handled_once net cs (i + 1) (cut (i + 1)) + f.0.handled =
            subst (λ s. handled_once net cs s (next s) ≡ handled_once net cs s (cut s) + f.0.handled)
            (sym (add-one i)) (grown_at net cs cut next procs flows cut_stepped none i l f.0 f.1) in
            record {
              station = record { proc = d.proc net s.proc; number = d.station ∙ s.number };
              living = λ c. ap (λ k. has k c) (d.living ∙ s.living (none i f.0 f.1)) ∙ w.living c;
              once = d.once ∙ s.once (none i f.0 f.1) ∙ ap (λ n. n + f.0.handled) w.once ∙ sym grown;
              copies = subst (StandsAtCut (simulation net) has cs next (i + 1)) c
                  (stand_after net cs cut next procs flows cut_stepped none i l);
            }

-- ---- by a stepper

module _ (net : Net) (cs : List Clone) (ended : List (ℕ × ℕ)) (cut next : ℕ → ℕ) (bounds : List ℕ)
    (procs given : List ProcView) (over : Option (ℕ × ℕ)) (steps0 steps1 : ℕ)
    (may : IsStepTo net cs ended cut next bounds procs)
    (s : AllSteppedAndGiven net (ends_in net.horizon ended) (bound_of bounds) procs given over steps0 steps1) where
  abbrev flows : List StationStep
  flows = s.stepped.flows

  -- each station was stepped to its next time
  all : AllFlow net (ends_in net.horizon ended) (λ i. next (i + 1)) procs flows
  all = AllFlow-bounds net (ends_in net.horizon ended) (bound_of bounds) (λ i. next (i + 1)) procs flows
      may.bounds_are s.stepped.each

  stepped : CutStepped net cs cut next procs flows
  stepped = cut_stepped net cs ended cut next procs may.stands may.round flows s.stepped.count all

  -- if no clone is over the limit, the stations represent the clones at the next cut
  pub has_stepped : over ≡ None → HasSteppedTo net cs ended cut next steps0 steps1 given
  has_stepped o =
      let none : NoneOver flows = subst (FirstOver flows) o s.stepped.first in
      let grown = total_grows net cs cut next procs flows stepped none in
      let taken = s.stepped.steps_are in
      record {
        stands = cut_after net cs ended cut next procs may.stands may.round flows s.stepped.count all none given
            (subst (λ m. AllDelivered m (map (λ (f : StationStep). f.done) flows) given) s.stepped.sent_is
            (subst (λ m. AllDelivered s.sent m given) s.stepped.procs (s.delivered o)));
        steps = omega (arith, grown, taken);
        length_max = none_beyond net cs cut next procs flows stepped none;
      }

  -- or the fault names the first clone that is
  pub has_failed : (p : ℕ × ℕ) → over ≡ Some p →
      IsFaultAt net cs cut next steps0 steps1 (EventLimit (p.0 + 1) p.1 net.limit)
  has_failed p o =
      let few = few_handled net cs cut next procs flows stepped in
      let taken = s.stepped.steps_are in (
        first_beyond net cs cut next procs flows stepped p.0 p.1 (subst (FirstOver flows) o s.stepped.first),
        refl,
        omega (arith, few, taken),
      )
