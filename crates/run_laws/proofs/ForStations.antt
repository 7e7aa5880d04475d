-- Every message of a run is for a station, pending or handled.
use Rattle.std.proofs.Common.{ℕ, min, List, [], ◌++◌, inl, inr, nat_lt, refl, sym, ap, ◌∙◌, subst}
use Rattle.std.specs.List.{AllByRecursion}
use Rattle.sim_base.specs.Clones.{Clone}
use Rattle.sim_base.specs.declared.decision.Planned.{Planned}
use Rattle.sim_base.proofs.ListLaws.{all_push}
use Rattle.run_laws.specs.Queue.{In}
use Rattle.run_laws.specs.Simulation.{Simulation}
use Rattle.run_laws.specs.World.{first_messages, set_messages, first_world}
use Rattle.run_laws.specs.Runs.{run, end_of, run_of, all_due}
use Rattle.run_laws.specs.Handlers.{IsStation, AreForStations, HandlesLawfully, SendsToStations}
use Rattle.run_laws.proofs.Queue.{all_in, in_insert_all}
use Rattle.run_laws.proofs.Lists.{in_filter, in_append}
use Rattle.run_laws.proofs.Running.{fine_keeps}
use Rattle.run_laws.proofs.Worlds.{in_first_messages, in_set_messages, world_lawful, begins_fine, run_reached, entry_of}

-- ---- IsStation

module _ {S M N : Type 0} {sim : Simulation S M N} {Good : ℕ → S → Type 0} (law : HandlesLawfully sim Good)
    (stations : SendsToStations sim Good) where
  -- the first messages of a world are for stations
  begins_for_stations : (plans : List Planned) → AreForStations sim plans → (z : M)
      → In z (first_world sim plans).pending →
      IsStation sim (sim.to z)
  begins_for_stations plans there z i =
      elim (in_insert_all law.order.order (first_messages sim sim.stations ++ set_messages sim 0 plans) [] z i) [
        | inl j ↦ elim (in_append (first_messages sim sim.stations) (set_messages sim 0 plans) z j) [
          | inl k ↦ let h = in_first_messages sim sim.stations z k in
              subst (IsStation sim) (sym (stations.first h.0 z h.1 h.2)) h.1
          | inr k ↦ let h = in_set_messages sim 0 plans z k in
              subst (IsStation sim) (sym (ap sim.to h.4 ∙ stations.set_message h.0 h.1))
              (all_in (λ p. IsStation sim p.station) plans h.1 there h.3)
        ]
        | inr j ↦ absurd j
      ]

  -- the pending messages of a run are for stations, and so are the handled ones
  run_for_stations : (plans : List Planned) (front : ℕ) → AreForStations sim plans →
      ((z : M) → In z (run sim plans front).pending → IsStation sim (sim.to z))
      × AllByRecursion (λ e. IsStation sim (sim.to e.msg)) (run sim plans front).at.trace
  run_for_stations plans front there =
      fine_keeps law.order (world_lawful law) 0 (λ w. ((z : M) → In z w.pending → IsStation sim (sim.to z))
      × AllByRecursion (λ e. IsStation sim (sim.to e.msg)) w.at.trace) (begins_for_stations plans there, tt)
      (λ x m q f early h. (
        (λ z i. elim (in_insert_all law.order.order (sim.handle (sim.to m) (x.states (sim.to m)) m).sends q z i) [
          | inl j ↦ stations.sends (sim.to m) (x.states (sim.to m)) m z (h.0 m (inl refl)) (f.good (sim.to m)) j
          | inr j ↦ h.0 z (inr j)
        ]),
        all_push (λ e. IsStation sim (sim.to e.msg)) x.trace (entry_of sim (sim.to m) (x.states (sim.to m)) m) h.1
            (h.0 m (inl refl)),
      ))
      (begins_fine law plans) (run_reached law plans front).0

  -- the pending messages of a run are for stations
  pub pending_for_stations : (plans : List Planned) (front : ℕ) → AreForStations sim plans → (z : M) →
      In z (run sim plans front).pending → IsStation sim (sim.to z)
  pending_for_stations plans front there = (run_for_stations plans front there).0

  -- and the handled messages of a run were for stations
  pub trace_for_stations : (plans : List Planned) (front : ℕ) → AreForStations sim plans →
      AllByRecursion (λ e. IsStation sim (sim.to e.msg)) (run sim plans front).at.trace
  trace_for_stations plans front there = (run_for_stations plans front there).1

  -- and so are the due ones
  pub due_is_for_stations : (c : Clone) (front : ℕ) (m : M) → AreForStations sim c.plans → In m (all_due sim c front) →
      IsStation sim (sim.to m)
  due_is_for_stations c front m there i = pending_for_stations c.plans (min front (end_of sim c)) there m
      (in_filter (λ m. nat_lt (sim.time m) (end_of sim c)) (run_of sim c front).pending m i).0
