-- A window is a round with one time for all stations. The floor of every station is the least due time of the clones,
-- or the bound if nothing is due: no station does anything before it.
use Rattle.std.proofs.Common.{ℕ, ◌+◌, ◌≤◌, ◌<◌, List, Option, Some, None, arith, length}
use Rattle.std.specs.List.{AllByRecursion}
use Rattle.sim_base.specs.Clones.{Clone, clone_at}
use Rattle.run_laws.specs.Queue.{In}
use Rattle.run_laws.specs.Simulation.{Simulation}
use Rattle.run_laws.specs.Runs.{all_due}
use Rattle.run_laws.specs.Fronts.{least, window_end, IsWindow}
use Rattle.run_laws.specs.FrontLaws.{IsLeastTime}
use Rattle.run_laws.specs.Handlers.{HandlesLawfully}
use Rattle.run_laws.proofs.Queue.{all_in, all_from}
use Rattle.run_laws.proofs.NextFronts.{all_due-from_front, log_at-nothing_due}
use Rattle.run_laws.proofs.DueTimes.{least-is}
use Rattle.run_laws.proofs.Stands.{clone_in}
use Rattle.link_laws.specs.Cuts.{IsRoundOf}

module _ {S M N : Type 0} (sim : Simulation S M N) (front : ℕ) where
  -- a message that is due in one of the clones
  abbrev DueIn : List Clone → M → Type 0
  DueIn cs m = (c : Clone) × In c cs × In m (all_due sim c front)

module _ {S M N : Type 0} {sim : Simulation S M N} {Good : ℕ → S → Type 0} (law : HandlesLawfully sim Good) where
  -- a window of some clones is a round of them
  pub window_is_round : (cs : List Clone) (front bound : ℕ) → IsWindow sim cs front bound →
      IsRoundOf sim Good cs (λ x. front) (λ x. bound)
  window_is_round cs front bound w = from_least (least sim cs front) (least-is sim front cs) w.within
    where
      -- the round with a floor for all stations before which no message is due
      from_floor : (floor : ℕ) → front ≤ floor → bound ≤ floor + sim.lookahead →
          ((c : ℕ) → c < length cs → AllByRecursion (λ m. floor ≤ sim.time m) (all_due sim (clone_at cs c) front)) →
          IsRoundOf sim Good cs (λ x. front) (λ x. bound)
      from_floor floor l near due = record {
        floor = λ x. floor;
        is_round = record {
          later = λ s. w.later;
          apart = λ x st m z good i other late.
              let far = law.far x st m z good i other in
              omega (arith, far, late, near);
        };
        idle = λ c k s. log_at-nothing_due law (clone_at cs c) s front floor l (due c k);
      }

      -- the floor is the least due time of the clones
      from_least : (o : Option ℕ) → IsLeastTime sim.time (DueIn sim front cs) o → bound ≤ window_end sim o →
          IsRoundOf sim Good cs (λ x. front) (λ x. bound)
      from_least None none h = from_floor bound w.later (omega arith) (λ c k.
          all_from (λ m. bound ≤ sim.time m) (all_due sim (clone_at cs c) front) (λ m j.
          absurd (none m (clone_at cs c, clone_in cs c k, j))))
      from_least (Some t) is h =
          let first = is.0 in
          let from : front ≤ sim.time first.0 =
          all_in (λ m. front ≤ sim.time m) (all_due sim first.1.0 front) first.0
          (all_due-from_front law first.1.0 front) first.1.2 in
          let at = first.2 in
          from_floor t (omega (arith, from, at)) (omega (arith, h)) (λ c k.
          all_from (λ m. t ≤ sim.time m) (all_due sim (clone_at cs c) front) (λ m j.
          is.1 m (clone_at cs c, clone_in cs c k, j)))
