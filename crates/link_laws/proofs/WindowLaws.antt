-- Two laws of windows, from the laws of rounds: a window is a round with one time for all stations.
use Rattle.std.proofs.Common.{◌≡◌, ℕ, suc, ◌<◌, List, [], ◌∷◌, inl, inr, sym, subst, arith, length}
use Rattle.sim_base.specs.Clones.{Clone, clone_at}
use Rattle.run_laws.specs.Queue.{In}
use Rattle.run_laws.specs.Simulation.{Simulation}
use Rattle.run_laws.specs.Runs.{due_at}
use Rattle.run_laws.specs.Fronts.{IsWindow}
use Rattle.run_laws.specs.Handlers.{HandlesLawfully, SendsToStations}
use Rattle.link_laws.specs.WindowLaws.{WindowsGive, WindowsGiveRuns, StandsAfterWindow}
use Rattle.link_laws.proofs.Rounds.{round_gives}
use Rattle.link_laws.proofs.WindowRounds.{window_is_round}
use Rattle.link_laws.proofs.CutStands.{due_is_waiting, cut_of_front, front_of_cut, stands_after_round}

-- the place of a clone in a list of clones
record Place (cs : List Clone) (c : Clone) : Type 0 where
  pub place : ℕ
  pub in_range : place < length cs
  pub is : clone_at cs place ≡ c

-- each clone of the list has a place
place_of : (cs : List Clone) (c : Clone) → In c cs → Place cs c
place_of [] c i = absurd i
place_of (x ∷ cs) c (inl e) = record { place = 0; in_range = omega arith; is = sym e }
place_of (x ∷ cs) c (inr i) =
    let p = place_of cs c i in
    let l = p.in_range in
    record { place = suc p.place; in_range = omega (arith, l); is = p.is }

module _ {S M N : Type 0} {sim : Simulation S M N} {Good : ℕ → S → Type 0} (law : HandlesLawfully sim Good) where
  -- the windows of the stations, each alone, end with the logs and states of the clone's run
  window_gives : (cs : List Clone) (k front bound : ℕ) → k < length cs → IsWindow sim cs front bound →
      WindowsGive sim (clone_at cs k) front bound
  window_gives cs k front bound l w =
      let c : Clone = clone_at cs k in
      let round = window_is_round law cs front bound w in
      let h = round_gives law c (λ x. front) round.floor (λ x. bound) round.is_round (round.idle k l)
      (λ s. due_at sim c s front) (λ s. due_is_waiting law c s front) in
      record {
        log = h.log;
        state = h.state;
        sorted = λ s. (due_is_waiting law c s bound).sorted;
        due = λ s m.
            let d = (due_is_waiting law c s bound).exact m in
            let v = h.waiting s m in
            (λ i. v.0 (d.0 i), λ g. d.1 (v.1 g));
      }

  -- so do those of any clone of the list
  pub windows_give_runs : WindowsGiveRuns sim
  windows_give_runs cs c front bound i w =
      let p = place_of cs c i in
      subst (λ d. WindowsGive sim d front bound) p.is (window_gives cs p.place front bound p.in_range w)

  -- copies that represent the clones at a front do so at the bound of a window
  pub stands_after_window : {K : Type 0} → SendsToStations sim Good → StandsAfterWindow K sim
  stands_after_window to_stations has cs front bound olds news sent s done there w all here got =
      front_of_cut law has cs bound s done
      (stands_after_round law to_stations has cs (λ x. front) (λ x. bound) olds news sent s done there
      (window_is_round law cs front bound w)
      (record {
        stood = λ r is. cut_of_front law has cs front r (olds r) (all.stood r is);
        stepped = all.stepped;
        no_other = all.no_other;
      })
      here got)
