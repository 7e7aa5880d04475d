-- A link world begins as a world at front 0, and ends as a world at the horizon.
use Rattle.std.proofs.Common.{◌≡◌, ℕ, ◌+◌, ◌-◌, ◌<◌, List, sym, ap, ◌∙◌, subst, arith, slice_index, length}
use Rattle.std.proofs.lemmas.Option.{slice_get_within}
use Rattle.sim_base.specs.Clones.{Clone}
use Rattle.clone_sets.specs.Sets.{has}
use Rattle.net_model.specs.Net.{HasStation, Net}
use Rattle.net_model.specs.declared.limits.TheConstants.{MAX_HORIZON}
use Rattle.stations.specs.Runs.{simulation, handled_once}
use Rattle.stations.proofs.GoodLaws.{lawful-stations, stations-to_stations}
use Rattle.run_laws.specs.Handlers.{IsStation}
use Rattle.phys_proc.specs.Procs.{ProcView}
use Rattle.world_core.specs.Worlds.{WorldStands, WorldView}
use Rattle.world_core.proofs.Worlds.{cut_of_world, world_of_cut}
use Rattle.link_laws.specs.Clocks as clocks
use Rattle.link_laws.proofs.CutStands.{same_cut}
use Rattle.link_clocks.specs.NetClocks.{AreAllDone, HasClocks, clock}
use Rattle.link_clocks.specs.LinkWorlds.{LinkStands}
use Rattle.link_clocks.proofs.RoundCounts.{rounds-below}

-- a world at front 0 is one whose clocks are all 0
pub link_begins : (net : Net) (cs : List Clone) (ended : List (ℕ × ℕ)) (procs : List ProcView) (now next : List ℕ) →
    WorldStands net cs ended 0 procs → HasClocks net 0 now next → LinkStands net cs ended 0 now next procs
unfolding clocks.clock
link_begins net cs ended procs now next world are = record {
  stands = cut_of_world net cs ended 0 procs world;
  clocks_are = are;
}

-- a world at front 0 may be taken for one whose clocks are computed for an equal network
pub link_opens : (w : WorldView) (net shown : Net) (cs : List Clone) (ended : List (ℕ × ℕ)) (procs : List ProcView)
    (k : ℕ) (now next : List ℕ) → net ≡ w.net → cs ≡ w.clones → w.front ≡ 0 → k ≡ 0 → shown ≡ net →
    WorldStands w.net w.clones ended w.front procs → HasClocks shown k now next →
    LinkStands net cs ended k now next procs
link_opens w net shown cs ended procs k now next same clones first none e world are =
    subst (λ j. LinkStands net cs ended j now next procs) (sym none) (link_begins net cs ended procs now next
    (subst (λ n. WorldStands n cs ended 0 procs) (sym same) (subst (λ ds. WorldStands w.net ds ended 0 procs) (sym
    clones)
    (subst (λ f. WorldStands w.net w.clones ended f procs) first world)))
    (subst (λ n. HasClocks n 0 now next) e (subst (λ j. HasClocks shown j now next) none are)))

-- if all clocks are at the horizon, it is a world there
pub link_ends : (net : Net) (cs : List Clone) (ended : List (ℕ × ℕ)) (k : ℕ) (now next : List ℕ) (procs : List
    ProcView) →
    LinkStands net cs ended k now next procs → ((s : ℕ) → IsStation (simulation net) s → clock net k s ≡ net.horizon) →
    WorldStands net cs ended net.horizon procs
link_ends net cs ended k now next procs world done =
    let at = world.stands in
    world_of_cut net cs ended net.horizon procs (omega arith) (record {
      valid = at.valid;
      count = at.count;
      at_most = at.at_most;
      ends = at.ends;
      for_stations = at.for_stations;
      each = λ i p got.
          let s = at.each i p got in
          let l = slice_get_within procs i p got in
          let here : IsStation (simulation net) (i + 1) = (omega arith, omega (arith, l, at.count)) in
          record {
            station = s.station;
            living = s.living;
            once = s.once ∙ ap (handled_once net cs (i + 1)) (done (i + 1) here);
            copies = same_cut (lawful-stations net at.valid) has cs (stations-to_stations net at.valid) (clock net k)
                (λ x. net.horizon) (i + 1) p.copies at.for_stations here done s.copies;
          };
    })

-- ---- the clocks in their list

module _ (net : Net) (cs : List Clone) (ended : List (ℕ × ℕ)) (k : ℕ) (now next : List ℕ) (procs : List ProcView)
    (world : LinkStands net cs ended k now next procs) where
  -- the clock of a station is at its place in the list
  pub clock-at : (s : ℕ) → HasStation net s → slice_index now (s - 1) ≡ clock net k s
  clock-at s is =
      let low = is.low in
      let high = is.high in
      let e : s - 1 + 1 ≡ s = omega (arith, low) in
      world.clocks_are.now_are.each (s - 1) (omega (arith, low, high)) ∙ ap (clock net k) e

  -- if all clocks are at the horizon, so is each in the list
  pub done-at : AreAllDone net k → (i : ℕ) → i < length now → slice_index now i ≡ net.horizon
  done-at done i l =
      let c = world.clocks_are.now_are.count in
      world.clocks_are.now_are.each i (omega (arith, l, c)) ∙ done (i + 1) (omega arith, omega (arith, l, c))

  -- and if each in the list is at the horizon, all clocks are
  pub all-done : ((i : ℕ) → i < length now → slice_index now i ≡ net.horizon) → AreAllDone net k
  all-done all s is =
      let c = world.clocks_are.now_are.count in
      let low = is.0 in
      let high = is.1 in
      sym (clock-at s (record { low = low; high = high })) ∙ all (s - 1) (omega (arith, low, high, c))

  -- one more round can be counted
  pub round-fits : ¬ (AreAllDone net k) → k < MAX_HORIZON
  round-fits going =
      let b = rounds-below net k world.stands.valid going in
      let h = world.stands.valid.horizon_max in
      omega (arith, b, h)
