-- A world at its front: what readers get, and the front as a cut.
use Rattle.std.proofs.Common.{◌≡◌, ℕ, ◌+◌, ◌≤◌, List, sym, ap, subst, arith}
use Rattle.sim_base.specs.Clones.{Clone}
use Rattle.clone_sets.specs.Sets.{has}
use Rattle.net_model.specs.Net.{Net}
use Rattle.stations.specs.Runs.{simulation}
use Rattle.stations.proofs.GoodLaws.{lawful-stations}
use Rattle.run_laws.specs.Copies.{Stands, ends_of}
use Rattle.phys_proc.specs.Ends.{ends_in}
use Rattle.phys_proc.specs.Procs.{ProcView}
use Rattle.phys_proc.proofs.Ends.{ends_in-bound}
use Rattle.link_laws.proofs.CutStands.{cut_of_front, front_of_cut}
use Rattle.world_core.specs.Cuts.{CutStands}
use Rattle.world_core.specs.Worlds.{AreInNet, StandsAt, WorldStands}

-- ---- a world at its front

-- the copies at a place also represent the clones with the network and the lists that a reader gets
pub stands_for_reader : (net shown_net : Net) (cs shown : List Clone) (front i : ℕ) (p : ProcView) → shown_net ≡ net
    → shown ≡ cs →
    StandsAt net cs front i p → Stands (simulation shown_net) has shown front p.station p.copies
stands_for_reader net shown_net cs shown front i p e f at =
    subst (λ n. Stands (simulation n) has shown front p.station p.copies) (sym e)
    (subst (λ ds. Stands (simulation net) has ds front p.station p.copies) (sym f)
    (subst (λ s. Stands (simulation net) has cs front s p.copies) (sym at.station.number) at.copies))

-- the clones of a world are in its network
pub clones_in_net : (net : Net) (cs : List Clone) (ended : List (ℕ × ℕ)) (front : ℕ) (procs : List ProcView)
    → WorldStands net cs ended front procs → AreInNet net cs
clones_in_net net cs ended front procs world = record {
  plans = world.for_stations;
  ends = λ k l.
      let same : ends_in net.horizon ended k ≡ ends_of (simulation net) cs k = ap (λ f. f k) world.ends in
      let soon = ends_in-bound net.horizon ended k in
      omega (arith, same, soon);
}

-- ---- the front as a cut

-- a front is the cut with one time for all stations
pub cut_of_world : (net : Net) (cs : List Clone) (ended : List (ℕ × ℕ)) (front : ℕ) (procs : List ProcView)
    → WorldStands net cs ended front procs → CutStands net cs ended (λ s. front) procs
cut_of_world net cs ended front procs world = record {
  valid = world.valid;
  count = world.count;
  at_most = world.at_most;
  ends = world.ends;
  for_stations = world.for_stations;
  each = λ i p got.
      let s = world.each i p got in
      record {
        station = s.station;
        living = s.living;
        once = s.once;
        copies = cut_of_front (lawful-stations net world.valid) has cs front (i + 1) p.copies s.copies;
      };
}

-- and the other way
pub world_of_cut : (net : Net) (cs : List Clone) (ended : List (ℕ × ℕ)) (front : ℕ) (procs : List ProcView)
    → front ≤ net.horizon → CutStands net cs ended (λ s. front) procs → WorldStands net cs ended front procs
world_of_cut net cs ended front procs within at = record {
  valid = at.valid;
  time_max = within;
  count = at.count;
  at_most = at.at_most;
  ends = at.ends;
  for_stations = at.for_stations;
  each = λ i p got.
      let s = at.each i p got in
      record {
        station = s.station;
        living = s.living;
        once = s.once;
        copies = front_of_cut (lawful-stations net at.valid) has cs front (i + 1) p.copies s.copies;
      };
}
