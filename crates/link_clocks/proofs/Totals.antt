-- The messages that the rounds of a run handle together.
use Rattle.std.proofs.Common.{◌≡◌, ℕ, zero, suc, ◌≤◌, List, refl, ap, arith, length}
use Rattle.sim_base.specs.Clones.{Clone}
use Rattle.sim_base.specs.Same.{same_entry}
use Rattle.net_model.specs.Net.{Net}
use Rattle.stations.specs.Runs.{simulation, handled_once}
use Rattle.run_laws.specs.SharedTexts.{station_sum}
use Rattle.run_laws.proofs.HandledStays.{handled-0}
use Rattle.world_core.specs.Worlds.{total_handled}
use Rattle.link_laws.specs.Clocks as clocks
use Rattle.link_clocks.specs.NetClocks.{clock, AreAllDone}
use Rattle.link_clocks.specs.LinkWorlds.{total_after}

-- if all clocks are at the horizon, the total is what is handled up to the horizon
pub total_done : (net : Net) (cs : List Clone) (k : ℕ) → AreAllDone net k →
    total_after net cs k ≡ total_handled net cs net.horizon
total_done net cs k done = to (length net.sites) (omega arith)
  where
    to : (n : ℕ) → n ≤ length net.sites → station_sum (λ s. handled_once net cs s (clock net k s)) n
        ≡ station_sum (λ s. handled_once net cs s net.horizon) n
    to zero l = refl
    to (suc n) l =
        let h = to n (omega (arith, l)) in
        let d : clock net k (suc n) ≡ net.horizon = done (suc n) (omega arith, l) in
        let e = ap (handled_once net cs (suc n)) d in
        omega (arith, h, e)

-- before the first round the total is 0
pub total_first : (net : Net) (cs : List Clone) → total_after net cs 0 ≡ 0
unfolding clocks.clock
total_first net cs = to (length net.sites)
  where
    to : (n : ℕ) → station_sum (λ s. handled_once net cs s 0) n ≡ 0
    to zero = refl
    to (suc n) = let h = to n in let e = handled-0 (simulation net) same_entry cs (suc n) in omega (arith, h, e)
