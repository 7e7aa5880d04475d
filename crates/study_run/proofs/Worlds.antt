-- A world that advances from window to window: its network and its clones.
use Rattle.std.proofs.Common.{◌≡◌, ℕ, zero, suc, ◌+◌, ◌<◌, refl, sym, ap, ap₂, ◌∙◌, subst, arith, List}
use Rattle.sim_base.specs.Clones.{Clone}
use Rattle.sim_base.specs.Same.{same_entry}
use Rattle.net_model.specs.Net.{Net}
use Rattle.net_model.specs.Rules.{IsNet}
use Rattle.run_laws.specs.SharedTexts.{station_sum}
use Rattle.run_laws.proofs.HandledStays.{handled-0}
use Rattle.stations.specs.Runs.{handled_once, next_front, simulation}
use Rattle.world_core.specs.Overs.{IsFault, NoneBeyond}
use Rattle.world_core.specs.Worlds.{total_handled}
use Rattle.world_core.specs.declared.world.WorldFault.{WorldFault}
use Rattle.world_core.specs.declared.world.WorldFault.TheVariants.{EventLimit, NoMemory}
use Rattle.study_run.specs.Faults.{IsFaultOfAll, StopsAll, fault_of_window}
use Rattle.study_run.proofs.Meeting.{found_met}
use Rattle.study_run.specs.Overs.{HasCome}
use Rattle.study_run.proofs.OverLaws.{comes_next, over_here}

-- ---- station_sum
-- at first nothing was handled
pub none_handled : (net : Net) (cs : List Clone) (n : ℕ) → station_sum (λ s. handled_once net cs s 0) n ≡ 0
none_handled net cs zero = refl
none_handled net cs (suc n) =
    let before = none_handled net cs n in
    let here = handled-0 (simulation net) same_entry cs (n + 1) in
    let e : suc n ≡ n + 1 = omega arith in
    let at = ap (λ s. handled_once net cs s 0) e in
    omega (arith, before, here, at)

-- ---- StopsAll
-- a window at whose end a log is beyond the limit
stops_at : (net : Net) (cs : List Clone) (front : ℕ) → front < net.horizon → IsNet net
    → (start mid new station who kept : ℕ)
    → HasCome net cs front → mid ≡ start + total_handled net cs front
    → IsFault net cs front (next_front net cs front) mid new (EventLimit station who kept)
    → StopsAll net cs start new station who
stops_at net cs front below valid start mid new station who kept come steps h =
    let most = h.2 in
    record {
      meets = found_met net valid cs station who (over_here net cs front below station who come h.0);
      at_most = omega (arith, most, steps);
    }

-- ---- next_front, HasCome, total_handled, IsFaultOfAll, after one more window
module _ (net told : Net) (cs those : List Clone) (front bound : ℕ) (same_net : told ≡ net) (same_clones : those ≡ cs)
    (next : bound ≡ next_front told those front) (below : front < net.horizon) where
  -- the bound is the next front of this network and of these clones
  next_is : bound ≡ next_front net cs front
  next_is = next ∙ ap₂ (λ (n : Net) l. next_front n l front) same_net same_clones

  pub comes_in : (now : ℕ) → now ≡ bound → IsNet net → HasCome net cs front → NoneBeyond told those bound
      → HasCome net cs now
  comes_in now is valid come none =
      let one : NoneBeyond net those bound = subst (λ (n : Net). NoneBeyond n those bound) same_net none in
      let two : NoneBeyond net cs bound = subst (λ l. NoneBeyond net l bound) same_clones one in
      subst (HasCome net cs) (sym (is ∙ next_is))
      (comes_next net cs front below valid come (subst (NoneBeyond net cs) next_is two))

  -- steps that exceed a base by what the clones handle up to the front do so up to the next front after a window
  pub steps_in : (base now start mid new : ℕ) → now ≡ bound → mid + base ≡ start + total_handled net cs front
      → new + total_handled told those front ≡ mid + total_handled told those bound
      → new + base ≡ start + total_handled net cs now
  steps_in base now start mid new is before steps =
      let a : total_handled told those front ≡ total_handled net cs front =
      ap₂ (λ (n : Net) l. total_handled n l front) same_net same_clones in
      let b : total_handled told those bound ≡ total_handled net cs bound =
      ap₂ (λ (n : Net) l. total_handled n l bound) same_net same_clones in
      let c : total_handled net cs now ≡ total_handled net cs bound = ap (total_handled net cs) is in
      omega (arith, a, b, c, before, steps)

  -- the run of all clones ends with the fault of a window in which a log is beyond the limit at the next front
  pub stops_in : (start mid new : ℕ) (e : WorldFault) → IsNet net → HasCome net cs front
      → mid ≡ start + total_handled net cs front
      → IsFault told those front bound mid new e → IsFaultOfAll net cs start new (fault_of_window e)
  stops_in start mid new NoMemory valid come steps h = tt
  stops_in start mid new (EventLimit station who kept) valid come steps h =
      let one : IsFault net those front bound mid new (EventLimit station who kept) =
      subst (λ (n : Net). IsFault n those front bound mid new (EventLimit station who kept)) same_net h in
      let two : IsFault net cs front bound mid new (EventLimit station who kept) =
      subst (λ l. IsFault net l front bound mid new (EventLimit station who kept)) same_clones one in
      stops_at net cs front below valid start mid new station who kept come steps
      (subst (λ b. IsFault net cs front b mid new (EventLimit station who kept)) next_is two)
