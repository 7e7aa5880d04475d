-- A run in rounds from its beginning to the horizon.
use Rattle.std.proofs.Common.{◌≡◌, ℕ, Err, Ok, ap, arith, refl, subst, sym, ◌∙◌}
use Rattle.net_model.specs.Net.{Net}
use Rattle.net_model.specs.Rules.{IsNet}
use Rattle.world_core.specs.Overs.{NoneBeyond}
use Rattle.study_run.specs.declared.fault.StudyFault.{StudyFault}
use Rattle.study_run.specs.declared.fault.StudyFault.TheVariants.{LimitMet, NoMemory}
use Rattle.world_core.specs.Worlds.{WorldView}
use Rattle.link_clocks.specs.LinkWorlds.{LinkView, total_after}
use Rattle.link_clocks.specs.NetClocks.{AreAllDone, AreAllRounds}
use Rattle.link_clocks.proofs.RoundCounts.{rounds-few, rounds-made}
use Rattle.link_clocks.proofs.Totals.{total_done, total_first}
use Rattle.study_run.specs.Linking.{HasGoneOn, HasStopped, IsLinkedRun}
use Rattle.study_run.specs.declared.linked_study.LinkedWorld.{LinkedWorld}

-- ---- HasGoneOn, from the beginning

-- a run has reached its first world
pub HasGoneOn-first : (w : LinkView) (s : ℕ) → HasGoneOn w w s s
HasGoneOn-first w s = record { net_is = refl; clones_are = refl; going = λ first. first; steps = refl }

-- ---- IsLinkedRun

-- before the first round nothing was handled
none_at_first : (w : LinkView) → w.rounds ≡ 0 → total_after w.net w.clones w.rounds ≡ 0
none_at_first w first = ap (total_after w.net w.clones) first ∙ total_first w.net w.clones

-- the fault of a run is one from its beginning
pub IsLinkedRun-stopped : (w : LinkView) (s t : ℕ) (e : StudyFault) → w.rounds ≡ 0 → HasStopped w s t e →
    IsLinkedRun w.net w.clones s t (Err e)
IsLinkedRun-stopped w s t NoMemory first h = record {
  net_is = tt;
  clones_are = tt;
  front = tt;
  within = tt;
  rounds = tt;
  rounds_few = tt;
  steps = tt;
  fault = tt;
}
IsLinkedRun-stopped w s t (LimitMet station who) first h = record {
  net_is = tt;
  clones_are = tt;
  front = tt;
  within = tt;
  rounds = tt;
  rounds_few = tt;
  steps = tt;
  fault = (h.0, let none = none_at_first w first in let few = h.1 in omega (arith, none, few));
}

-- a run whose clocks are all at the horizon has made the rounds of its network
pub IsLinkedRun-ended : (w v : LinkView) (s t : ℕ) (run : LinkedWorld) → w.rounds ≡ 0 → HasGoneOn w v s t →
    AreAllDone v.net v.rounds → IsNet v.net →
    run.world ≡ record { net = v.net; clones = v.clones; front = v.net.horizon } → run.rounds ≡ v.rounds →
    NoneBeyond run.world.net run.world.clones run.world.front → IsLinkedRun w.net w.clones s t (Ok run)
IsLinkedRun-ended w v s t run first gone done valid world rounds within =
    let net = gone.net_is in
    let clones : run.world.clones ≡ w.clones = ap (λ (x : WorldView). x.clones) world ∙ gone.clones_are in
    let same : run.world.net ≡ w.net = ap (λ (x : WorldView). x.net) world ∙ net in
    let front : run.world.front ≡ w.net.horizon = ap (λ (x : WorldView). x.front) world
    ∙ ap (λ (n : Net). n.horizon) net in
    let all : AreAllDone w.net v.rounds = subst (λ n. AreAllDone n v.rounds) net done in
    let made : AreAllRounds w.net run.rounds = subst (AreAllRounds w.net) (sym rounds)
    (rounds-made w.net v.rounds all (gone.going (λ j e. absurd (omega (arith, first, e))))) in
    record {
      net_is = same;
      clones_are = clones;
      front = front;
      within = subst (NoneBeyond w.net run.world.clones) front
          (subst (λ n. NoneBeyond n run.world.clones run.world.front) same within);
      rounds = made;
      rounds_few = rounds-few w.net run.rounds (subst IsNet net valid) made;
      steps =
          let steps = gone.steps in
          let none = none_at_first w first in
          let end = total_done w.net w.clones v.rounds all in
          omega (arith, steps, none, end);
      fault = tt;
    }
