-- One more round of a run in rounds.
use Rattle.std.proofs.Common.{◌≡◌, ℕ, suc, ◌+◌, ◌-◌, ◌<◌, ◌≤◌, ap, arith, length}
use Rattle.std.proofs.Common.{subst, sym, ◌∙◌}
use Rattle.sim_base.specs.Clones.{clone_at}
use Rattle.net_model.specs.Rules.{IsNet}
use Rattle.stations.proofs.GoodLaws.{lawful-stations}
use Rattle.run_laws.proofs.Gaining.{IsBeyond-later}
use Rattle.world_core.specs.Overs.{most_handled}
use Rattle.world_core.specs.declared.world.WorldFault.{WorldFault}
use Rattle.world_core.specs.declared.world.WorldFault.TheVariants as round
use Rattle.study_run.specs.Faults.{fault_of_window}
use Rattle.study_run.specs.declared.fault.StudyFault.{StudyFault}
use Rattle.study_run.specs.declared.fault.StudyFault.TheVariants.{LimitMet, NoMemory}
use Rattle.link_laws.proofs.Clocks.{clock-within}
use Rattle.link_clocks.specs.LinkWorlds.{IsRoundFault, LinkView, total_after}
use Rattle.link_clocks.specs.NetClocks.{AreAllDone, clock, delays_of}
use Rattle.link_clocks.proofs.RoundCounts.{rounds-below}
use Rattle.study_run.specs.Linking.{HasGoneOn, HasStopped, IsOverrun}

-- ---- HasGoneOn

module _ (old w : LinkView) (s t : ℕ) (gone : HasGoneOn old w s t) where
  -- the run after one more round
  pub HasGoneOn-round : (v : LinkView) (u : ℕ) → ¬ (AreAllDone w.net w.rounds)
      → v ≡ record w { rounds = suc w.rounds }
      → u + total_after w.net w.clones w.rounds ≡ t + total_after w.net w.clones (suc w.rounds)
      → HasGoneOn old v s u
  HasGoneOn-round v u going is steps =
      let one : v.rounds ≡ suc w.rounds = ap (λ (x : LinkView). x.rounds) is in
      record {
        net_is = ap (λ (x : LinkView). x.net) is ∙ gone.net_is;
        clones_are = ap (λ (x : LinkView). x.clones) is ∙ gone.clones_are;
        going = λ first j e done.
            let place : j ≡ w.rounds = omega (arith, one, e) in
            going (subst (λ n. AreAllDone n w.rounds) (sym gone.net_is) (subst (AreAllDone old.net) place done));
        steps =
            let before = gone.steps in
            let more : u + total_after old.net old.clones w.rounds ≡ t + total_after old.net old.clones (suc w.rounds) =
            subst (λ n. u + total_after n old.clones w.rounds ≡ t + total_after n old.clones (suc w.rounds)) gone.net_is
            (subst (λ cs. u + total_after w.net cs w.rounds ≡ t + total_after w.net cs (suc w.rounds)) gone.clones_are
            steps) in
            let end : total_after old.net old.clones v.rounds ≡ total_after old.net old.clones (suc w.rounds) =
            ap (total_after old.net old.clones) one in
            omega (arith, before, more, end);
      }

  -- the run if it stops later
  pub HasStopped-further : (u : ℕ) (e : StudyFault) → HasStopped w t u e → HasStopped old s u e
  HasStopped-further u NoMemory h = tt
  HasStopped-further u (LimitMet station who) h = (
    subst (λ n. IsOverrun n old.clones station who) gone.net_is
        (subst (λ cs. IsOverrun w.net cs station who) gone.clones_are h.0),
    let before = gone.steps in
        let few : u + total_after old.net old.clones w.rounds ≤ t + most_handled old.net (length old.clones) =
        subst (λ n. u + total_after n old.clones w.rounds ≤ t + most_handled n (length old.clones)) gone.net_is
        (subst (λ cs. u + total_after w.net cs w.rounds ≤ t + most_handled w.net (length cs)) gone.clones_are h.1)
        in omega (arith, before, few),
  )

  -- a log that is beyond the limit after a round is so at the horizon
  limit_met : (u station who kept : ℕ) → IsNet w.net
      → IsRoundFault w.net w.clones w.rounds t u (round.EventLimit station who kept)
      → HasStopped w t u (LimitMet station who)
  limit_met u station who kept valid h = (
    record {
      is_station = h.0.is_station;
      clone = h.0.clone;
      beyond = IsBeyond-later (lawful-stations w.net valid) (clone_at w.clones who) station
          (clock w.net (suc w.rounds) station) w.net.horizon
          (clock-within (delays_of w.net) (length w.net.sites) w.net.horizon (suc w.rounds) station) h.0.beyond;
    },
    h.2,
  )

  -- the run if it stops in a round
  pub HasStopped-round : (u : ℕ) (e : WorldFault) → IsNet w.net → IsRoundFault w.net w.clones w.rounds t u e →
      HasStopped old s u (fault_of_window e)
  HasStopped-round u round.NoMemory valid h = tt
  HasStopped-round u (round.EventLimit station who kept) valid h =
      HasStopped-further u (LimitMet station who) (limit_met u station who kept valid h)

-- ---- the rounds that are left

-- after a round one round less is left
pub fewer-left : (w v : LinkView) → IsNet w.net → ¬ (AreAllDone w.net w.rounds) → v ≡ record w { rounds = suc w.rounds }
    → v.net.horizon - v.rounds < w.net.horizon - w.rounds
fewer-left w v valid going is =
    let below = rounds-below w.net w.rounds valid going in
    let horizon : v.net.horizon ≡ w.net.horizon = ap (λ (x : LinkView). x.net.horizon) is in
    let one : v.rounds ≡ suc w.rounds = ap (λ (x : LinkView). x.rounds) is in
    omega (arith, below, horizon, one)
