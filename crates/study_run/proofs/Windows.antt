-- One window of a world, to its next front.
use Rattle.std.proofs.Common.{◌≡◌, ℕ, ◌+◌, ◌-◌, ◌<◌, ◌≤◌, sym, ap, arith, subst}
use Rattle.std.proofs.Common.{Result, Ok, Err, IfOk, IfErr}
use Rattle.net_model.specs.Rules.{IsNet}
use Rattle.world_core.specs.Overs.{IsFault, NoneBeyond}
use Rattle.world_core.specs.Worlds.{WorldView, total_handled}
use Rattle.world_core.specs.declared.world.WorldFault.{WorldFault}
use Rattle.study_run.specs.Windows.{IsAtHorizon, IsWindow, front_after}
use Rattle.study_run.proofs.OverLaws.{rises}

-- a world that is not at the horizon is before it
pub before-horizon : (w : WorldView) → ¬ (IsAtHorizon w) → w.front ≤ w.net.horizon → w.front < w.net.horizon
before-horizon w going within = omega (arith, going, within)

-- the window of a world to its next front has this property
pub IsWindow-made : (w : WorldView) (bound s t : ℕ) (window : Result WorldView WorldFault) → IsNet w.net
    → w.front < w.net.horizon → bound ≡ front_after w
    → IfOk window (λ v. v ≡ record w { front = bound })
    → IfOk window (λ v. t + total_handled w.net w.clones w.front ≡ s + total_handled w.net w.clones bound)
    → IfOk window (λ v. NoneBeyond w.net w.clones bound)
    → IfErr window (λ e. IsFault w.net w.clones w.front bound s t e)
    → IsWindow w s window t
IsWindow-made w bound s t (Ok v) valid below is value steps short fault = record {
  valid = valid;
  below = below;
  at_front = subst (λ f. v ≡ record w { front = f }) is value;
  length_max = subst (NoneBeyond w.net w.clones) is short;
  steps = subst (λ f. t + total_handled w.net w.clones w.front ≡ s + total_handled w.net w.clones f) is steps;
  fault = tt;
}
IsWindow-made w bound s t (Err e) valid below is value steps short fault = record {
  valid = valid;
  below = below;
  at_front = tt;
  length_max = tt;
  steps = tt;
  fault = subst (λ f. IsFault w.net w.clones w.front f s t e) is fault;
}

-- the bound is above the front
pub front_after-rises : (w : WorldView) (bound : ℕ) → IsNet w.net → w.front < w.net.horizon → bound ≡ front_after w
    → w.front < bound
front_after-rises w bound valid below is = subst (λ f. w.front < f) (sym is) (rises w.net w.clones valid w.front below)

-- after a window less time is left
pub IsWindow-left : (w : WorldView) (s t : ℕ) (v : WorldView) → IsWindow w s (Ok v) t
    → v.net.horizon - v.front < w.net.horizon - w.front
IsWindow-left w s t v h =
    let below = h.below in
    let later = rises w.net w.clones h.valid w.front h.below in
    let front : v.front ≡ front_after w = ap (λ (x : WorldView). x.front) h.at_front in
    let same : v.net.horizon ≡ w.net.horizon = ap (λ (x : WorldView). x.net.horizon) h.at_front in
    omega (arith, below, later, front, same)
