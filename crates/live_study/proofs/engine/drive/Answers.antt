use Rattle.std.proofs.Common.{◌≡◌, ◌∙◌, ap, arith, refl}
use Rattle.net_model.specs.Net.{Net}
use Rattle.live_study.proofs.engine.drive.Goals as goal

pub turns-init : goal.turns-init
turns-init g c = record {
  steers = record { desk = refl; net = refl; parts = refl; made = refl; accounts = refl };
  in_step = c.requires.may_drive.in_step;
  counted = refl;
  shown = c.requires.may_drive.shown;
  readers = refl;
  tells = λ at. let ahead = c.requires.may_drive.below_horizon in absurd (omega (arith, at, ahead));
}

pub returns-clause-driven : goal.returns-clause-driven
returns-clause-driven g c =
    let kept = c.turns.invariant in
    let horizon = ap (λ (n : Net). n.horizon) c.model.ensures.value in
    let at : c.turns.world.front ≡ c.turns.world.net.horizon = omega (
      arith,
      c.turns-test.false,
      c.front.ensures.value,
      c.front.ensures.within,
      c.horizon.ensures.value,
      horizon,
    ) in
    let told = kept.tells at in
    record {
      steers = kept.steers;
      in_step = (kept.in_step, at);
      shown = kept.shown;
      tells = (told.0, told.1 ∙ kept.readers);
      stops = tt;
    }
