use Rattle.std.proofs.Common.{◌≡◌}
use Rattle.live_study.specs.Engines.{InStep}
use Rattle.engine_tests.proofs.decision_desk_tests.take_turns.Given as goal

abbrev pub invariant-loop : goal.invariant-loop
invariant-loop g l = record {
  desk : l.helm.desk ≡ l.fn.helm.desk;
  in_step : InStep l.helm l.world;
}

abbrev pub ghosts-take_turn_counted : goal.ghosts-take_turn_counted
ghosts-take_turn_counted g a = record { name = a.blank.name; parts = a.blank.parts }
