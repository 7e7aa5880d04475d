use Rattle.std.proofs.Common.{subst}
use Rattle.net_model.specs.Net.{Net}
use Rattle.net_model.specs.Rules.{IsNet}
use Rattle.live_study.proofs.Stepping.{goes_ahead, may_take}
use Rattle.engine_tests.proofs.decision_desk_tests.raise_front.Goals as goal

pub take-requires : goal.take-requires
take-requires g c =
    let t = c.in_ok-turn.ensures.turn in
    record {
      accepted = may_take _ c.args.world c.in_ok-turn.turn _ t.0 _ c.requires.may_turn.in_step t.1
          c.as_slice-2.ensures.value;
    }

pub returns-clause-raised : goal.returns-clause-raised
returns-clause-raised g c =
    let t = c.in_ok-turn.ensures.turn in
    goes_ahead _ c.args.world c.in_ok-turn.turn _ t.0 _ c.in_ok-world.world c.requires.may_turn.in_step t.1
    c.as_slice-2.ensures.value c.in_ok-world.ensures.value
    (subst (λ (n : Net). IsNet n) c.model.ensures.value c.lookahead-valid.ensures.valid)
    c.lists-short.ensures.length_max
