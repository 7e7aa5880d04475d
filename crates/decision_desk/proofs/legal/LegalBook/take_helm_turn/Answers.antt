use Rattle.decision_desk.proofs.Leasts.{is_helm_turn}
use Rattle.decision_desk.proofs.legal.LegalBook.take_helm_turn.Goals as goal

pub returns : goal.returns
returns c = record {
  turn = λ helm cs is count. is_helm_turn c.args.self.now c.raise.new.self c.args.known c.in_ok-turn.turn helm cs
      is count c.in_ok-turn.ensures.is_next c.in_ok-raise.ensures.ok;
}
