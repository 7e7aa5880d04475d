use Rattle.std.proofs.Common.{ap, ◌∙◌}
use Rattle.decision_desk.proofs.pass.leave_full.Goals as goal

pub end_full_turn-requires-clause-account : goal.end_full_turn-requires-clause-account
end_full_turn-requires-clause-account c =
    (_, ap (λ m. m.0.accounts) c.give_book.ensures.seat ∙ ap (λ m. m.0.accounts) c.requires.turn)
