use Rattle.std.proofs.Common.{◌≡◌, [], length, sym, ap, ◌∙◌, ◌∷◌, arith}
use Rattle.clone_sets.specs.Sets.{members}
use Rattle.clone_sets.proofs.MemberLaws.{members-empty, members_first}
use Rattle.clone_sets.proofs.members.MembersIterator.next.Goals as goal

pub returns-in_err-first-clause-steps : goal.returns-in_err-first-clause-steps
returns-in_err-first-clause-steps c =
    let none : c.args.self.now ≡ [] = sym c.self.view_is ∙ ap members c.in_err-first.ensures.none ∙ members-empty in
    rw c.from_residual.ensures (none, none)

abbrev stepped : (c : goal.After-self-1) → c.args.self.now ≡ c.in_ok-first.first ∷ members c.without-self-inside.result
stepped c =
    sym c.self.view_is ∙ members_first _ _ c.in_ok-first.ensures.some c.in_ok-first.ensures.below
    ∙ ap (λ s. c.in_ok-first.first ∷ members s) (sym c.without-self-inside.ensures.value)

pub returns-clause-steps : goal.returns-clause-steps
returns-clause-steps c = stepped c

pub returns-clause-goes : goal.returns-clause-goes
returns-clause-goes c =
    let shorter = ap length (stepped c) in
    record { on = λ _. (tt, tt, omega (arith, shorter)); keeps = tt; rests = λ _. tt }
