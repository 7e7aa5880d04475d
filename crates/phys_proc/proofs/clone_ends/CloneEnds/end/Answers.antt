use Rattle.std.proofs.Common.{sym, ap, subst, ◌∙◌, ◌++◌, ◌∷◌, []}
use Rattle.phys_proc.specs.Ends.{AreEndsOfClones}
use Rattle.phys_proc.proofs.Ends.{ends_in-more, AreEndsOfClones-more}
use Rattle.phys_proc.proofs.clone_ends.CloneEnds.end.Goals as goal

pub invariant_of-self : goal.invariant_of-self
invariant_of-self c = subst AreEndsOfClones (sym c.in_err-push.ensures.items) c.self.invariant

pub invariant_of-self-2 : goal.invariant_of-self-2
invariant_of-self-2 c = AreEndsOfClones-more c.self.inside.ended.items c.push.new.self.items c.args.clone
    c.args.at c.in_ok-push.ensures.items c.requires.clone c.self.invariant

pub returns-clause-ends : goal.returns-clause-ends
returns-clause-ends c = λ horizon d. ends_in-more horizon c.args.self.now c.push.new.self.items c.args.clone c.args.at d
    (c.in_ok-push.ensures.items ∙ ap (λ l. l ++ (c.args.clone, c.args.at) ∷ []) c.self.view_is)
