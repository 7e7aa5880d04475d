use Rattle.std.proofs.Common.{◌++◌, ◌∷◌, [], ◌∙◌, ap, List, ℕ}
use Rattle.checkpoint.proofs.LinesText.{IsLinesText-pushed, lines_in-pushed}
use Rattle.checkpoint.proofs.trace_lines.TraceLines.push.Goals as goal

pub invariant_of-self-2 : goal.invariant_of-self-2
invariant_of-self-2 c = IsLinesText-pushed c.self.inside.text.items c.args.line.now c.push_ended.new.text.items
    c.self.inside.count c.self.invariant c.requires.one_line (c.in_ok-push_ended.ensures.ok)

pub returns-clause-ok : goal.returns-clause-ok
returns-clause-ok c = lines_in-pushed c.self.inside.text.items c.args.line.now c.push_ended.new.text.items
    c.self.inside.count c.self.invariant c.requires.one_line (c.in_ok-push_ended.ensures.ok)
    ∙ ap (λ (l : List (List ℕ)). l ++ c.args.line.now ∷ []) c.self.view_is
