use Rattle.std.proofs.Common.{◌+◌, ◌∙◌, ap, take}
use Rattle.log_chain.proofs.Chains.{take-insert}
use Rattle.log_chain.proofs.segments.put_behind.Goals as goal

pub returns-clause-ok : goal.returns-clause-ok
returns-clause-ok c =
    c.truncate.ensures.items ∙ (ap (λ l. take (c.args.before + 1) l) c.in_ok-insert.ensures.items
    ∙ take-insert c.args.segments.now.items c.args.before c.args.segment c.requires.within)
