use Rattle.std.proofs.Common.{◌∙◌}
use Rattle.net_model.proofs.ElementByElement.{link_of_named-Some, link_of_named-None}
use Rattle.net_model.proofs.resolve.resolve_link.Goals as goal

pub returns-in-Some : goal.returns-in-Some
returns-in-Some c =
    c.link_into.ensures
    ∙ link_of_named-Some c.args.lookahead c.args.drafts.now c.args.station c.args.link.now c.in-Some.i
    c.index-drafts-i.result c.in-Some.ensures.value c.in-Some.ensures.in_range c.index-drafts-i.is

pub returns-in-None : goal.returns-in-None
returns-in-None c =
    link_of_named-None c.args.lookahead c.args.drafts.now c.args.station c.args.link.now c.in-None.ensures.value
