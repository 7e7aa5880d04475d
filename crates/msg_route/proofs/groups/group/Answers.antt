use Rattle.std.proofs.Common.{◌≡◌, rules}
use Rattle.msg_route.specs.Grouping.{group_of}
use Rattle.msg_route.proofs.GroupLaws.{group_is_grouped}
use Rattle.msg_route.proofs.groups.group.Goals as goal

pub returns-clause-grouped : goal.returns-clause-grouped
returns-clause-grouped c =
    let value : c.loop-pair.grouped.items ≡ group_of c.args.sent.items = search rules in
    rw value (group_is_grouped c.args.sent.items)
