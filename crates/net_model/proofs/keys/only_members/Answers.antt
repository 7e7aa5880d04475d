use Rattle.net_model.proofs.UnknownKeys.{least_unknown-first}
use Rattle.net_model.proofs.keys.only_members.Goals as goal

pub keys-init : goal.keys-init
keys-init c =
    rw (c.into_iter-key-iterator.ensures.into_iter_gives, c.iter-key-items.ensures.rest)
    (least_unknown-first c.args.fields.now c.args.table.now.entries c.iter-key-items.ensures.ordered)
