use Rattle.std.proofs.Common.{◌≡◌}
use Rattle.toml.specs.View.{members_view}
use Rattle.net_model.specs.Keys.{least_unknown}
use Rattle.net_model.proofs.UnknownKeys.{first_unknown}
use Rattle.net_model.proofs.keys.only_members.Given as goal

abbrev pub invariant-keys : goal.invariant-keys
invariant-keys l = least_unknown l.fn.fields (members_view l.fn.table.entries) ≡ first_unknown l.fn.fields
    (members_view l.key-iterator)
