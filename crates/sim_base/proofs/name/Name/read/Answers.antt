use Rattle.std.proofs.Common.{◌≡◌, true, rules}
use Rattle.sim_base.specs.Names.{is_name}
use Rattle.sim_base.proofs.NameBytes.{padded_name}
use Rattle.sim_base.proofs.name.Name.read.Goals as goal

pub invariant_of-result : goal.invariant_of-result
invariant_of-result c =
    let named : is_name c.args.text.now ≡ true = search rules in
    rw c.copy_from_slice.ensures.after (padded_name c.args.text.now named)
