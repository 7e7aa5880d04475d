use Rattle.std.proofs.Common.{rules, ◌≡◌, false, refl}
use Rattle.sim_outer.specs.MemInputsView.{next_prefix, prefix_by_name, next_fails}
use Rattle.sim_outer.proofs.mem_inputs.MemInputsInputs.fetch.Goals as goal

pub returns-clause-failed : goal.returns-clause-failed
returns-clause-failed c =
    let passes : next_fails c.args.self.now ≡ false = search rules in
    let same : next_prefix c.args.self.now c.args.name.now ≡ prefix_by_name c.args.self.now.files c.args.name.now =
    rw passes refl in
    rw (same, ← c.self.view_is, ← c.as_slice-2.ensures.value) c.prefix_by_name.ensures.failed
