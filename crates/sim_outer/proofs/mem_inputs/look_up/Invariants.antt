use Rattle.std.proofs.Common.{◌≡◌, drop}
use Rattle.std.specs.Cmp.Lexicographic.{slice_cmp}
use Rattle.std.specs.FinMap as finite
use Rattle.std.specs.Ordering.{nat_cmp}
use Rattle.sim_outer.specs.MemInputsView.{named_bytes, files_by_name}
use Rattle.sim_outer.proofs.mem_inputs.look_up.Given as goal

abbrev pub invariant-loop-word : goal.invariant-loop-word
invariant-loop-word l = finite.get (files_by_name (named_bytes l.files)) l.name
    ≡ finite.find (slice_cmp nat_cmp) l.name (named_bytes (drop l.word-index l.files))
