use Rattle.std.proofs.Common.{rules, ◌≡◌, true, false, sym, ◌∙◌}
use Rattle.std.specs.Cmp.Lexicographic.{nat_list_cmp_total}
use Rattle.std.specs.FinMap as finite
use Rattle.std.specs.Str.{bytes_eq}
use Rattle.sim_outer.proofs.Finding.{find-drop}
use Rattle.sim_outer.proofs.mem_inputs.look_up.Goals as goal

pub loop-word-init : goal.loop-word-init
loop-word-init c = finite.get-from_entries nat_list_cmp_total _ _

pub returns-then-eq : goal.returns-then-eq
returns-then-eq c =
    let here : bytes_eq c.args.name.now c.loop-word-item.result.0 ≡ true = search rules in
    let found = find-drop c.args.name.now c.args.files.now c.loop-word.word-index c.loop-word-item.result
    c.loop-word-test.true c.loop-word-item.is in
    record { value = rw c.as_slice.ensures.value (sym (c.loop-word.invariant ∙ rw here at found)) }

pub loop-word-preserved : goal.loop-word-preserved
loop-word-preserved c =
    let other : bytes_eq c.args.name.now c.loop-word-item.result.0 ≡ false = search rules in
    let found = find-drop c.args.name.now c.args.files.now c.loop-word.word-index c.loop-word-item.result
    c.loop-word-test.true c.loop-word-item.is in
    c.loop-word.invariant ∙ rw other at found
