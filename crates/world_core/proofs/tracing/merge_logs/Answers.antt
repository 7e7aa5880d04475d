use Rattle.std.proofs.Common.{◌≡◌, ◌++◌, ◌-◌, ap, ap₂, ◌∙◌, arith, length, drop, take, length-drop}
use Rattle.std.proofs.lemmas.List.{take_all}
use Rattle.world_core.specs.Tracing.{by_key}
use Rattle.world_core.proofs.Merging.{first_left, second_left}
use Rattle.world_core.proofs.tracing.merge_logs.Goals.{then-loop-i-test+else-j-ys, else-loop-i-test}
use Rattle.world_core.proofs.tracing.merge_logs.Goals as goal

pub returns : goal.returns
returns c =
    let xs = c.args.xs.now in
    let ys = c.args.ys.now in
    let i = c.loop-i.i in
    let j = c.loop-i.j in
    let out = c.loop-i.out.items in
    let h = c.loop-i.invariant in
    let first = c.in_ok-extend_from_slice.ensures.items in
    let second = c.in_ok-extend_from_slice-2.ensures.items in
    let rest_of_xs : take (length xs - i) (drop i xs) ≡ drop i xs =
    take_all (length xs - i) (drop i xs) (let l = length-drop i xs in omega (arith, l)) in
    let rest_of_ys : take (length ys - j) (drop j ys) ≡ drop j ys =
    take_all (length ys - j) (drop j ys) (let l = length-drop j ys in omega (arith, l)) in
    let whole : c.extend_from_slice-2.new.self.items ≡ (out ++ drop i xs) ++ drop j ys =
    second ∙ ap₂ (λ a b. a ++ b) (first ∙ ap (λ l. out ++ l) rest_of_xs) rest_of_ys in
    record {
      value = whole ∙ elim c.loop-i-test.branch [
        | then-loop-i-test+else-j-ys w ↦ let l = w.if-j-ys.false in
            first_left by_key xs ys out i j h.so_far (omega (arith, l))
        | else-loop-i-test w ↦ let l = w.loop-i-test.false in
            second_left by_key xs ys out i j h.so_far (omega (arith, l))
      ];
    }
