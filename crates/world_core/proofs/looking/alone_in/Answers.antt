use Rattle.std.proofs.Common.{◌≡◌, ◌+◌, ◌*◌, arith, ap, ap₂, sym, ◌∙◌, length, take}
use Rattle.std.proofs.lemmas.List.{take_all}
use Rattle.sim_base.proofs.Elements.{take_next}
use Rattle.clone_sets.specs.Sets.{size}
use Rattle.phys_proc.specs.Own.{handled_alone_by}
use Rattle.world_core.proofs.DueTimes.{alone_next, alone_within}
use Rattle.world_core.proofs.looking.alone_in.Goals as goal

pub overflow_add-sum : goal.overflow_add-sum
overflow_add-sum c =
    let xs = c.args.copies.now in
    let x = c.copy-item.result in
    let few = c.requires.at_most in
    let l = alone_within xs c.loop-copy.copy-index x c.loop-copy-test.true c.copy-item.is c.requires.length_max in
    let a = c.loop-copy.invariant in
    let b : c.len.result * c.len-in-loop-copy.result ≡ size x.set * length x.log =
    ap₂ (λ m n. m * n) (c.len.ensures.value ∙ ap size c.set.ensures.value) (c.len-in-loop-copy.ensures.value
    ∙ ap length c.log.ensures.value) in
    omega (arith, l, a, b, few)

pub loop-copy-preserved : goal.loop-copy-preserved
loop-copy-preserved c =
    let xs = c.args.copies.now in
    let x = c.copy-item.result in
    let i = c.loop-copy.copy-index in
    let b : c.len.result * c.len-in-loop-copy.result ≡ size x.set * length x.log =
    ap₂ (λ m n. m * n) (c.len.ensures.value ∙ ap size c.set.ensures.value) (c.len-in-loop-copy.ensures.value
    ∙ ap length c.log.ensures.value) in
    ap₂ (λ m n. m + n) c.loop-copy.invariant b ∙ sym (alone_next (take i xs) x)
    ∙ ap handled_alone_by (sym (take_next xs i x c.loop-copy-test.true c.copy-item.is))

pub returns : goal.returns
returns c = record {
  value = c.loop-copy.invariant
      ∙ ap handled_alone_by (take_all c.loop-copy.copy-index c.args.copies.now (let l = c.loop-copy-test.false in
      omega (arith, l)));
}
