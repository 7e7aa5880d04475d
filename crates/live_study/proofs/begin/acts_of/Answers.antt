use Rattle.std.proofs.Common.{◌≡◌, ◌∙◌, ◌<◌, ap, arith, take, length}
use Rattle.std.proofs.lemmas.List.{take_all}
use Rattle.std.proofs.lemmas.Option.{get_or_from_slice_get}
use Rattle.live_study.specs.Scripts.{acts_by}
use Rattle.live_study.proofs.Beginning.{acts_by-take, few_by}
use Rattle.live_study.proofs.begin.acts_of.Goals as goal

pub loop-i-preserved : goal.loop-i-preserved
loop-i-preserved c =
    let items = c.args.script.now.items in
    let item = c.item.result in
    let less : c.loop-i.i < length items = omega (arith, c.loop-i-test.true, c.len-i-end.ensures.value) in
    c.in_ok-push_own.ensures.value ∙ acts_by-take c.args.a items c.loop-i.i item _ less
    (get_or_from_slice_get items c.loop-i.i item item c.item.ensures.value) c.loop-i.invariant

pub returns-clause-value : goal.returns-clause-value
returns-clause-value c =
    c.loop-i.invariant ∙ ap (acts_by c.args.a)
    (take_all c.loop-i.i c.args.script.now.items (omega (arith, c.loop-i-test.false, c.len-i-end.ensures.value)))

pub returns-clause-at_most : goal.returns-clause-at_most
returns-clause-at_most c =
    let items = c.args.script.now.items in
    let whole : take c.loop-i.i items ≡ items =
    take_all c.loop-i.i items (omega (arith, c.loop-i-test.false, c.len-i-end.ensures.value)) in
    let own : length c.loop-i.own.items ≡ length (acts_by c.args.a items) =
    ap length (c.loop-i.invariant ∙ ap (acts_by c.args.a) whole) in
    omega (arith, own, few_by c.args.a items, c.len-i-end.ensures.valid.few_items)
