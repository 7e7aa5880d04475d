use Rattle.std.proofs.Common.{◌≡◌, ◌∙◌, ◌+◌, ◌∷◌, ◌++◌, [], sym, ap, subst, arith, take, ◌<◌, ◌≤◌, length}
use Rattle.std.proofs.Math.ListN.{length-take}
use Rattle.decision_script.specs.declared.item.Act.{Act as OfAct}
use Rattle.sim_base.proofs.Elements.{take_next}
use Rattle.decision_desk.specs.Desks.{desk_id}
use Rattle.live_study.specs.Asking.{HasAsked}
use Rattle.live_study.specs.Showing.{HasLooked}
use Rattle.live_study.proofs.Doing.{IsSameAnalyst-trans, free_for_one}
use Rattle.live_study.proofs.asking.act_all.Goals as goal

pub loop-k-preserved : goal.loop-k-preserved
loop-k-preserved g c =
    let inv = c.loop-k.invariant in
    let items = c.loop-k.analyst.todo.items in
    let k = c.loop-k.k in
    let desk = desk_id c.args.desk.now in
    let new = c.act_once.new.analyst in
    let seat = c.act_once.new.seat in
    let e = c.act_once.ensures in
    let less : k < length items = omega (arith, c.loop-k-test.true, c.len-k-end.ensures, ap length inv.same.todo) in
    let more = take_next {X = OfAct} items k c.index-act.result.now less c.index-act.ensures in
    let done : take (k + 1) new.todo.items ≡ take k items ++ c.index-act.result.now ∷ [] =
    ap (take (k + 1)) e.same.todo ∙ more in
    record {
      asked = subst (λ acts. HasAsked desk acts new) (sym done) (e.asked (take k items) inv.asked);
      looked = subst (λ acts. HasLooked c.args.model.now acts (new, seat)) (sym done)
          (e.looked (take k items) inv.looked);
      same = IsSameAnalyst-trans c.args.analyst.now c.loop-k.analyst new inv.same e.same;
    }

pub act_once-requires-clause-free : goal.act_once-requires-clause-free
act_once-requires-clause-free g c =
    let inv = c.loop-k.invariant in
    let analyst = c.loop-k.analyst in
    let old = c.args.analyst.now in
    let reserved : length old.todo.items ≤ old.looks.reserved = c.requires.may_act.2 in
    let items = analyst.todo.items in
    let below : c.loop-k.k < length items =
    omega (arith, c.loop-k-test.true, c.len-k-end.ensures, ap length inv.same.todo) in
    free_for_one c.args.model.now (take c.loop-k.k items) analyst c.loop-k.seat (length items) inv.looked
    (omega (arith, length-take {A = OfAct} c.loop-k.k items, below))
    (omega (arith, reserved, ap length inv.same.todo, inv.same.reserved))
