use Rattle.std.proofs.Common.{rules, ◌∙◌, ap, length}
use Rattle.std.proofs.lemmas.Iterator.Adapters.{YieldsList-from_rev_slice}
use Rattle.std.proofs.lemmas.Iterator.Consumers.{YieldsList-turn, YieldsList-end}
use Rattle.std.proofs.lemmas.List.{length_push}
use Rattle.std.specs.Iterator.Adapters.{rev_source}
use Rattle.std.specs.Slice.Iter.{iter_rest}
use Rattle.decision_script.proofs.OwnScript.{history_more, history_all}
use Rattle.decision_script.proofs.one_clone.own_items.Goals as goal

pub loop-item-preserved : goal.loop-item-preserved
loop-item-preserved c =
    let from = c.into_iter-item-iterator.ensures.into_iter_gives in
    let t = YieldsList-turn (YieldsList-from_rev_slice c.args.items.now (ap (λ s. iter_rest (rev_source s)) from
    ∙ ap iter_rest c.rev-item-items.ensures.source ∙ c.iter.ensures.rest)) c.loop-item.yielded _
    c.loop-item.yielded_by _ _ c.in-Some.item c.in-Some.is c.next.ensures.steps in
    record {
      can = search rules;
      finite = tt;
      history = c.in_ok-take.ensures.value
          ∙ rw length_push (history_more c.args.items.now c.args.who.now
          (length c.loop-item.yielded) c.in-Some.item.now c.loop-item.history t.0 t.1 c.loop-item.invariant.history);
    }

pub returns : goal.returns
returns c =
    let from = c.into_iter-item-iterator.ensures.into_iter_gives in
    let t = YieldsList-end (YieldsList-from_rev_slice c.args.items.now (ap (λ s. iter_rest (rev_source s)) from
    ∙ ap iter_rest c.rev-item-items.ensures.source ∙ c.iter.ensures.rest)) c.loop-item.yielded _
    c.loop-item.yielded_by _ _ c.in-None.is c.next.ensures.steps in
    record {
      value = c.into_items.ensures.value
          ∙ ap (λ k. k.1) (history_all c.args.items.now c.args.who.now (length c.loop-item.yielded) c.loop-item.history
          t.1 c.loop-item.invariant.history);
    }
