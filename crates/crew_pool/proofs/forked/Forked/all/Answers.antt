use Rattle.std.proofs.Common.{◌≡◌, ◌+◌, ◌∙◌, ap, subst, map, Some, rules}
use Rattle.std.specs.Prelude.{sum_by}
use Rattle.std.proofs.lemmas.List.{take_at}
use Rattle.crew_pool.proofs.Slots.{EachSlotReady-filled, EachAt-slots, slots_count}
use Rattle.crew_pool.specs.Slots.{answer_in}
use Rattle.crew_pool.proofs.forked.Forked.all.Goals as goal

pub run_slots-requires-clause-ready : goal.run_slots-requires-clause-ready
run_slots-requires-clause-ready g c κs within =
    EachSlotReady-filled _ c.args.items.items _ (c.as_mut_slice.ensures.value ∙ c.in_ok-slots.ensures.value)
    c.requires.may_run.ready

pub returns : goal.returns
returns g c =
    let items = c.args.items.items in
    let outs = c.in_ok-outs.outs.items in
    let filled = c.as_mut_slice.ensures.value ∙ c.in_ok-slots.ensures.value in
    let taken : map answer_in c.run_slots.new.slots ≡ map Some outs =
    subst (λ l. map answer_in l ≡ map Some outs) (take_at c.run_slots.new.slots _ _ (search rules))
    c.in_ok-outs.ensures.value in
    record {
      have_run = record {
        count = slots_count items c.as_mut_slice.result.now c.run_slots.new.slots outs filled (search rules) taken;
        answers = EachAt-slots _ items c.as_mut_slice.result.now c.run_slots.new.slots outs filled (search rules)
            taken c.run_slots.ensures.answers;
        cost = c.tick_costs.ensures.value
            ∙ ap (λ l. c.args.steps.now + sum_by g.W.Work.cost l) c.as_slice.ensures.value;
      };
    }
