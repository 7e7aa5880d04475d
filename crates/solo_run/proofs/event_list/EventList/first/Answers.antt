use Rattle.std.proofs.Common.{◌∙◌, ap, sym, inl, inr, Some, List, slice_get}
use Rattle.sim_base.specs.declared.message.Msg.{Msg}
use Rattle.solo_run.proofs.Firsts.{first-packed, first-wide, merged-none, merged-sorted}
use Rattle.solo_run.proofs.event_list.EventList.first.Goals as goal

pub returns-in_err-least-in-Greater-clause-value : goal.returns-in_err-least-in-Greater-clause-value
returns-in_err-least-in-Greater-clause-value c =
    let none = merged-none c.args.self.now.heap c.args.self.now.wide (sym c.in_err-least-in-Greater.ensures.value)
    (sym c.in-Greater.ensures.value) in
    c.from_residual-in_err-least-in-Greater.ensures ∙ ap (λ (l : List Msg). slice_get l 0) (sym none)

pub returns-in_err-least-in-Greater-clause-sorted : goal.returns-in_err-least-in-Greater-clause-sorted
returns-in_err-least-in-Greater-clause-sorted c =
    merged-sorted c.args.self.now.heap c.args.self.now.wide c.order_of_firsts.ensures.sorted

pub returns-in_ok-first-in-Less : goal.returns-in_ok-first-in-Less
returns-in_ok-first-in-Less c = record {
  value = ap Some c.msg.ensures.value
      ∙ sym (first-packed c.args.self.now.heap c.args.self.now.wide c.in_ok-first-in-Less.field-0
      c.order_of_firsts.ensures.ordered (sym c.in_ok-first-in-Less.ensures.value)
      (elim c.in-Less.is [
        | inl e ↦ inl (sym c.order_of_firsts.ensures.value ∙ e)
        | inr e ↦ inr (sym c.order_of_firsts.ensures.value ∙ e)
      ]));
  sorted = merged-sorted c.args.self.now.heap c.args.self.now.wide c.order_of_firsts.ensures.sorted;
}

pub returns-in_ok-least-in-Greater-clause-value : goal.returns-in_ok-least-in-Greater-clause-value
returns-in_ok-least-in-Greater-clause-value c =
    sym (first-wide c.args.self.now.heap c.args.self.now.wide c.in_ok-least-in-Greater.field-0
    c.order_of_firsts.ensures.ordered (sym c.in_ok-least-in-Greater.ensures.value)
    (sym c.in-Greater.ensures.value))

pub returns-in_ok-least-in-Greater-clause-sorted : goal.returns-in_ok-least-in-Greater-clause-sorted
returns-in_ok-least-in-Greater-clause-sorted c =
    merged-sorted c.args.self.now.heap c.args.self.now.wide c.order_of_firsts.ensures.sorted
