use Rattle.std.proofs.Common.{◌∙◌, ap, sym, Some, slice_get}
use Rattle.sim_base.specs.Order.{msg_cmp}
use Rattle.copy_pending.proofs.Firsts.{merged-none, head_alone, head_less, head_equal, head_greater}
use Rattle.copy_pending.proofs.pending.first_of.Goals as goal

pub returns-in-None-default : goal.returns-in-None-default
returns-in-None-default c = record {
  value = λ q e.
      e ∙ ap (λ l. slice_get l 0) (sym (merged-none c.args.set c.args.common.now q
      (sym c.first.ensures.value ∙ c.in-None-default.is-0)));
}

pub returns-in-Some-None : goal.returns-in-Some-None
returns-in-Some-None c = record {
  value = λ q e. ap (λ m. Some (m, c.args.set)) c.msg.ensures.value
      ∙ sym (head_alone c.args.set c.args.common.now q c.in-Some-None.first c.first.ensures.sorted
      (sym c.first.ensures.value ∙ c.in-Some-None.is-0) (sym e ∙ c.in-Some-None.is-1));
}

pub returns-in-Less : goal.returns-in-Less
returns-in-Less c = record {
  value = λ q e. ap (λ m. Some (m, c.args.set)) c.msg-first.ensures.value
      ∙ sym (head_less c.args.set c.args.common.now q c.in-Some-Some.first _ c.first.ensures.sorted
      (sym c.first.ensures.value ∙ c.in-Some-Some.is-0) (sym e ∙ c.in-Some-Some.is-1)
      (ap (λ m. msg_cmp m c.in-Some-Some.other.0) (sym c.msg-first.ensures.value) ∙ sym c.in-Less.ensures.value));
}

pub returns-in-Equal : goal.returns-in-Equal
returns-in-Equal c = record {
  value = λ q e. ap (λ k. Some (c.in-Some-Some.other.0, k)) c.union.ensures.value
      ∙ sym (head_equal c.args.set c.args.common.now q c.in-Some-Some.first _ c.first.ensures.sorted
      (sym c.first.ensures.value ∙ c.in-Some-Some.is-0) (sym e ∙ c.in-Some-Some.is-1)
      (ap (λ m. msg_cmp m c.in-Some-Some.other.0) (sym c.msg-first.ensures.value) ∙ sym c.in-Equal.ensures.value));
}

pub returns-in-Greater : goal.returns-in-Greater
returns-in-Greater c = record {
  value = λ q e.
      sym (head_greater c.args.set c.args.common.now q c.in-Some-Some.first _ c.first.ensures.sorted
      (sym c.first.ensures.value ∙ c.in-Some-Some.is-0) (sym e ∙ c.in-Some-Some.is-1)
      (ap (λ m. msg_cmp m c.in-Some-Some.other.0) (sym c.msg-first.ensures.value) ∙ sym c.in-Greater.ensures.value));
}
