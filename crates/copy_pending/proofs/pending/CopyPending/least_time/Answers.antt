use Rattle.std.proofs.Common.{◌∙◌, ap, sym}
use Rattle.sim_base.specs.Pending.{first_time}
use Rattle.copy_pending.specs.Merged.{CopyPendingView, messages_of}
use Rattle.copy_pending.proofs.Firsts.{is_less, is_equal, is_greater}
use Rattle.copy_pending.proofs.pending.CopyPending.least_time.Goals as goal

pub returns-in-Less : goal.returns-in-Less
returns-in-Less c = record {
  value = c.first_time.ensures.value
      ∙ sym (is_less c.self.inside.set c.self.inside.common c.self.inside.partial c.order_of_firsts.ensures.sorted
      (sym c.in-Less.ensures.value)).0
      ∙ ap (λ (v : CopyPendingView). first_time (messages_of v)) c.self.view_is;
}

pub returns-in-Equal : goal.returns-in-Equal
returns-in-Equal c = record {
  value = c.least_time.ensures.value
      ∙ sym (is_equal c.self.inside.set c.self.inside.common c.self.inside.partial c.order_of_firsts.ensures.sorted
      (sym c.in-Equal.ensures.value)).0
      ∙ ap (λ (v : CopyPendingView). first_time (messages_of v)) c.self.view_is;
}

pub returns-in-Greater : goal.returns-in-Greater
returns-in-Greater c = record {
  value = c.least_time-in-Greater.ensures.value
      ∙ sym (is_greater c.self.inside.set c.self.inside.common c.self.inside.partial c.order_of_firsts.ensures.sorted
      (sym c.in-Greater.ensures.value)).0
      ∙ ap (λ (v : CopyPendingView). first_time (messages_of v)) c.self.view_is;
}
