use Rattle.std.proofs.Common.{◌∙◌, ap, sym, Some, option_map}
use Rattle.sim_base.specs.Pending.{first_marks}
use Rattle.clone_sets.specs.Sets.{union}
use Rattle.copy_pending.specs.Merged.{CopyPendingView, messages_of}
use Rattle.copy_pending.proofs.Firsts.{is_less, is_equal, is_greater}
use Rattle.copy_pending.proofs.pending.CopyPending.least_marks.Goals as goal

pub returns-in-Less : goal.returns-in-Less
returns-in-Less c = record {
  value =
      sym (is_less c.self.inside.set c.self.inside.common c.self.inside.partial c.order_of_firsts.ensures.sorted
      (sym c.in-Less.ensures.value)).1
      ∙ ap (λ (v : CopyPendingView). first_marks (messages_of v)) c.self.view_is;
}

pub returns-in-Some : goal.returns-in-Some
returns-in-Some c = record {
  value = ap Some c.union.ensures.value
      ∙ ap (option_map (λ k. union k c.self.inside.set)) c.in-Some.ensures.value
      ∙ sym (is_equal c.self.inside.set c.self.inside.common c.self.inside.partial c.order_of_firsts.ensures.sorted
      (sym c.in-Equal.ensures.value)).1
      ∙ ap (λ (v : CopyPendingView). first_marks (messages_of v)) c.self.view_is;
}

pub returns-in-Greater : goal.returns-in-Greater
returns-in-Greater c = record {
  value = c.least_marks-in-Greater.ensures.value
      ∙ sym (is_greater c.self.inside.set c.self.inside.common c.self.inside.partial c.order_of_firsts.ensures.sorted
      (sym c.in-Greater.ensures.value)).1
      ∙ ap (λ (v : CopyPendingView). first_marks (messages_of v)) c.self.view_is;
}
