use Rattle.std.proofs.Common.{◌∙◌, ap, sym, ◌∷◌}
use Rattle.clone_sets.specs.Sets.{union}
use Rattle.copy_pending.specs.Merged.{merged}
use Rattle.copy_pending.proofs.Firsts.{take_less, take_equal, take_greater, some_other}
use Rattle.copy_pending.proofs.pending.take_first.Goals as goal

pub returns-in-Some : goal.returns-in-Some
returns-in-Some c = record {
  value = (
    c.args.set,
    take_less c.args.set c.args.common.now c.take_first.new.self c.args.partial.now c.in-Some.first
        c.order_of_firsts.ensures.sorted c.in-Some.ensures.some (sym c.in-Less.ensures.value)
        ∙ ap (λ m. (m, c.args.set) ∷ merged c.args.set c.take_first.new.self c.args.partial.now)
        (sym c.msg.ensures.value),
  );
}

pub returns-in-Some-take_first : goal.returns-in-Some-take_first
returns-in-Some-take_first c =
    let also = c.take_message-also.ensures.value in
    record {
      value = (
        union also.0 c.args.set,
        take_equal c.args.set c.args.common.now c.take_first-in-Equal.new.self c.args.partial.now
            c.take_message-also.new.self
            c.in-Some-take_first.first (c.take_message-also.result, also.0) c.order_of_firsts.ensures.sorted
            c.in-Some-take_first.ensures.some also.1 (sym c.in-Equal.ensures.value)
            ∙ ap (λ m. (m, union also.0 c.args.set) ∷ merged c.args.set c.take_first-in-Equal.new.self
            c.take_message-also.new.self)
            (sym c.msg-in-Equal.ensures.value),
      );
    }

pub returns-in-Greater : goal.returns-in-Greater
returns-in-Greater c =
    let taken = c.take_message.ensures.value in
    record {
      value = (
        taken.0,
        take_greater c.args.set c.args.common.now c.args.partial.now c.take_message.new.self
            (c.take_message.result, taken.0) c.order_of_firsts.ensures.sorted taken.1 (sym c.in-Greater.ensures.value),
      );
    }

pub take_message-requires : goal.take_message-requires
take_message-requires c = record {
  nonempty = some_other c.args.set c.args.common.now c.args.partial.now c.requires.nonempty
      (sym c.in-Greater.ensures.value);
}
