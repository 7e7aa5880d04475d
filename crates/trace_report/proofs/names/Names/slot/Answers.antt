use Rattle.std.proofs.Common.{◌≡◌, ◌∙◌, sym, subst, arith, Some, slice_get}
use Rattle.std.proofs.lemmas.Option.{get_or_from_slice_get}
use Rattle.trace_report.specs.Slots.{slot_of}
use Rattle.trace_report.proofs.Slots.{slot_past}
use Rattle.trace_report.proofs.names.Names.slot.Goals as goal

pub returns-then-s-ge-SLOTS : goal.returns-then-s-ge-SLOTS
returns-then-s-ge-SLOTS c =
    let net = c.args._model.now in
    let there = subst (λ slots. slice_get slots 0 ≡ Some (slot_of net 0)) (sym c.self.view_is)
    (c.requires.names.each 0 (omega arith)) in
    record {
      value = get_or_from_slice_get c.self.inside.slots 0 (slot_of net 0) c.index-self-0.result there
          ∙ sym (slot_past net c.args.s (omega (arith, c.requires.names.at_most)));
    }

pub returns : goal.returns
returns c =
    let net = c.args._model.now in
    let s = c.args.s in
    let there = subst (λ slots. slice_get slots s ≡ Some (slot_of net s)) (sym c.self.view_is)
    (c.requires.names.each s (omega arith)) in
    record { value = get_or_from_slice_get c.self.inside.slots s (slot_of net s) c.index-self-s.result there }
