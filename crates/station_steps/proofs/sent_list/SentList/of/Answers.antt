use Rattle.std.proofs.Common.{◌∷◌, [], sym, subst, take}
use Rattle.std.specs.List.{AllByRecursion}
use Rattle.std.proofs.lemmas.Option.{get_or_from_slice_get, slice_get_within}
use Rattle.sim_base.proofs.Elements.{take_next}
use Rattle.sim_base.proofs.ListLaws.{all_append, all_weaker}
use Rattle.sim_base.specs.declared.message.Msg.{Msg}
use Rattle.clone_sets.specs.declared.set.CloneSet.{CloneSet}
use Rattle.phys_proc.specs.Sent.{msg_in}
use Rattle.station_steps.specs.Mail.{IsNoted}
use Rattle.station_steps.proofs.sent_list.SentList.of.Goals as goal

pub loop-i-preserved : goal.loop-i-preserved
loop-i-preserved c =
    let ms = c.args.messages in
    let i = c.loop-i.i in
    let x : Msg × CloneSet = (msg_in c.at-msg.result.0, c.at-msg.result.1) in
    let there = c.at-msg.ensures.value in
    subst (AllByRecursion (IsNoted c.note.new.firsts.items))
    (sym (take_next ms i x (slice_get_within ms i x there) (sym (get_or_from_slice_get ms i x x there))))
    (all_append (IsNoted c.note.new.firsts.items) (take i ms) (x ∷ [])
    (all_weaker (IsNoted c.loop-i.firsts.items) (IsNoted c.note.new.firsts.items) (take i ms)
    (λ y h. c.note.ensures.before y h) c.loop-i.invariant)
    (c.note.ensures.noted x.1, tt))
