use Rattle.std.proofs.Common.{◌≡◌, ◌≤◌, ◌∷◌, [], ℕ, Some, arith, refl, sym, ap, subst, ◌∙◌}
use Rattle.std.specs.Prelude.{IfSome}
use Rattle.std.proofs.lemmas.Bool.{eqb-false}
use Rattle.clone_sets.specs.Sets.{has, empty, minus}
use Rattle.clone_sets.specs.declared.set.CloneSet.{CloneSet}
use Rattle.phys_proc.specs.Ends.{ends_in, has_ended}
use Rattle.phys_proc.specs.Sent.{msg_in}
use Rattle.station_steps.specs.Mail.{IsEarliest, IsMailTaken}
use Rattle.station_steps.proofs.MailTimes.{one-beyond, one-late, one-none, one-some}
use Rattle.station_steps.proofs.sent_list.earlier_of_message.Goals.{then-is_at_most-via-then-is_at_most}
use Rattle.station_steps.proofs.sent_list.earlier_of_message.Goals.{}
use Rattle.station_steps.proofs.sent_list.earlier_of_message.Goals.{then-is_at_most-via-else-is_at_most+then-time-horizon}
use Rattle.station_steps.proofs.sent_list.earlier_of_message.Goals as goal

pub returns-then-is_at_most : goal.returns-then-is_at_most
returns-then-is_at_most c = elim c.then-is_at_most.branch [
  | then-is_at_most-via-then-is_at_most w ↦
      let y = w.if-is_at_most.ensures.yes refl in
      record {
        earliest = one-late c.args.horizon c.args.ends.now c.args.clones (msg_in c.args.msg.now) c.args.set
            c.args.before y.0 y.1 (subst (λ t. y.0 ≤ t) c.time-time.ensures.value y.2);
      }
  | then-is_at_most-via-else-is_at_most+then-time-horizon w ↦
      let late = w.if-time-horizon.true in
      record {
        earliest = one-beyond c.args.horizon c.args.ends.now c.args.clones (msg_in c.args.msg.now) c.args.set
            c.args.before (let t = c.time-time.ensures.value in omega (arith, late, t));
      }
]

pub returns-then-is_empty : goal.returns-then-is_empty
returns-then-is_empty c =
    let soon = c.if-time-horizon.false in
    record {
      earliest = one-none c.args.horizon c.args.ends.now c.args.clones (msg_in c.args.msg.now) c.args.set c.args.before
          c.ended_clones.result c.minus-takers.result
          (subst (λ t. (k : ℕ) → has c.ended_clones.result k ≡ has_ended t c.args.ends.now k) c.time-time.ensures.value
          c.ended_clones.ensures.ended)
          (c.minus-takers.ensures.value
          ∙ ap (λ (s : CloneSet). minus s c.ended_clones.result) c.meet.ensures.value)
          (let t = c.time-time.ensures.value in omega (arith, soon, t))
          (c.if-is_empty.ensures.members.0 refl);
    }

pub returns : goal.returns
returns c =
    let soon = c.if-time-horizon.false in
    record {
      earliest = subst (λ t. IsEarliest c.args.before (IsMailTaken (ends_in c.args.horizon c.args.ends.now)
          c.args.clones ((msg_in c.args.msg.now, c.args.set) ∷ [])) (Some t)) (sym c.time-time.ensures.value)
          (one-some c.args.horizon c.args.ends.now c.args.clones (msg_in c.args.msg.now) c.args.set c.args.before
          c.ended_clones.result c.minus-takers.result
          (subst (λ t. (k : ℕ) → has c.ended_clones.result k ≡ has_ended t c.args.ends.now k) c.time-time.ensures.value
          c.ended_clones.ensures.ended)
          (c.minus-takers.ensures.value
          ∙ ap (λ (s : CloneSet). minus s c.ended_clones.result) c.meet.ensures.value)
          (let t = c.time-time.ensures.value in omega (arith, soon, t))
          (eqb-false c.minus-takers.result empty (sym c.if-is_empty.ensures.value))
          (subst (λ t. IfSome c.args.before (λ b. t ≤ b)) c.time-time.ensures.value (c.if-is_at_most.ensures.no refl)));
    }
