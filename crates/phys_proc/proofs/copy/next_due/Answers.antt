use Rattle.std.proofs.Common.{◌&&◌, sym, refl, ap, subst, ◌∙◌, eqb-true, arith}
use Rattle.std.proofs.lemmas.Bool.{eqb-false}
use Rattle.clone_sets.specs.Sets.{has, empty}
use Rattle.clone_sets.proofs.SetLaws.{has-empty}
use Rattle.phys_proc.proofs.Halves.{nothing_late, nothing_left, next_is_due, none_takes, same_none, same_more, first_is}
use Rattle.phys_proc.proofs.Halves.{first_timed, first_marked, none_timed, some_waits}
use Rattle.phys_proc.specs.Own.{IsSameToClones}
use Rattle.phys_proc.specs.Ends.{ends_in, has_ended}
use Rattle.phys_proc.proofs.copy.next_due.Goals as goal

pub returns-then-time-bound-clause-none : goal.returns-then-time-bound-clause-none
returns-then-time-bound-clause-none c =
    let f = first_timed _ c.in-Some.time c.in-Some.ensures.value in
    nothing_late (ends_in c.args.horizon c.args.ends.now) c.args.bound c.args.copy.now _ f.0.0 f.0.1
    c.loop-time.invariant c.requires.sorted f.1 (let l = c.if-time-bound.true in let t = f.2 in omega (arith, l, t))

pub returns-then-not-is_empty-clause-some : goal.returns-then-not-is_empty-clause-some
returns-then-not-is_empty-clause-some c =
    let f = first_marked _ c.in-Some.time c.in-Some-least_marks.marks c.in-Some.ensures.value
    c.in-Some-least_marks.ensures.value in (
      f.0,
      next_is_due c.args.horizon c.args.ends.now c.args.bound c.requires.time_max c.args.copy.now _ f.0
          c.in-Some-least_marks.marks c.minus-takers.result c.meet.result c.ended_clones.result c.loop-time.invariant
          (λ x. c.meet.ensures.members x ∙ ap (λ s. has s x && has c.in-Some-least_marks.marks x) c.set.ensures.value)
          c.minus-takers.ensures.members
          (λ x. c.ended_clones.ensures.ended x ∙ ap (λ t. has_ended t c.args.ends.now x) (sym f.2))
          (let l = c.if-time-bound.false in let t = f.2 in omega (arith, l, t))
          (λ e. eqb-false c.minus-takers.result empty (sym c.if-not-is_empty.ensures.value) e) f.1,
    )

pub take_message-passed-requires : goal.take_message-passed-requires
take_message-passed-requires c =
    record { nonempty = some_waits _ c.in-Some.time c.in-Some.ensures.value }

pub loop-time-init : goal.loop-time-init
loop-time-init c =
    let ends = ends_in c.args.horizon c.args.ends.now in
    let copy = c.args.copy.now in
    subst (IsSameToClones ends copy) (sym c.copy.view_is) (same_none ends copy)

pub loop-time-preserved : goal.loop-time-preserved
loop-time-preserved c =
    let f = first_marked _ c.in-Some.time c.in-Some-least_marks.marks c.in-Some.ensures.value
    c.in-Some-least_marks.ensures.value in
    same_more (ends_in c.args.horizon c.args.ends.now) c.args.copy.now _ _ f.0 c.in-Some-least_marks.marks
    c.loop-time.invariant (first_is _ _ _ _ f.1 c.take_message-passed.ensures.value.1)
    c.take_message-passed.ensures.same refl refl
    (none_takes c.args.horizon c.args.ends.now c.args.bound c.requires.time_max c.args.copy.now _ f.0
    c.in-Some-least_marks.marks c.minus-takers.result c.meet.result c.ended_clones.result c.loop-time.invariant
    (λ x. c.meet.ensures.members x ∙ ap (λ s. has s x && has c.in-Some-least_marks.marks x) c.set.ensures.value)
    c.minus-takers.ensures.members
    (λ x. c.ended_clones.ensures.ended x ∙ ap (λ t. has_ended t c.args.ends.now x) (sym f.2))
    (let l = c.if-time-bound.false in let t = f.2 in omega (arith, l, t))
    (λ x. ap (λ k. has k x) (eqb-true c.minus-takers.result empty (sym c.if-not-is_empty.ensures.value)) ∙ has-empty x))

pub returns-clause-none : goal.returns-clause-none
returns-clause-none c = nothing_left (ends_in c.args.horizon c.args.ends.now) c.args.bound c.args.copy.now _
    c.loop-time.invariant (none_timed _ c.in_default.ensures.value)
