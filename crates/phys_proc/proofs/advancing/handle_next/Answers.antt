use Rattle.std.proofs.Common.{◌≡◌, ℕ, List, ◌<◌, arith, sym, ap, subst, ◌∙◌, length, eqb-true}
use Rattle.std.proofs.lemmas.Bool.{eqb-false}
use Rattle.sim_base.specs.declared.message.Msg.{Msg}
use Rattle.clone_sets.specs.declared.set.CloneSet.{CloneSet}
use Rattle.phys_proc.specs.Own.{StationCopy, NextDue, NothingDue}
use Rattle.phys_proc.specs.Ends.{ends_in}
use Rattle.phys_proc.specs.StepGoals.{ends_for}
use Rattle.phys_proc.proofs.Finishing.{settled_here, due_here}
use Rattle.phys_proc.proofs.ComesFrom.{comes_from-start, comes_from-same, comes_from-new, comes_from-handle}
use Rattle.phys_proc.proofs.ComesFrom.{longer_log}
use Rattle.phys_proc.proofs.advancing.handle_next.Goals as goal

-- the message that is due next is so by a horizon that is the same
due_by_horizon : (ends : List (ℕ × ℕ)) {here horizon bound : ℕ} {copy new : StationCopy} {m : Msg} {takers : CloneSet}
    → here ≡ horizon → NextDue (ends_in here ends) bound copy new m takers
    → NextDue (ends_in horizon ends) bound copy new m takers
due_by_horizon ends {here} {horizon} {bound} {copy} {new} {m} {takers} e d =
    subst (λ h. NextDue (ends_in h ends) bound copy new m takers) e d

-- ---- Settled

pub returns-in_default-clause-onward : goal.returns-in_default-clause-onward
returns-in_default-clause-onward g c =
    let net = c.args.goal.now.model.now in
    let station = c.args.goal.now.station in
    let bound = c.args.goal.now.bound in
    let ends = ends_for c.args.goal.now in
    let d = subst (λ h. NothingDue (ends_in h c.args.goal.now.ends.now) bound c.args.copy.now c.next_due.new.copy)
    c.horizon.ensures.value c.in_default.ensures.none in
    comes_from-same net station ends bound c.args.copy.now c.args.copy.now c.next_due.new.copy
    c.args.stage.now.sent c.args.stage.now.sent c.args.steps.now c.args.steps.now
    (comes_from-start net station ends bound c.args.copy.now c.args.stage.now.sent
    c.args.steps.now c.requires.may_advance.fits) d.same

pub returns-in_default-clause-stop : goal.returns-in_default-clause-stop
returns-in_default-clause-stop g c =
    settled_here (ends_for c.args.goal.now) c.args.goal.now.bound c.args.copy.now c.next_due.new.copy
    (subst (λ h. NothingDue (ends_in h c.args.goal.now.ends.now) c.args.goal.now.bound c.args.copy.now
    c.next_due.new.copy) c.horizon.ensures.value c.in_default.ensures.none)

-- ---- Full

pub returns-then-len-limit-clause-onward : goal.returns-then-len-limit-clause-onward
returns-then-len-limit-clause-onward g c =
    let net = c.args.goal.now.model.now in
    let station = c.args.goal.now.station in
    let bound = c.args.goal.now.bound in
    let ends = ends_for c.args.goal.now in
    let d = due_by_horizon c.args.goal.now.ends.now c.horizon.ensures.value c.in-Some.ensures.some.1 in
    comes_from-same net station ends bound c.args.copy.now c.args.copy.now c.next_due.new.copy
    c.args.stage.now.sent c.args.stage.now.sent c.args.steps.now c.args.steps.now
    (comes_from-start net station ends bound c.args.copy.now c.args.stage.now.sent
    c.args.steps.now c.requires.may_advance.fits) d.same

pub returns-then-len-limit-clause-stop : goal.returns-then-len-limit-clause-stop
returns-then-len-limit-clause-stop g c =
    let d = due_by_horizon c.args.goal.now.ends.now c.horizon.ensures.value c.in-Some.ensures.some.1 in
    let log = ap length c.log.ensures.value in
    record {
      msg = c.in-Some.ensures.some.0;
      takers = c.in-Some.takers;
      due = due_here (ends_for c.args.goal.now) c.args.goal.now.bound c.args.copy.now
          c.next_due.new.copy c.in-Some.ensures.some.0 c.in-Some.takers d;
      all = eqb-true c.in-Some.takers c.set.result (sym c.if-eq.ensures) ∙ c.set.ensures.value;
      full = let l = c.if-len-limit.true in let a = c.len.ensures in let b = c.limit.ensures.value in
          omega (arith, l, a, b, log);
    }

-- ---- Parts

pub returns-else-eq-clause-onward : goal.returns-else-eq-clause-onward
returns-else-eq-clause-onward g c =
    let net = c.args.goal.now.model.now in
    let station = c.args.goal.now.station in
    let bound = c.args.goal.now.bound in
    let ends = ends_for c.args.goal.now in
    let d = due_by_horizon c.args.goal.now.ends.now c.horizon.ensures.value c.in-Some.ensures.some.1 in
    comes_from-same net station ends bound c.args.copy.now c.args.copy.now c.next_due.new.copy
    c.args.stage.now.sent c.args.stage.now.sent c.args.steps.now c.args.steps.now
    (comes_from-start net station ends bound c.args.copy.now c.args.stage.now.sent
    c.args.steps.now c.requires.may_advance.fits) d.same

pub returns-else-eq-clause-stop : goal.returns-else-eq-clause-stop
returns-else-eq-clause-stop g c =
    let d = due_by_horizon c.args.goal.now.ends.now c.horizon.ensures.value c.in-Some.ensures.some.1 in
    record {
      msg = c.in-Some.ensures.some.0;
      due = due_here (ends_for c.args.goal.now) c.args.goal.now.bound c.args.copy.now
          c.next_due.new.copy c.in-Some.ensures.some.0 c.in-Some.takers d;
      differ = λ e. eqb-false c.in-Some.takers c.set.result (sym c.if-eq.ensures) (e ∙ sym c.set.ensures.value);
    }

-- ---- a message that all clones take

pub handle_least-requires-clause-fits : goal.handle_least-requires-clause-fits
handle_least-requires-clause-fits g c =
    let net = c.args.goal.now.model.now in
    let station = c.args.goal.now.station in
    let bound = c.args.goal.now.bound in
    let ends = ends_for c.args.goal.now in
    let d = due_by_horizon c.args.goal.now.ends.now c.horizon.ensures.value c.in-Some.ensures.some.1 in
    (comes_from-new net station ends bound c.args.copy.now c.args.copy.now c.next_due.new.copy
    c.args.stage.now.sent c.args.stage.now.sent c.args.steps.now c.args.steps.now
    (comes_from-start net station ends bound c.args.copy.now c.args.stage.now.sent
    c.args.steps.now c.requires.may_advance.fits)
    c.in-Some.ensures.some.0 c.in-Some.takers d).fits

pub returns-in_ok-handle_least-clause-onward : goal.returns-in_ok-handle_least-clause-onward
returns-in_ok-handle_least-clause-onward g c =
    let net = c.args.goal.now.model.now in
    let station = c.args.goal.now.station in
    let bound = c.args.goal.now.bound in
    let ends = ends_for c.args.goal.now in
    let d = due_by_horizon c.args.goal.now.ends.now c.horizon.ensures.value c.in-Some.ensures.some.1 in
    let log = ap length c.log.ensures.value in
    let less : length c.next_due.new.copy.log < net.limit = let l = c.if-len-limit.false in let a =
    c.len.ensures in let b = c.limit.ensures.value in omega (arith, l, a, b, log) in
    comes_from-handle net station ends bound c.args.copy.now c.args.copy.now c.next_due.new.copy
    c.args.stage.now.sent c.args.stage.now.sent c.args.steps.now c.args.steps.now
    (comes_from-start net station ends bound c.args.copy.now c.args.stage.now.sent
    c.args.steps.now c.requires.may_advance.fits)
    c.in-Some.ensures.some.0 c.in-Some.takers d
    c.handle_least.new.copy c.handle_least.new.sent c.handle_least.new.steps
    (eqb-true c.in-Some.takers c.set.result (sym c.if-eq.ensures) ∙ c.set.ensures.value) less
    c.in_ok-handle_least.ensures.handled c.in_ok-handle_least.ensures.counted

pub returns-in_ok-handle_least-clause-more : goal.returns-in_ok-handle_least-clause-more
returns-in_ok-handle_least-clause-more g c =
    let d = due_by_horizon c.args.goal.now.ends.now c.horizon.ensures.value c.in-Some.ensures.some.1 in
    let longer = longer_log c.args.goal.now.model.now c.args.goal.now.station c.next_due.new.copy
    c.handle_least.new.copy _ _ c.in-Some.ensures.some.0 d.marks d.rest d.pending c.in_ok-handle_least.ensures.handled in
    let same = ap length d.same.copy.log in
    omega (arith, longer, same)
