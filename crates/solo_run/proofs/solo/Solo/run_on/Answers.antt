use Rattle.std.proofs.Common.{refl, ap, ◌∙◌, arith}
use Rattle.run_laws.specs.Machine.{stay, go}
use Rattle.solo_run.specs.SoloView.{config_of}
use Rattle.solo_run.proofs.ToFront.{run_ends, trace-short, Stops-StopsBefore}
use Rattle.solo_run.proofs.Turning.{if_err}
use Rattle.solo_run.proofs.solo.Solo.run_on.Goals as goal

pub loop-self-init : goal.loop-self-init
loop-self-init g c = record { solo = c.requires.1.0; ran = stay; steps = refl }

pub loop-self-smaller : goal.loop-self-smaller
loop-self-smaller g c =
    let turned = c.in_ok-next_turn.ensures.turned c.if-branch.true in
    let new = trace-short c.args.model.now c.requires.1.0.valid g.past c.next_turn.new.self turned.solo in
    omega (arith, new, turned.longer)

pub loop-self-preserved : goal.loop-self-preserved
loop-self-preserved g c =
    let inv = c.loop-self.invariant in
    let turned = c.in_ok-next_turn.ensures.turned c.if-branch.true in
    record {
      solo = turned.solo;
      ran = go inv.ran turned.next;
      steps = omega (arith, inv.steps, turned.counted, turned.longer);
    }

pub returns-in_err-next_turn-clause-stops : goal.returns-in_err-next_turn-clause-stops
returns-in_err-next_turn-clause-stops g c =
    let inv = c.loop-self.invariant in
    if_err c.from_residual.result c.in_err-next_turn.field-0.0 _
    (Stops-StopsBefore c.args.model.now c.requires.1.0.valid g.past c.args.front c.args.self c.loop-self.self _ _
    c.loop-self.steps c.in_err-next_turn.field-0.0 c.requires.1.0 inv.solo inv.ran c.in_err-next_turn.ensures.stops
    inv.steps) c.from_residual.ensures.1

pub returns-clause-ok : goal.returns-clause-ok
returns-clause-ok g c =
    let net = c.args.model.now in
    let inv = c.loop-self.invariant in
    let ended = c.in_ok-next_turn.ensures.ended c.if-branch.false in
    ap (config_of net) ended.same
    ∙ run_ends net c.requires.1.0.valid g.past c.args.front c.args.self c.loop-self.self c.requires.1.0 inv.solo
    inv.ran ended.none
