use Rattle.std.proofs.Common.{◌≡◌, ◌+◌, ◌-◌, ◌/◌, length, arith}
use Rattle.std.proofs.lemmas.List.{length-map}
use Rattle.sim_base.specs.declared.entry.Entry.{Entry}
use Rattle.sim_base.specs.declared.entry.Line.{Line}
use Rattle.sim_base.specs.declared.message.Msg.{Msg}
use Rattle.log_chain.specs.Times.{times_of}
use Rattle.log_chain.proofs.Timing.{rises-at, from_time-drop}
use Rattle.log_chain.proofs.log.Log.place_of_time.Goals as goal

pub loop-low-preserved-then-time_at-time : goal.loop-low-preserved-then-time_at-time
loop-low-preserved-then-time_at-time c =
    let es = c.args.self.now in
    let middle = c.loop-low.low + (c.loop-low.high - c.loop-low.low) / 2 in
    let many : length (times_of es) ≡ length es = length-map es (λ (e : Entry Msg Line). e.msg.key.time) in
    record {
      order = omega arith;
      within = c.loop-low.invariant.within;
      before = λ k b. omega (
        arith,
        rises-at (times_of es) k middle c.requires.rises (omega (arith, b))
            (omega (arith, many)),
        c.time_at.ensures.value,
        c.if-time_at-time.true,
      );
      behind = c.loop-low.invariant.behind;
    }

pub loop-low-preserved : goal.loop-low-preserved
loop-low-preserved c =
    let es = c.args.self.now in
    let middle = c.loop-low.low + (c.loop-low.high - c.loop-low.low) / 2 in
    let many : length (times_of es) ≡ length es = length-map es (λ (e : Entry Msg Line). e.msg.key.time) in
    record {
      order = omega arith;
      within = omega arith;
      before = c.loop-low.invariant.before;
      behind = λ k o there. omega (
        arith,
        rises-at (times_of es) middle k c.requires.rises o
            (omega (arith, many, there)),
        c.time_at.ensures.value,
        c.if-time_at-time.false,
      );
    }

pub returns-clause-within : goal.returns-clause-within
returns-clause-within c = omega (arith, c.loop-low.invariant.order, c.loop-low.invariant.within)

pub returns-clause-value : goal.returns-clause-value
returns-clause-value c =
    from_time-drop c.args.self.now c.args.time c.loop-low.low (omega arith) c.loop-low.invariant.before
    (λ k o there. c.loop-low.invariant.behind k (omega (arith, o, c.loop-low-test.false)) there)
