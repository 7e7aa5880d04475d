use Rattle.std.proofs.Common.{◌<◌, arith, length}
use Rattle.world_core.proofs.Forks.{ForkedTo-next, ForkedTo-all, ForkedTo-others}
use Rattle.world_core.proofs.taking.fork_all.Goals as goal

pub fork-requires-clause-old : goal.fork-requires-clause-old
fork-requires-clause-old c =
    let p = c.index_mut.result.now in
    let l : c.loop-i.i < length c.args.procs.now.items =
    omega (arith, c.loop-i-test.true, c.loop-i.auto.i-end, c.len-i-end.ensures, c.args.procs.now.ok.0) in
    c.requires.old c.loop-i.i p (ForkedTo-others c.args.old c.args.new c.loop-i.i c.args.procs.now.items
    c.loop-i.procs.items p c.loop-i.invariant l c.index_mut.ensures.value)

pub fork-requires-clause-new : goal.fork-requires-clause-new
fork-requires-clause-new c =
    let p = c.index_mut.result.now in
    let l : c.loop-i.i < length c.args.procs.now.items =
    omega (arith, c.loop-i-test.true, c.loop-i.auto.i-end, c.len-i-end.ensures, c.args.procs.now.ok.0) in
    c.requires.new c.loop-i.i p (ForkedTo-others c.args.old c.args.new c.loop-i.i c.args.procs.now.items
    c.loop-i.procs.items p c.loop-i.invariant l c.index_mut.ensures.value)

pub loop-i-preserved : goal.loop-i-preserved
loop-i-preserved c =
    ForkedTo-next c.args.old c.args.new c.loop-i.i c.args.procs.now.items c.loop-i.procs.items c.index_mut.result.now
    c.fork.new.self c.loop-i.invariant
    (omega (arith, c.loop-i-test.true, c.loop-i.auto.i-end, c.len-i-end.ensures, c.args.procs.now.ok.0))
    c.index_mut.ensures.value c.in_ok-fork.ensures.forked

pub returns : goal.returns
returns c = record {
  forked = ForkedTo-all c.args.old c.args.new c.loop-i.i c.args.procs.now.items c.loop-i.procs.items
      (omega (arith, c.loop-i-test.false, c.loop-i.auto.i-end, c.len-i-end.ensures, c.args.procs.now.ok.0))
      c.loop-i.invariant;
}
