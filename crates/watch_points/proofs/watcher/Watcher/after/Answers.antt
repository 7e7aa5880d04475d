use Rattle.std.proofs.Common.{◌≡◌, length, ap, sym, subst, arith}
use Rattle.watch_points.specs.Watchers.{Follows, IsPassing, IsStep, WatcherView}
use Rattle.watch_points.proofs.WholePass.{IsStep-more, IsStep-none, passing-end, passing-start}
use Rattle.watch_points.proofs.watcher.Watcher.after.Goals as goal

pub watches-init : goal.watches-init
watches-init c = record {
  passing = passing-start c.args.self.now c.args.world c.requires.follows c.requires.window
      (let same = c.front-front.ensures.value in let within = c.front-front.ensures.within in omega arith)
      c.lists-lists.ensures.in_net.plans;
  step = IsStep-none c.args.self.now c.args.world;
  peak = tt;
}

pub returns-clause-follows : goal.returns-clause-follows
returns-clause-follows c =
    let many : c.len-i-end.result ≡ length c.args.self.now.active =
    let same = ap (λ (w : WatcherView). length w.active) c.self.view_is in
    omega (arith, c.len-i-end.ensures, c.self.inside.active.ok.0, same) in
    subst (λ (w : WatcherView). Follows (record w { front = c.front-front.result }) c.watches.world.net
    c.watches.world.clones c.watches.world.front) (sym c.self-2.view_is)
    (passing-end c.args.self.now c.watches.self c.args.world c.watches.world c.watches.i c.len-i-end.result
    c.front-front.result c.watches.invariant.passing c.watches.invariant.step many c.watches.auto.i-end
    c.watches-test.false c.front-front.ensures.value)

pub watches-preserved-then-still_waits : goal.watches-preserved-then-still_waits
watches-preserved-then-still_waits c = record {
  passing = c.still_waits.ensures.passing c.if-still_waits.true;
  step = IsStep-more c.args.self.now c.watches.self c.still_waits.new.self c.args.world c.watches.world c.watches.world
      c.watches.invariant.step (c.still_waits.ensures.step c.if-still_waits.true);
  peak = c.still_waits.ensures.peak;
}

pub look-requires-clause-passing : goal.look-requires-clause-passing
look-requires-clause-passing c =
    subst (λ (w : WatcherView). IsPassing w c.watches.world c.watches.i)
    (sym (c.still_waits.ensures.same c.if-still_waits.false)) c.watches.invariant.passing

pub watches-preserved : goal.watches-preserved
watches-preserved c = record {
  passing = c.in_ok-world.ensures.passing;
  step = IsStep-more c.args.self.now c.watches.self c.look.new.self c.args.world c.watches.world c.in_ok-world.world
      c.watches.invariant.step
      (subst (λ (w : WatcherView). IsStep w c.look.new.self c.watches.world c.in_ok-world.world)
      (c.still_waits.ensures.same c.if-still_waits.false) c.in_ok-world.ensures.step);
  peak = tt;
}
