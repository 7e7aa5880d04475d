use Rattle.std.proofs.Common.{sym, ◌∙◌}
use Rattle.study_run.proofs.WatchedWhole.{begins_with_watches}
use Rattle.study_run.proofs.watched_study.begin.Goals as goal

pub returns : goal.returns
returns c = record {
  net = c.in_ok-world.ensures.net;
  front = c.in_ok-world.ensures.front;
  clones = c.in_ok-world.ensures.clones;
  watches = c.in_ok-watcher.ensures.watches;
  has_watches = begins_with_watches c.in_ok-watcher.watcher c.in_ok-world.world c.in_ok-shared.shared.value
      c.lists.result.now.clones (c.in_ok-world.ensures.net ∙ sym c.in_ok-shared.ensures.value)
      c.in_ok-world.ensures.front c.lists.ensures.clones c.in_ok-watcher.ensures.follows
      c.in_ok-watcher.ensures.script c.lists.ensures.in_net.plans;
}
