use Rattle.std.proofs.Common.{◌≡◌, ◌+◌, ◌≤◌, length, take}
use Rattle.std.specs.Prelude.{reverse}
use Rattle.watch_points.specs.Checking.{watched_clone}
use Rattle.watch_points.proofs.NamesBack.{after_branches}
use Rattle.watch_points.proofs.fitting.watched_clone.Given as goal

abbrev pub invariant-back : goal.invariant-back
invariant-back l = record {
  within : l.left ≤ length l.earlier;
  at_most : l.branches + l.left ≤ length l.earlier;
  same : after_branches l.branches (watched_clone l.lists.clones (reverse (take l.left l.earlier)) l.name)
      ≡ watched_clone l.lists.clones (reverse l.earlier) l.fn.who;
}

abbrev pub decreases-back : goal.decreases-back
decreases-back l = l.left
