use Rattle.std.proofs.Common.{◌≡◌, drop, take}
use Rattle.std.specs.Prelude.{reverse}
use Rattle.watch_points.specs.Checking.{fit, fit_after}
use Rattle.watch_points.proofs.fitting.check.Given as goal

abbrev pub invariant-watches : goal.invariant-watches
invariant-watches l = fit_after l.model l.lists.clones (reverse (take l.i l.items)) (drop l.i l.items)
    ≡ fit l.model l.lists.clones l.items
