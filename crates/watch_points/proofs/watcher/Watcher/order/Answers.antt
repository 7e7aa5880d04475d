use Rattle.std.proofs.Common.{◌++◌, ap, ◌∙◌}
use Rattle.std.specs.List.{range_with_len}
use Rattle.watch_points.specs.Branches.{present}
use Rattle.watch_points.specs.Laws.{watch_order}
use Rattle.watch_points.specs.Progress.{places_of}
use Rattle.watch_points.specs.Watchers.{progress_of}
use Rattle.watch_points.proofs.watcher.Watcher.order.Goals as goal

pub returns : goal.returns
returns c = record {
  value = c.in_ok-push_places.ensures.ok
      ∙ ap (λ l. l ++ present (places_of (progress_of c.as_slice.result.now))) c.in_ok-order.ensures.value
      ∙ ap (λ l. range_with_len 0 c.self.inside.script_len ++ present (places_of (progress_of l)))
      c.as_slice.ensures.value
      ∙ ap watch_order c.self.view_is;
}
