use Rattle.std.proofs.Common.{◌≡◌, arith, ap, length, sym, ◌∙◌}
use Rattle.watch_points.specs.CloneNumbers.{maker_of}
use Rattle.watch_points.specs.Watchers.{WatcherView}
use Rattle.watch_points.proofs.CloneNumbers.{maker_there, number_fits}
use Rattle.watch_points.proofs.watcher.Watcher.clone_number.Goals as goal

pub unreachable-requires : goal.unreachable-requires
unreachable-requires c =
    let active : c.as_slice.result.now ≡ c.args.self.now.active =
    c.as_slice.ensures.value ∙ ap (λ (w : WatcherView). w.active) c.self.view_is in
    let script = ap (λ (w : WatcherView). w.script_len) c.self.view_is in
    maker_there c.args.self.now c.args.place c.requires.is_place (omega (arith, c.if-place-self.false, script))
    (ap (maker_of c.args.place) (sym active) ∙ sym c.maker.ensures.value ∙ c.in-None.is)

pub overflow_cast-result : goal.overflow_cast-result
overflow_cast-result c =
    let active = c.as_slice.ensures.value ∙ ap (λ (w : WatcherView). w.active) c.self.view_is in
    let low = c.in-Some.ensures.in_range in
    let same = ap length active in
    let fits = number_fits c.args.self.now c.args.place c.in-Some.i c.requires.is_place (omega (arith, low, same)) in
    omega (arith, fits)

pub overflow_add-result : goal.overflow_add-result
overflow_add-result c =
    let active = c.as_slice.ensures.value ∙ ap (λ (w : WatcherView). w.active) c.self.view_is in
    let script = ap (λ (w : WatcherView). w.script_len) c.self.view_is in
    let low = c.in-Some.ensures.in_range in
    let same = ap length active in
    let fits = number_fits c.args.self.now c.args.place c.in-Some.i c.requires.is_place (omega (arith, low, same)) in
    omega (arith, fits, script)
