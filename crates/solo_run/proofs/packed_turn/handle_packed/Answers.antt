use Rattle.std.proofs.Common.{◌≡◌, ◌-◌, ◌<◌, refl, ap, subst, Some, slice_get, slice_set, length, arith}
use Rattle.std.proofs.lemmas.Option.{slice_get_read}
use Rattle.solo_run.proofs.packed_turn.handle_packed.Goals as goal

pub handle_quick-requires-clause-quick : goal.handle_quick-requires-clause-quick
handle_quick-requires-clause-quick g c =
    let states = c.args.states.now.items in
    let to = c.to-station.ensures.value in
    let within : c.to-station.result - 1 < length states =
    omega (arith, to, c.requires.receiver.0, c.requires.receiver.1, c.requires.count) in
    c.requires.quick c.index_mut-state.result.now
    (subst (λ n. slice_get states (n - 1) ≡ Some c.index_mut-state.result.now) to
    (slice_get_read states _ (c.to-station.result - 1) c.index_mut-state.result.now refl within
    c.index_mut-state.ensures.value))

pub returns-in-Ok-clause-ok : goal.returns-in-Ok-clause-ok
returns-in-Ok-clause-ok g c =
    let states = c.args.states.now.items in
    let to = c.to-station.ensures.value in
    let within : c.to-station.result - 1 < length states =
    omega (arith, to, c.requires.receiver.0, c.requires.receiver.1, c.requires.count) in
    record {
      before = c.index_mut-state.result.now;
      after = c.handle_quick.new.state;
      is_there = subst (λ n. slice_get states (n - 1) ≡ Some c.index_mut-state.result.now) to
          (slice_get_read states _ (c.to-station.result - 1) c.index_mut-state.result.now refl within
          c.index_mut-state.ensures.value);
      below = c.in_ok-may_handle.ensures.ok;
      new_states = ap (λ n. slice_set states (n - 1) c.handle_quick.new.state) to;
      gives = c.in-Ok.ensures.ok;
      suits = c.handle_quick.ensures.suits;
      fits = c.handle_quick.ensures.fits;
    }
