use Rattle.std.proofs.Common.{◌≡◌, ap, arith, length}
use Rattle.world_core.proofs.Windowed.{fault_after, may_step, seen_after, stands_after, unboxed, window_is_step}
use Rattle.world_core.proofs.world.World.advance.Goals as goal

pub advance-requires-clause-stations : goal.advance-requires-clause-stations
advance-requires-clause-stations g c =
    let i = c.deref_mut-parts.result.now in
    let of = unboxed i c.self.inside.stations.value c.self.inside.front c.args.self c.deref_mut-parts.ensures.value
    c.self.invariant c.self.view_is in
    let bounds = c.bound_all.new.self.bounds.items in
    let many : length bounds ≡ length i.procs.items =
    omega (arith, c.in_ok-bound_all.ensures.count, c.len.ensures, i.procs.ok.0) in
    (may_step i.model.value i.lists.clones i.ends c.self.inside.front c.args.bound i.procs.items c.args.self
    of.0 of.1 c.requires.above c.requires.within bounds many c.in_ok-bound_all.ensures.bounds).0

pub advance-requires-clause-bounds : goal.advance-requires-clause-bounds
advance-requires-clause-bounds g c =
    let i = c.deref_mut-parts.result.now in
    let of = unboxed i c.self.inside.stations.value c.self.inside.front c.args.self c.deref_mut-parts.ensures.value
    c.self.invariant c.self.view_is in
    let bounds = c.bound_all.new.self.bounds.items in
    let many : length bounds ≡ length i.procs.items =
    omega (arith, c.in_ok-bound_all.ensures.count, c.len.ensures, i.procs.ok.0) in
    (may_step i.model.value i.lists.clones i.ends c.self.inside.front c.args.bound i.procs.items c.args.self
    of.0 of.1 c.requires.above c.requires.within bounds many c.in_ok-bound_all.ensures.bounds).1

pub invariant_of-result : goal.invariant_of-result
invariant_of-result g c =
    let i = c.deref_mut-parts.result.now in
    let of = unboxed i c.self.inside.stations.value c.self.inside.front c.args.self c.deref_mut-parts.ensures.value
    c.self.invariant c.self.view_is in
    let bounds = c.bound_all.new.self.bounds.items in
    let many : length bounds ≡ length i.procs.items =
    omega (arith, c.in_ok-bound_all.ensures.count, c.len.ensures, i.procs.ok.0) in
    let may = window_is_step i.model.value i.lists.clones i.ends c.self.inside.front c.args.bound i.procs.items
    c.args.self
    of.0 of.1 c.requires.above c.requires.within bounds many c.in_ok-bound_all.ensures.bounds in
    let s = c.advance.new.self in
    stands_after i.model.value i.lists.clones i.ends c.self.inside.front c.args.bound i.procs.items c.args.self
    of.0 of.1 c.requires.above c.requires.within bounds many c.in_ok-bound_all.ensures.bounds
    s.model.value s.lists.clones s.ends c.args.steps.now c.advance.new.steps s.procs.items c.advance.ensures.model
    (ap (λ l. l.clones) c.advance.ensures.lists) c.advance.ensures.ends
    (c.in-Ok.ensures.stepped (λ s. c.self.inside.front) (λ s. c.args.bound) may)

pub returns-in-Ok-clause-steps : goal.returns-in-Ok-clause-steps
returns-in-Ok-clause-steps g c =
    let i = c.deref_mut-parts.result.now in
    let of = unboxed i c.self.inside.stations.value c.self.inside.front c.args.self c.deref_mut-parts.ensures.value
    c.self.invariant c.self.view_is in
    let bounds = c.bound_all.new.self.bounds.items in
    let many : length bounds ≡ length i.procs.items =
    omega (arith, c.in_ok-bound_all.ensures.count, c.len.ensures, i.procs.ok.0) in
    let may = window_is_step i.model.value i.lists.clones i.ends c.self.inside.front c.args.bound i.procs.items
    c.args.self
    of.0 of.1 c.requires.above c.requires.within bounds many c.in_ok-bound_all.ensures.bounds in
    (seen_after i.model.value i.lists.clones i.ends c.self.inside.front c.args.bound i.procs.items c.args.self
    of.0 of.1 c.requires.above c.requires.within bounds many c.in_ok-bound_all.ensures.bounds
    c.args.steps.now c.advance.new.steps c.advance.new.self.procs.items
    (c.in-Ok.ensures.stepped (λ s. c.self.inside.front) (λ s. c.args.bound) may)).0

pub returns-in-Ok-clause-length_max : goal.returns-in-Ok-clause-length_max
returns-in-Ok-clause-length_max g c =
    let i = c.deref_mut-parts.result.now in
    let of = unboxed i c.self.inside.stations.value c.self.inside.front c.args.self c.deref_mut-parts.ensures.value
    c.self.invariant c.self.view_is in
    let bounds = c.bound_all.new.self.bounds.items in
    let many : length bounds ≡ length i.procs.items =
    omega (arith, c.in_ok-bound_all.ensures.count, c.len.ensures, i.procs.ok.0) in
    let may = window_is_step i.model.value i.lists.clones i.ends c.self.inside.front c.args.bound i.procs.items
    c.args.self
    of.0 of.1 c.requires.above c.requires.within bounds many c.in_ok-bound_all.ensures.bounds in
    (seen_after i.model.value i.lists.clones i.ends c.self.inside.front c.args.bound i.procs.items c.args.self
    of.0 of.1 c.requires.above c.requires.within bounds many c.in_ok-bound_all.ensures.bounds
    c.args.steps.now c.advance.new.steps c.advance.new.self.procs.items
    (c.in-Ok.ensures.stepped (λ s. c.self.inside.front) (λ s. c.args.bound) may)).1

pub returns-in-Err-clause-fault : goal.returns-in-Err-clause-fault
returns-in-Err-clause-fault g c =
    let i = c.deref_mut-parts.result.now in
    let of = unboxed i c.self.inside.stations.value c.self.inside.front c.args.self c.deref_mut-parts.ensures.value
    c.self.invariant c.self.view_is in
    let bounds = c.bound_all.new.self.bounds.items in
    let many : length bounds ≡ length i.procs.items =
    omega (arith, c.in_ok-bound_all.ensures.count, c.len.ensures, i.procs.ok.0) in
    let may = window_is_step i.model.value i.lists.clones i.ends c.self.inside.front c.args.bound i.procs.items
    c.args.self
    of.0 of.1 c.requires.above c.requires.within bounds many c.in_ok-bound_all.ensures.bounds in
    fault_after i.model.value i.lists.clones i.ends c.self.inside.front c.args.bound i.procs.items c.args.self
    of.0 of.1 c.requires.above c.requires.within bounds many c.in_ok-bound_all.ensures.bounds
    c.args.steps.now c.advance.new.steps c.in-Err.fault
    (c.in-Err.ensures.fault (λ s. c.self.inside.front) (λ s. c.args.bound) may)
