use Rattle.std.proofs.Common.{suc, ap, subst, sym, ◌∙◌}
use Rattle.net_model.specs.Net.{Net}
use Rattle.link_clocks.specs.LinkWorlds.{LinkView}
use Rattle.link_clocks.specs.NetClocks.{AreAllDone, HasClocks, clock}
use Rattle.link_clocks.proofs.LinkStanding.{round-fits}
use Rattle.link_clocks.proofs.Rounded.{fault_after, may_step, round_is_step, seen_after, stands_after, unboxed}
use Rattle.link_clocks.proofs.link_world.LinkWorld.advance.Goals as goal

pub advance-requires-clause-stations : goal.advance-requires-clause-stations
advance-requires-clause-stations g c =
    let i = c.deref_mut-parts.result.now in
    let k = c.self.inside.clocks in
    let of = unboxed i c.self.inside.stations.value k.rounds k.now.items k.next.items c.args.self
    c.deref_mut-parts.ensures.value c.self.invariant c.self.view_is in
    (may_step i.model.value i.lists.clones i.ends k.rounds k.now.items k.next.items i.procs.items c.args.self
    of.0 of.1 c.bound_by.new.buffers.bounds.items c.as_slice.result.now
    c.in_ok-bound_by.ensures.same c.as_slice.ensures.value).0

pub advance-requires-clause-bounds : goal.advance-requires-clause-bounds
advance-requires-clause-bounds g c =
    let i = c.deref_mut-parts.result.now in
    let k = c.self.inside.clocks in
    let of = unboxed i c.self.inside.stations.value k.rounds k.now.items k.next.items c.args.self
    c.deref_mut-parts.ensures.value c.self.invariant c.self.view_is in
    (may_step i.model.value i.lists.clones i.ends k.rounds k.now.items k.next.items i.procs.items c.args.self
    of.0 of.1 c.bound_by.new.buffers.bounds.items c.as_slice.result.now
    c.in_ok-bound_by.ensures.same c.as_slice.ensures.value).1

pub returns-in-Err-clause-fault : goal.returns-in-Err-clause-fault
returns-in-Err-clause-fault g c =
    let i = c.deref_mut-parts.result.now in
    let k = c.self.inside.clocks in
    let of = unboxed i c.self.inside.stations.value k.rounds k.now.items k.next.items c.args.self
    c.deref_mut-parts.ensures.value c.self.invariant c.self.view_is in
    let may = round_is_step i.model.value i.lists.clones i.ends k.rounds k.now.items k.next.items i.procs.items
    c.args.self
    of.0 of.1 c.bound_by.new.buffers.bounds.items c.as_slice.result.now
    c.in_ok-bound_by.ensures.same c.as_slice.ensures.value in
    fault_after i.model.value i.lists.clones i.ends k.rounds k.now.items k.next.items i.procs.items c.args.self
    of.0 of.1 c.bound_by.new.buffers.bounds.items c.as_slice.result.now
    c.in_ok-bound_by.ensures.same c.as_slice.ensures.value c.args.steps.now c.advance.new.steps c.in-Err.fault
    (c.in-Err.ensures.fault (clock i.model.value k.rounds) (clock i.model.value (suc k.rounds)) may)

-- ---- the world after the round

pub after_round-clocks-requires : goal.after_round-clocks-requires
after_round-clocks-requires g c =
    let i = c.deref_mut-parts.result.now in
    let k = c.self.inside.clocks in
    let of = unboxed i c.self.inside.stations.value k.rounds k.now.items k.next.items c.args.self
    c.deref_mut-parts.ensures.value c.self.invariant c.self.view_is in
    let going : ¬ (AreAllDone i.model.value k.rounds) = subst (λ (v : LinkView). ¬ (AreAllDone v.net v.rounds))
    (sym of.1) c.requires.going in
    record {
      clocks = subst (λ (n : Net). HasClocks n k.rounds k.now.items k.next.items)
          (sym (c.deref.ensures ∙ c.advance.ensures.model)) of.0.clocks_are;
      fits = round-fits i.model.value i.lists.clones i.ends k.rounds k.now.items k.next.items i.procs.items
          of.0 going;
    }

pub invariant_of-result : goal.invariant_of-result
invariant_of-result g c =
    let i = c.deref_mut-parts.result.now in
    let k = c.self.inside.clocks in
    let of = unboxed i c.self.inside.stations.value k.rounds k.now.items k.next.items c.args.self
    c.deref_mut-parts.ensures.value c.self.invariant c.self.view_is in
    let may = round_is_step i.model.value i.lists.clones i.ends k.rounds k.now.items k.next.items i.procs.items
    c.args.self
    of.0 of.1 c.bound_by.new.buffers.bounds.items c.as_slice.result.now
    c.in_ok-bound_by.ensures.same c.as_slice.ensures.value in
    let s = c.advance.new.self in
    let clocks = c.after_round-clocks.result in
    let after = c.after_round-clocks.ensures in
    stands_after i.model.value i.lists.clones i.ends k.rounds k.now.items k.next.items i.procs.items c.args.self
    of.0 of.1 c.bound_by.new.buffers.bounds.items c.as_slice.result.now
    c.in_ok-bound_by.ensures.same c.as_slice.ensures.value s.model.value s.lists.clones s.ends clocks.rounds
    c.args.steps.now c.advance.new.steps clocks.now.items clocks.next.items s.procs.items c.advance.ensures.model
    (ap (λ l. l.clones) c.advance.ensures.lists) c.advance.ensures.ends after.counted
    (subst (λ (n : Net). HasClocks n clocks.rounds clocks.now.items clocks.next.items) c.deref.ensures after.clocks)
    (c.in-Ok.ensures.stepped (clock i.model.value k.rounds) (clock i.model.value (suc k.rounds)) may)

pub returns-in-Ok-clause-value : goal.returns-in-Ok-clause-value
returns-in-Ok-clause-value g c =
    let i = c.deref_mut-parts.result.now in
    let k = c.self.inside.clocks in
    let of = unboxed i c.self.inside.stations.value k.rounds k.now.items k.next.items c.args.self
    c.deref_mut-parts.ensures.value c.self.invariant c.self.view_is in
    let one : LinkView = record {
      net = i.model.value;
      clones = i.lists.clones;
      rounds = c.self.inside.clocks.rounds;
    } in
    ap (λ (n : Net). record one {
      net = n;
      rounds = c.after_round-clocks.result.rounds;
      clones =
          c.advance.new.self.lists.clones;
    }) c.advance.ensures.model
    ∙ ap (λ cs. record one { clones = cs; rounds = c.after_round-clocks.result.rounds })
    (ap (λ l. l.clones) c.advance.ensures.lists)
    ∙ ap (λ n. record one { rounds = n }) c.after_round-clocks.ensures.counted
    ∙ ap (λ (v : LinkView). record v { rounds = suc v.rounds }) of.1

pub returns-in-Ok-clause-steps : goal.returns-in-Ok-clause-steps
returns-in-Ok-clause-steps g c =
    let i = c.deref_mut-parts.result.now in
    let k = c.self.inside.clocks in
    let of = unboxed i c.self.inside.stations.value k.rounds k.now.items k.next.items c.args.self
    c.deref_mut-parts.ensures.value c.self.invariant c.self.view_is in
    let may = round_is_step i.model.value i.lists.clones i.ends k.rounds k.now.items k.next.items i.procs.items
    c.args.self
    of.0 of.1 c.bound_by.new.buffers.bounds.items c.as_slice.result.now
    c.in_ok-bound_by.ensures.same c.as_slice.ensures.value in
    (seen_after i.model.value i.lists.clones i.ends k.rounds k.now.items k.next.items i.procs.items c.args.self
    of.0 of.1 c.bound_by.new.buffers.bounds.items c.as_slice.result.now
    c.in_ok-bound_by.ensures.same c.as_slice.ensures.value c.args.steps.now c.advance.new.steps
    c.advance.new.self.procs.items
    (c.in-Ok.ensures.stepped (clock i.model.value k.rounds) (clock i.model.value (suc k.rounds)) may)).0

pub returns-in-Ok-clause-length_max : goal.returns-in-Ok-clause-length_max
returns-in-Ok-clause-length_max g c =
    let i = c.deref_mut-parts.result.now in
    let k = c.self.inside.clocks in
    let of = unboxed i c.self.inside.stations.value k.rounds k.now.items k.next.items c.args.self
    c.deref_mut-parts.ensures.value c.self.invariant c.self.view_is in
    let may = round_is_step i.model.value i.lists.clones i.ends k.rounds k.now.items k.next.items i.procs.items
    c.args.self
    of.0 of.1 c.bound_by.new.buffers.bounds.items c.as_slice.result.now
    c.in_ok-bound_by.ensures.same c.as_slice.ensures.value in
    (seen_after i.model.value i.lists.clones i.ends k.rounds k.now.items k.next.items i.procs.items c.args.self
    of.0 of.1 c.bound_by.new.buffers.bounds.items c.as_slice.result.now
    c.in_ok-bound_by.ensures.same c.as_slice.ensures.value c.args.steps.now c.advance.new.steps
    c.advance.new.self.procs.items
    (c.in-Ok.ensures.stepped (clock i.model.value k.rounds) (clock i.model.value (suc k.rounds)) may)).1
