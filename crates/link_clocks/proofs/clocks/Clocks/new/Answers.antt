use Rattle.std.proofs.Common.{◌≡◌, ◌≤◌, ◌++◌, arith, ap, drop, length, subst, sym, take}
use Rattle.std.specs.List.{AllByRecursion}
use Rattle.sim_base.proofs.ListLaws.{take-append}
use Rattle.link_clocks.specs.NetClocks.{AreNextClocks}
use Rattle.link_clocks.proofs.NextClocks.{HasClocks-first, all_of}
use Rattle.link_clocks.proofs.clocks.Clocks.new.Goals as goal

pub set_to_next-requires-clause-time_max : goal.set_to_next-requires-clause-time_max
set_to_next-requires-clause-time_max c =
    let net = c.args.model.now in
    let now = c.in_ok-now.now in
    subst (AllByRecursion (λ t. t ≤ net.horizon)) (sym c.as_slice.ensures.value)
    (all_of (λ t. t ≤ net.horizon) now.items (λ i l. let z = c.in_ok-now.ensures.zero i 0 l in omega (arith, z)))

pub returns-clause-first : goal.returns-clause-first
returns-clause-first c =
    let net = c.args.model.now in
    let now = c.in_ok-now.now in
    let room = c.in_ok-next.next in
    let bounds = c.set_to_next.new.bounds in
    let next = c.set_to_next.ensures.next in
    let many = next.count in
    let same = ap length c.as_mut_slice.ensures.value in
    let is : take room.len (bounds ++ drop (length bounds) room.items) ≡ bounds =
    take-append bounds (drop (length bounds) room.items) room.len
    (omega (arith, c.in_ok-next.ensures.count, many, same, c.as_mut_slice.ensures.len)) in
    HasClocks-first net now.items (take room.len (bounds ++ drop (length bounds) room.items)) c.in_ok-now.ensures.count
    c.in_ok-now.ensures.zero
    (subst (AreNextClocks net now.items) (sym is)
    (subst (λ ts. AreNextClocks net ts bounds) c.as_slice.ensures.value next))
