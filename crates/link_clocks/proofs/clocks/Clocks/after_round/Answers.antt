use Rattle.std.proofs.Common.{◌≡◌, ◌≤◌, ◌++◌, suc, arith, ap, drop, length, subst, sym, take}
use Rattle.std.specs.List.{AllByRecursion}
use Rattle.std.proofs.Math.Numerals.{add-one}
use Rattle.sim_base.proofs.ListLaws.{take-append}
use Rattle.link_clocks.specs.NetClocks.{AreNextClocks, HasClocks}
use Rattle.link_clocks.proofs.NextClocks.{HasClocks-after, clocks_early}
use Rattle.link_clocks.proofs.clocks.Clocks.after_round.Goals as goal

pub set_to_next-requires-clause-time_max : goal.set_to_next-requires-clause-time_max
set_to_next-requires-clause-time_max c =
    let net = c.args.model.now in
    let self = c.args.self in
    subst (AllByRecursion (λ t. t ≤ net.horizon)) (sym c.as_slice.ensures.value)
    (clocks_early net (suc self.rounds) self.next.items c.requires.clocks.next_are)

pub returns-clause-clocks : goal.returns-clause-clocks
returns-clause-clocks c =
    let net = c.args.model.now in
    let self = c.args.self in
    let now = self.now in
    let bounds = c.set_to_next.new.bounds in
    let next = c.set_to_next.ensures.next in
    let h = c.requires.clocks in
    let count = h.now_are.count in
    let many = next.count in
    let same = ap length c.as_mut_slice.ensures.value in
    let is : take now.len (bounds ++ drop (length bounds) now.items) ≡ bounds =
    take-append bounds (drop (length bounds) now.items) now.len
    (omega (arith, count, many, same, c.as_mut_slice.ensures.len)) in
    subst (λ k. HasClocks net k self.next.items (take now.len (bounds ++ drop (length bounds) now.items)))
    (sym (add-one self.rounds))
    (HasClocks-after net self.rounds now.items self.next.items
    (take now.len (bounds ++ drop (length bounds) now.items)) h
    (subst (AreNextClocks net self.next.items) (sym is)
    (subst (λ ts. AreNextClocks net ts bounds) c.as_slice.ensures.value next)))
