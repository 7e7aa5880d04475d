use Rattle.std.proofs.Common.{◌∷◌, ap, ◌∙◌, true, false, arith}
use Rattle.sim_base.specs.Blocks.{of_blocks}
use Rattle.sim_base.specs.Order.{msg_cmp}
use Rattle.sim_base.proofs.Blocks.{of_blocks-halves}
use Rattle.sim_base.proofs.Halving.{length_later, first_free, second_free, full_at, AreBlocks-halves}
use Rattle.sim_base.proofs.Halving.{starts_there, place_first, place_second}
use Rattle.sim_base.proofs.pending.blocks.halve_if_full.Goals as goal

-- ---- a full block is halved

pub halve-requires-clause-full : goal.halve-requires-clause-full
halve-requires-clause-full g c =
    full_at c.args.at c.args.first.now c.args.later.now.items c.len_at.result c.requires.blocks.sized
    c.len_at.ensures.value c.if-len_at-lt-MAX_IN_BLOCK.false

pub index-requires : goal.index-requires
index-requires g c =
    let long = length_later c.args.at c.args.first.now c.halve.new.first c.args.later.now.items
    c.halve.new.later.items c.in_ok-halve.ensures.ok c.requires.place.within in
    omega (arith, c.requires.place.within)

-- ---- the message goes to the first half

pub returns-then-starts_after-clause-same : goal.returns-then-starts_after-clause-same
returns-then-starts_after-clause-same g c = ap of_blocks c.in_ok-halve.ensures.ok
    ∙ of_blocks-halves c.args.at (c.args.first.now ∷ c.args.later.now.items)

pub returns-then-starts_after-clause-blocks : goal.returns-then-starts_after-clause-blocks
returns-then-starts_after-clause-blocks g c =
    let full = full_at c.args.at c.args.first.now c.args.later.now.items c.len_at.result c.requires.blocks.sized
    c.len_at.ensures.value c.if-len_at-lt-MAX_IN_BLOCK.false in
    AreBlocks-halves msg_cmp c.args.at c.args.first.now c.halve.new.first c.args.later.now.items c.halve.new.later.items
    c.in_ok-halve.ensures.ok full c.requires.blocks

pub returns-then-starts_after-clause-place : goal.returns-then-starts_after-clause-place
returns-then-starts_after-clause-place g c =
    let long = length_later c.args.at c.args.first.now c.halve.new.first c.args.later.now.items
    c.halve.new.later.items c.in_ok-halve.ensures.ok c.requires.place.within in
    let starts = starts_there msg_cmp c.args.msg.now c.halve.new.later.items c.args.at c.index.result.now true
    (omega (arith, c.requires.place.within)) c.index.ensures c.if-starts_after.ensures.value in
    place_first msg_cmp c.args.msg.now c.args.at c.args.first.now c.halve.new.first c.args.later.now.items
    c.halve.new.later.items c.in_ok-halve.ensures.ok c.requires.place starts

pub returns-then-starts_after-clause-free : goal.returns-then-starts_after-clause-free
returns-then-starts_after-clause-free g c =
    let full = full_at c.args.at c.args.first.now c.args.later.now.items c.len_at.result c.requires.blocks.sized
    c.len_at.ensures.value c.if-len_at-lt-MAX_IN_BLOCK.false in
    first_free c.args.at c.args.first.now c.halve.new.first c.args.later.now.items c.halve.new.later.items
    c.in_ok-halve.ensures.ok c.requires.place.within full

-- ---- the message goes to the second half

pub returns-else-starts_after-clause-same : goal.returns-else-starts_after-clause-same
returns-else-starts_after-clause-same g c = ap of_blocks c.in_ok-halve.ensures.ok
    ∙ of_blocks-halves c.args.at (c.args.first.now ∷ c.args.later.now.items)

pub returns-else-starts_after-clause-blocks : goal.returns-else-starts_after-clause-blocks
returns-else-starts_after-clause-blocks g c =
    let full = full_at c.args.at c.args.first.now c.args.later.now.items c.len_at.result c.requires.blocks.sized
    c.len_at.ensures.value c.if-len_at-lt-MAX_IN_BLOCK.false in
    AreBlocks-halves msg_cmp c.args.at c.args.first.now c.halve.new.first c.args.later.now.items c.halve.new.later.items
    c.in_ok-halve.ensures.ok full c.requires.blocks

pub returns-else-starts_after-clause-place : goal.returns-else-starts_after-clause-place
returns-else-starts_after-clause-place g c =
    let long = length_later c.args.at c.args.first.now c.halve.new.first c.args.later.now.items
    c.halve.new.later.items c.in_ok-halve.ensures.ok c.requires.place.within in
    let starts = starts_there msg_cmp c.args.msg.now c.halve.new.later.items c.args.at c.index.result.now false
    (omega (arith, c.requires.place.within)) c.index.ensures c.if-starts_after.ensures.value in
    place_second msg_cmp c.args.msg.now c.args.at c.args.first.now c.halve.new.first c.args.later.now.items
    c.halve.new.later.items c.in_ok-halve.ensures.ok c.requires.place _ (omega arith) starts

pub returns-else-starts_after-clause-free : goal.returns-else-starts_after-clause-free
returns-else-starts_after-clause-free g c =
    let full = full_at c.args.at c.args.first.now c.args.later.now.items c.len_at.result c.requires.blocks.sized
    c.len_at.ensures.value c.if-len_at-lt-MAX_IN_BLOCK.false in
    second_free c.args.at c.args.first.now c.halve.new.first c.args.later.now.items c.halve.new.later.items
    c.in_ok-halve.ensures.ok c.requires.place.within _ (omega arith) full
