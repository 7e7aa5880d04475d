use Rattle.std.proofs.Common.{◌≡◌, ◌+◌, length, drop, ap, arith, ◌∙◌, append-nil}
use Rattle.log_chain.specs.Segments.{entries_in, lengths, IsFit}
use Rattle.log_chain.proofs.Chains.{entries_in-join, entries_in-seal, chain-seal}
use Rattle.sim_base.specs.Blocks.{of_blocks}
use Rattle.log_chain.proofs.log.Log.seal.Goals as goal

pub invariant_of-self-2 : goal.invariant_of-self-2
invariant_of-self-2 c =
    let l = c.self.inside in
    let segments = l.segments.items in
    let before = c.fit_behind-before.result.0 in
    let fit : IsFit (lengths segments) before c.fit_behind-before.result.1 =
    rw c.as_slice.ensures.value at c.fit_behind-before.ensures.fit in
    let size : c.fit_behind-before.result.1 ≡ length (entries_in (drop before segments)) + l.more =
    rw (← c.as_slice.ensures.value) c.fit_behind-before.ensures.size in
    let joined = entries_in-join segments _ before _ _ (of_blocks l.blocks.items) c.in_ok-segment.ensures.value
    c.as_slice-2.ensures.value (ap of_blocks c.as_slice-3.ensures.value) in
    rw c.new.ensures.items (chain-seal segments _ l.shared l.more before _ _ l.blocks.items c.self.invariant
    (omega arith) fit size joined c.in_ok-put_behind.ensures.ok)

pub returns : goal.returns
returns c =
    let l = c.self.inside in
    let segments = l.segments.items in
    let before = c.fit_behind-before.result.0 in
    let joined = entries_in-join segments _ before _ _ (of_blocks l.blocks.items) c.in_ok-segment.ensures.value
    c.as_slice-2.ensures.value (ap of_blocks c.as_slice-3.ensures.value) in
    record {
      same = rw (c.new.ensures.items, append-nil)
          (entries_in-seal segments _ before _ (of_blocks l.blocks.items) joined c.in_ok-put_behind.ensures.ok
          ∙ c.self.view_is);
    }
