use Rattle.std.proofs.Common.{Some, arith}
use Rattle.log_chain.specs.Stored.{entry_in}
use Rattle.trace_writer.proofs.Stepping.{cursor-next, view-some, next-there, next-some, next-fits}
use Rattle.trace_writer.proofs.cursor.Cursor.take.Goals as goal

-- ---- the requirements of the calls

pub index_mut-requires : goal.index_mut-requires
index_mut-requires g c =
    let walks = c.self.inside.walks in
    let there = next-there walks.items c.self.inside.tree _ _ c.self.invariant c.least-place.result
    c.least-place.ensures.value c.args.self.now c.self.view_is c.requires.nonempty in
    omega (arith, there, walks.ok.0)

pub take-entry-requires : goal.take-entry-requires
take-entry-requires g c =
    let walks = c.self.inside.walks in
    record {
      nonempty = next-some walks.items c.self.inside.tree _ _ c.self.invariant c.least-place.result
          c.least-place.ensures.value c.args.self.now c.self.view_is c.requires.nonempty c.index_mut.result.now
          c.index_mut.ensures.value;
    }

pub index-requires : goal.index-requires
index-requires g c =
    let walks = c.self.inside.walks in
    let there = next-there walks.items c.self.inside.tree _ _ c.self.invariant c.least-place.result
    c.least-place.ensures.value c.args.self.now c.self.view_is c.requires.nonempty in
    omega (arith, there, walks.ok.0)

pub word-requires-clause-fit : goal.word-requires-clause-fit
word-requires-clause-fit g c =
    let walks = c.self.inside.walks in
    next-fits walks.items c.self.inside.tree _ _ c.self.invariant c.least-place.result c.least-place.ensures.value
    c.args.self.now c.self.view_is c.requires.nonempty c.index_mut.result.now c.take-entry.new.self c.index.result.now
    (entry_in c.take-entry.result) c.index_mut.ensures.value c.take-entry.ensures.value c.index.ensures

pub set-requires : goal.set-requires
set-requires g c =
    let walks = c.self.inside.walks in
    let h = c.self.invariant in
    let there = next-there walks.items c.self.inside.tree _ _ h c.least-place.result c.least-place.ensures.value
    c.args.self.now c.self.view_is c.requires.nonempty in
    (omega arith, omega (arith, there, h.within, h.in_range))

-- ---- the cursor afterwards, and the entry

pub invariant_of-self : goal.invariant_of-self
invariant_of-self g c =
    let walks = c.self.inside.walks in
    let there = next-there walks.items c.self.inside.tree _ _ c.self.invariant c.least-place.result
    c.least-place.ensures.value c.args.self.now c.self.view_is c.requires.nonempty in
    cursor-next walks.items c.self.inside.tree _ _ c.self.invariant c.least-place.result c.least-place.ensures.value
    there c.index_mut.result.now c.take-entry.new.self c.index_mut.ensures.value
    (Some (entry_in c.take-entry.result)) c.take-entry.ensures.value tt
    c.set.new.self c.word.result c.index.result.now c.index.ensures c.word.ensures.value c.set.ensures.value

pub returns : goal.returns
returns g c =
    let walks = c.self.inside.walks in
    let there = next-there walks.items c.self.inside.tree _ _ c.self.invariant c.least-place.result
    c.least-place.ensures.value c.args.self.now c.self.view_is c.requires.nonempty in
    record {
      value = view-some walks.items c.self.inside.tree _ _ c.self.invariant c.least-place.result
          c.least-place.ensures.value there c.index_mut.result.now c.take-entry.new.self c.index_mut.ensures.value
          (Some (entry_in c.take-entry.result)) c.take-entry.ensures.value tt c.args.self.now c.self.view_is;
    }
