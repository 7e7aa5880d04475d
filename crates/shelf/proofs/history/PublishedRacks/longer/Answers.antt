use Rattle.std.proofs.Common.{◌≤◌, ap, subst, arith, length, List}
use mathlib.Core.List.{IsPrefix}
use Rattle.shelf.specs.Rules.{racks_from}
use Rattle.shelf.specs.declared.entry.Entry.{Entry}
use Rattle.shelf.proofs.Prefixes.{prefix_shorter}
use Rattle.shelf.proofs.Adding.{racks_from-prefix}
use Rattle.shelf.proofs.history.PublishedRacks.longer.Goals as goal

pub returns-then-self-other-clause-this : goal.returns-then-self-other-clause-this
returns-then-self-other-clause-this g c =
    let both : List Entry = c.learn.new.self.log in
    let this : IsPrefix c.self.inside.seen.log both =
    subst (λ (l : List Entry). IsPrefix l both) (ap (λ s. s.log) c.again-both.ensures) c.learn.ensures.2 in
    let racks = racks_from g.J.Naming.start in
    let less : length (racks c.self.inside.seen.log) ≤ length (racks c.other.inside.seen.log) =
    omega (arith, c.self.invariant.1, c.other.invariant.1) in
    rw (c.again.ensures.value, ← c.self.view_is, ← c.other.view_is)
    (prefix_shorter (racks c.self.inside.seen.log) (racks c.other.inside.seen.log) (racks both)
    (racks_from-prefix g.J.Naming.start c.self.inside.seen.log both this)
    (racks_from-prefix g.J.Naming.start c.other.inside.seen.log both c.learn.ensures.3) less)

pub returns-clause-that : goal.returns-clause-that
returns-clause-that g c =
    let both : List Entry = c.learn.new.self.log in
    let this : IsPrefix c.self.inside.seen.log both =
    subst (λ (l : List Entry). IsPrefix l both) (ap (λ s. s.log) c.again-both.ensures) c.learn.ensures.2 in
    let racks = racks_from g.J.Naming.start in
    let less : length (racks c.other.inside.seen.log) ≤ length (racks c.self.inside.seen.log) =
    omega (arith, c.self.invariant.1, c.other.invariant.1) in
    rw (c.again-else-self-other.ensures.value, ← c.self.view_is, ← c.other.view_is)
    (prefix_shorter (racks c.other.inside.seen.log) (racks c.self.inside.seen.log) (racks both)
    (racks_from-prefix g.J.Naming.start c.other.inside.seen.log both c.learn.ensures.3)
    (racks_from-prefix g.J.Naming.start c.self.inside.seen.log both this) less)
