use Rattle.std.proofs.Common.{◌≡◌, ◌&&◌, not, Bool, true, false, List, Some, slice_get, map}
use Rattle.std.proofs.Common.{arith, refl, ap, sym, subst, ◌∙◌}
use Rattle.std.proofs.Math.Seq.{map-set_same}
use Rattle.std.proofs.lemmas.Option.{get_or_from_slice_get, slice_get_within}
use Rattle.std.proofs.lemmas.Slice.Zip.{AllZip-long}
use Rattle.clone_sets.specs.Sets.{has, minus, empty}
use Rattle.clone_sets.specs.declared.set.CloneSet.{CloneSet}
use Rattle.clone_sets.proofs.SetLaws.{empty_from_none, has-minus}
use Rattle.run_laws.specs.Copies.{Disjoint}
use Rattle.phys_proc.specs.Own.{StationCopy, with_message, but_pending, IsLowerBound}
use Rattle.phys_proc.proofs.Delivery.{given_alone}
use Rattle.phys_proc.proofs.CopyBounds.{bound_at, bounds_set}
use Rattle.phys_proc.proofs.copies.Copies.deliver_packed.Goals as goal

-- a set without its own clones is empty
minus-itself : (k : CloneSet) → minus k k ≡ empty
minus-itself k = empty_from_none (minus k k) (λ c. has-minus k k c ∙ never (has k c))
  where
    never : (b : Bool) → (b && not b) ≡ false
    never true = refl
    never false = refl

pub index_mut-requires-then-is_at : goal.index_mut-requires-then-is_at
index_mut-requires-then-is_at c =
    let i = c.self.inside in
    let cs = i.copies.items in
    let at = c.is_at.ensures.at c.if-is_at.true in
    let got = subst (λ (l : List StationCopy). slice_get l c.args.guess ≡ Some at.0) c.as_slice.ensures.value at.1 in
    let there = slice_get_within cs c.args.guess at.0 got in
    omega (arith, there, i.bounds.ok.0, AllZip-long IsLowerBound i.bounds.items cs c.self.invariant)

pub give_all-requires-clause-nonempty : goal.give_all-requires-clause-nonempty
give_all-requires-clause-nonempty c =
    let i = c.self.inside in
    let cs = i.copies.items in
    let x = c.index_mut.result.now in
    let at = c.is_at.ensures.at c.if-is_at.true in
    let got = subst (λ (l : List StationCopy). slice_get l c.args.guess ≡ Some at.0) c.as_slice.ensures.value at.1 in
    let clones : x.set ≡ c.args.set = ap (λ (u : StationCopy). u.set)
    (c.index_mut.ensures.value ∙ get_or_from_slice_get cs c.args.guess at.0 x got) ∙ at.2 in
    λ e. c.is_at.ensures.some c.if-is_at.true (sym clones ∙ e)

pub give_all-requires-clause-lower : goal.give_all-requires-clause-lower
give_all-requires-clause-lower c =
    let i = c.self.inside in
    let cs = i.copies.items in
    let x = c.index_mut.result.now in
    let at = c.is_at.ensures.at c.if-is_at.true in
    let got = subst (λ (l : List StationCopy). slice_get l c.args.guess ≡ Some at.0) c.as_slice.ensures.value at.1 in
    let there = slice_get_within cs c.args.guess at.0 got in
    let bound = c.index_mut-then-is_at.result.now in
    bound_at i.bounds.items cs c.args.guess bound bound x c.self.invariant there c.index_mut-then-is_at.ensures.value
    c.index_mut.ensures.value

pub invariant_of-self : goal.invariant_of-self
invariant_of-self c = bounds_set c.self.inside.bounds.items c.self.inside.copies.items c.args.guess
    c.give_all.new.lower_bound c.give_all.new.copy c.self.invariant c.in_err-give_all.ensures.lower

pub returns-in_err-give_all-clause-same : goal.returns-in_err-give_all-clause-same
returns-in_err-give_all-clause-same c =
    map-set_same but_pending c.self.inside.copies.items c.args.guess c.give_all.new.copy c.index_mut.result.now
    (c.in_err-give_all.ensures.same ∙ ap but_pending c.index_mut.ensures.value)
    ∙ ap (λ (l : List StationCopy). map but_pending l) c.self.view_is

pub invariant_of-self-then-is_at : goal.invariant_of-self-then-is_at
invariant_of-self-then-is_at c = bounds_set c.self.inside.bounds.items c.self.inside.copies.items c.args.guess
    c.give_all.new.lower_bound c.give_all.new.copy c.self.invariant c.in_ok-give_all.ensures.lower

pub returns-then-is_at-clause-given : goal.returns-then-is_at-clause-given
returns-then-is_at-clause-given c =
    let i = c.self.inside in
    let cs = i.copies.items in
    let x = c.index_mut.result.now in
    let at = c.is_at.ensures.at c.if-is_at.true in
    let got = subst (λ (l : List StationCopy). slice_get l c.args.guess ≡ Some at.0) c.as_slice.ensures.value at.1 in
    let there = slice_get_within cs c.args.guess at.0 got in
    let clones : x.set ≡ c.args.set = ap (λ (u : StationCopy). u.set)
    (c.index_mut.ensures.value ∙ get_or_from_slice_get cs c.args.guess at.0 x got) ∙ at.2 in
    let m = c.args.msg in
    let k = c.args.set in
    λ u. given_alone m k cs c.args.guess x x (minus k k) c.give_all.new.copy there
    (subst (Disjoint has) (sym c.self.view_is) c.requires.disjoint)
    (ap (minus k) (sym clones ∙ ap (λ (u : StationCopy). u.set) c.index_mut.ensures.value))
    (c.in_ok-give_all.ensures.given ∙ ap (λ (s : CloneSet). with_message m s x) clones
    ∙ ap (with_message m k) c.index_mut.ensures.value) (minus-itself k)
    ∙ ap (λ (l : List StationCopy). map (with_message m k) l) c.self.view_is

pub returns-then-is_at-clause-same : goal.returns-then-is_at-clause-same
returns-then-is_at-clause-same c =
    map-set_same but_pending c.self.inside.copies.items c.args.guess c.give_all.new.copy c.index_mut.result.now
    (c.in_ok-give_all.ensures.same ∙ ap but_pending c.index_mut.ensures.value)
    ∙ ap (λ (l : List StationCopy). map but_pending l) c.self.view_is
