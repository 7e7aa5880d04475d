-- Lower bounds of the pending times of copies, in a list parallel to the copies.
use Rattle.std.proofs.Common.{◌≡◌, ℕ, zero, suc, ◌<◌, ◌≤◌, arith, List, [], ◌∷◌, ◌++◌, length, get_or}
use Rattle.std.proofs.Common.{min, map, slice_set, subst, sym}
use Rattle.std.specs.List.{AllByRecursion, AllZip, remove}
use Rattle.sim_base.specs.Order.{msg_cmp}
use Rattle.sim_base.specs.Pending.{insert_marked}
use Rattle.sim_base.specs.declared.message.Msg.{Msg}
use Rattle.sim_base.proofs.ListLaws.{all_weaker}
use Rattle.clone_sets.specs.Sets.{union}
use Rattle.clone_sets.specs.declared.set.CloneSet.{CloneSet}
use Rattle.phys_proc.specs.Own.{StationCopy, MarkedMessages, IsLowerBound, IsLowerBoundOfAll, copy_after_fork}
use Rattle.phys_proc.proofs.Forks.{IsLowerBoundOfAll-forked}
use Rattle.phys_proc.proofs.LowerBounds.{IsLowerBound-before}
use Rattle.phys_proc.proofs.Sends.{all_inserted}

-- ---- AllZip IsLowerBound

-- the time at a place is the time of the copy at that place
pub bound_at : (ts : List ℕ) (xs : List StationCopy) (i d t : ℕ) (x : StationCopy) → AllZip IsLowerBound ts xs
    → i < length xs → t ≡ get_or ts i d → x ≡ get_or xs i x → IsLowerBound t x
bound_at ts [] i d t x f l p q = absurd (omega (arith, l))
bound_at [] (y ∷ ys) i d t x f l p q = absurd f
bound_at (u ∷ ts) (y ∷ ys) zero d t x f l p q =
    subst (λ k. IsLowerBound k x) (sym p) (subst (IsLowerBound u) (sym q) f.0)
bound_at (u ∷ ts) (y ∷ ys) (suc i) d t x f l p q = bound_at ts ys i d t x f.1 (omega (arith, l)) p q

-- a time and a copy may be set at a place
pub bounds_set : (ts : List ℕ) (xs : List StationCopy) (i t : ℕ) (x : StationCopy) → AllZip IsLowerBound ts xs
    → IsLowerBound t x
    → AllZip IsLowerBound (slice_set ts i t) (slice_set xs i x)
bounds_set [] [] i t x f g = f
bounds_set [] (y ∷ ys) i t x f g = absurd f
bounds_set (u ∷ ts) [] i t x f g = absurd f
bounds_set (u ∷ ts) (y ∷ ys) zero t x f g = (g, f.1)
bounds_set (u ∷ ts) (y ∷ ys) (suc i) t x f g = (f.0, bounds_set ts ys i t x f.1 g)

-- and so they are after both are removed at a place that was set before
pub bounds_without : (ts : List ℕ) (xs : List StationCopy) (i : ℕ) (y : StationCopy) → AllZip IsLowerBound ts xs
    → AllZip IsLowerBound (remove ts i) (remove (slice_set xs i y) i)
bounds_without [] [] zero y f = tt
bounds_without [] [] (suc i) y f = tt
bounds_without [] (x ∷ xs) i y f = absurd f
bounds_without (t ∷ ts) [] i y f = absurd f
bounds_without (t ∷ ts) (x ∷ xs) zero y f = f.1
bounds_without (t ∷ ts) (x ∷ xs) (suc i) y f = (f.0, bounds_without ts xs i y f.1)

-- two lists in one
pub bounds_joined : (ts us : List ℕ) (xs ys : List StationCopy) → AllZip IsLowerBound ts xs → AllZip IsLowerBound us ys
    → AllZip IsLowerBound (ts ++ us) (xs ++ ys)
bounds_joined [] us [] ys f g = g
bounds_joined [] us (x ∷ xs) ys f g = absurd f
bounds_joined (t ∷ ts) us [] ys f g = absurd f
bounds_joined (t ∷ ts) us (x ∷ xs) ys f g = (f.0, bounds_joined ts us xs ys f.1 g)

-- a copy more
pub bounds_put : (ts us : List ℕ) (xs ys : List StationCopy) (t : ℕ) (x : StationCopy) → us ≡ ts ++ t ∷ []
    → ys ≡ xs ++ x ∷ [] → AllZip IsLowerBound ts xs → IsLowerBound t x → AllZip IsLowerBound us ys
bounds_put ts us xs ys t x d e f g = rw (d, e) (bounds_joined ts (t ∷ []) xs (x ∷ []) f (g, tt))

-- a time that is not after any of the times is one for all copies
pub bounds_of_all : (least : ℕ) (ts : List ℕ) (xs : List StationCopy) → AllZip IsLowerBound ts xs
    → ((i : ℕ) → i < length ts → least ≤ get_or ts i 0)
    → IsLowerBoundOfAll least xs
bounds_of_all least [] [] f l = tt
bounds_of_all least [] (x ∷ xs) f l = absurd f
bounds_of_all least (t ∷ ts) [] f l = absurd f
bounds_of_all least (t ∷ ts) (x ∷ xs) f l = (
  IsLowerBound-before least t x (l 0 (omega arith)) f.0,
  bounds_of_all least ts xs f.1 (λ i h. l (suc i) (omega (arith, h))),
)

-- the times stay if a clone is added next to another
pub bounds_forked : (old new : ℕ) (ts : List ℕ) (xs : List StationCopy) → AllZip IsLowerBound ts xs
    → AllZip IsLowerBound ts (map (copy_after_fork old new) xs)
bounds_forked old new [] [] f = tt
bounds_forked old new [] (x ∷ xs) f = absurd f
bounds_forked old new (t ∷ ts) [] f = absurd f
bounds_forked old new (t ∷ ts) (x ∷ xs) f = (
  (IsLowerBoundOfAll-forked old new t (x ∷ []) (f.0, tt)).0,
  bounds_forked old new ts xs f.1,
)

-- ---- insert_marked

-- with a message put among those that are pending, nothing is before the time so far or its own, whichever is less
pub bound_inserted : (t u : ℕ) (m : Msg) (k : CloneSet) (q r : MarkedMessages) → u ≡ min t m.key.time
    → r ≡ insert_marked union msg_cmp m k q → AllByRecursion (λ (x : Msg × CloneSet). t ≤ x.0.key.time) q
    → AllByRecursion (λ (x : Msg × CloneSet). u ≤ x.0.key.time) r
bound_inserted t u m k q r e is f = subst (AllByRecursion (λ (x : Msg × CloneSet). u ≤ x.0.key.time)) (sym is)
    (all_inserted (λ z. u ≤ z.key.time) k m q (omega (arith, e))
    (all_weaker (λ y. t ≤ y.0.key.time) (λ y. u ≤ y.0.key.time) q (λ y h. omega (arith, e, h)) f))
