-- Lower bounds of pending times.
use Rattle.std.proofs.Common.{◌≡◌, ℕ, ◌≤◌, min, ◌==◌, Bool, true, false, cond}
use Rattle.std.proofs.Common.{List, [], ◌∷◌, Some, None, arith, map}
use Rattle.std.specs.List.{AllByRecursion}
use Rattle.std.specs.declared.cmp.Ordering.TheVariants.{Less}
use Rattle.sim_base.specs.Order.{msg_cmp}
use Rattle.sim_base.specs.Pending.{insert_marked, first_time}
use Rattle.sim_base.specs.declared.message.Msg.{Msg}
use Rattle.sim_base.proofs.OrderEqual.{msg-timed}
use Rattle.clone_sets.specs.Sets.{meet, union, empty}
use Rattle.clone_sets.specs.declared.set.CloneSet.{CloneSet}
use Rattle.sim_base.specs.Marked.{SortedMarked}
use Rattle.run_laws.proofs.Running.{all_from_zero}
use Rattle.sim_base.proofs.ListLaws.{all_weaker}
use Rattle.phys_proc.specs.Own.{StationCopy, MarkedMessages, IsLowerBound, IsLowerBoundOfAll, with_message}
use Rattle.phys_proc.proofs.Sends.{all_inserted}

-- ---- IsLowerBound

-- nothing is pending before the time of the least message
pub from_time : (a : StationCopy) (t : ℕ) → Some t ≡ first_time a.pending → SortedMarked msg_cmp a.pending
    → IsLowerBound t a
from_time a t e sorted = of_pending a.pending e sorted
  where
    of_pending : (q : MarkedMessages) → Some t ≡ first_time q → SortedMarked msg_cmp q
        → AllByRecursion (λ (y : Msg × CloneSet). t ≤ y.0.key.time) q
    of_pending [] e s = tt
    of_pending (x ∷ xs) e s = let h : t ≡ x.0.key.time = cc in (
      omega (arith, h),
      all_weaker (λ y. msg_cmp x.0 y.0 ≡ Less) (λ y. t ≤ y.0.key.time) xs
          (λ y l. let m = msg-timed x.0 y.0 l in omega (arith, h, m)) s.0,
    )

-- if nothing is pending, nothing is pending before any time
pub from_none : (a : StationCopy) (t : ℕ) → None ≡ first_time a.pending → IsLowerBound t a
from_none a t e = of_pending a.pending e
  where
    of_pending : (q : MarkedMessages) → None ≡ first_time q
        → AllByRecursion (λ (y : Msg × CloneSet). t ≤ y.0.key.time) q
    of_pending [] e = tt
    of_pending (x ∷ xs) e = absurd (cc)

-- nothing is pending before an earlier time
pub IsLowerBound-before : (t u : ℕ) (a : StationCopy) → t ≤ u → IsLowerBound u a → IsLowerBound t a
IsLowerBound-before t u a l f = all_weaker (λ y. u ≤ y.0.key.time) (λ y. t ≤ y.0.key.time) a.pending
    (λ y h. omega (arith, l, h)) f

-- ---- IsLowerBoundOfAll

-- nothing is pending before time 0
pub IsLowerBoundOfAll-zero : (xs : List StationCopy) → IsLowerBoundOfAll 0 xs
IsLowerBoundOfAll-zero [] = tt
IsLowerBoundOfAll-zero (x ∷ xs) =
    (all_from_zero (λ (y : Msg × CloneSet). y.0.key.time) x.pending, IsLowerBoundOfAll-zero xs)

-- with a message more, nothing is pending before a time that the message is not before
IsLowerBound-given : (t : ℕ) (m : Msg) (k : CloneSet) (a : StationCopy) → t ≤ m.key.time → IsLowerBound t a
    → IsLowerBound t (with_message m k a)
IsLowerBound-given t m k a l f = by_test (meet a.set k == empty)
  where
    by_test : (b : Bool) → AllByRecursion (λ (y : Msg × CloneSet). t ≤ y.0.key.time)
        (cond b a.pending (insert_marked union msg_cmp m (meet a.set k) a.pending))
    by_test true = f
    by_test false = all_inserted (λ z. t ≤ z.key.time) (meet a.set k) m a.pending l f

-- with a message more, copies have nothing pending before its time or the time so far, whichever is less
pub IsLowerBoundOfAll-given : (t u : ℕ) (m : Msg) (k : CloneSet) (xs : List StationCopy) → u ≡ min t m.key.time
    → IsLowerBoundOfAll t xs → IsLowerBoundOfAll u (map (with_message m k) xs)
IsLowerBoundOfAll-given t u m k [] e f = tt
IsLowerBoundOfAll-given t u m k (x ∷ xs) e f = (
  IsLowerBound-given u m k x (omega (arith, e)) (IsLowerBound-before u t x (omega (arith, e)) f.0),
  IsLowerBoundOfAll-given t u m k xs e f.1,
)
