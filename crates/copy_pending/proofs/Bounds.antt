-- Lower bounds of times, and a first message that is replaced.
use Rattle.std.proofs.Common.{◌≡◌, ℕ, ◌<◌, ◌≤◌, List, [], ◌∷◌, refl, sym, ap, ◌∙◌, arith, drop}
use Rattle.std.proofs.Common.{Option, Some, None, slice_get, Less, nat_cmp}
use Rattle.std.specs.Prelude.{IfSome, IfNone}
use Rattle.std.specs.List.{AllByRecursion}
use Rattle.std.specs.Cmp.{nat_cmp_is}
use Rattle.std.specs.Ordering.{ordering_then}
use Rattle.std.specs.declared.cmp.Ordering.{Ordering}
use Rattle.std.specs.declared.cmp.Ordering.TheVariants.{Equal, Greater}
use Rattle.sim_base.specs.Order.{msg_cmp, payload_cmp}
use Rattle.sim_base.specs.Pending.{place_marked, insert_marked, first_time}
use Rattle.sim_base.specs.Marked.{SortedMarked}
use Rattle.sim_base.specs.declared.message.Msg.{Msg}
use Rattle.sim_base.proofs.ListLaws.{all_weaker}
use Rattle.sim_base.proofs.OrderEqual.{msg-timed}
use Rattle.clone_sets.specs.Sets.{union}
use Rattle.clone_sets.specs.declared.set.CloneSet.{CloneSet}
use Rattle.run_laws.specs.Copies.{insert_marked_all}
use Rattle.run_laws.specs.Queue.{Sorted}
use Rattle.msg_heap.specs.Heaps.{first_time as time_of_first}
use Rattle.copy_pending.specs.Merged.{CopyPendingView, IsFirstForAll, IsLowerBoundOf, merged, messages_of, firsts_cmp}
use Rattle.copy_pending.specs.Merged.{without_first}
use Rattle.copy_pending.proofs.Firsts.{take_less}

-- ---- properties of messages

module _ (P : Msg → Type 0) (set : CloneSet) where
  -- a property of a message and of the present ones holds of all, wherever it is put
  all_placed : (r : Ordering) (m : Msg) (y : Msg × CloneSet) (ys rest : List (Msg × CloneSet)) → P m
      → AllByRecursion (λ x. P x.0) (y ∷ ys) → AllByRecursion (λ x. P x.0) rest
      → AllByRecursion (λ x. P x.0) (place_marked union r m set y ys rest)
  all_placed Less m y ys rest p f g = (p, f)
  all_placed Equal m y ys rest p f g = f
  all_placed Greater m y ys rest p f g = (f.0, g)

  -- a property of the present messages and of a new one holds of all, once it is put in its place
  pub all_inserted : (m : Msg) (q : List (Msg × CloneSet)) → P m → AllByRecursion (λ x. P x.0) q
      → AllByRecursion (λ x. P x.0) (insert_marked union msg_cmp m set q)
  all_inserted m [] p f = (p, tt)
  all_inserted m (y ∷ ys) p f = all_placed (msg_cmp m y.0) m y ys (insert_marked union msg_cmp m set ys) p f
      (all_inserted m ys p f.1)

  -- a property of the present messages and of the new ones
  pub all_inserted_all : (ms : List Msg) (q : List (Msg × CloneSet)) → AllByRecursion P ms
      → AllByRecursion (λ x. P x.0) q → AllByRecursion (λ x. P x.0) (insert_marked_all union msg_cmp ms set q)
  all_inserted_all [] q p f = f
  all_inserted_all (m ∷ ms) q p f = all_inserted_all ms (insert_marked union msg_cmp m set q) p.1
      (all_inserted m q p.0 f)

-- ---- lower bounds

-- nothing is before the time of the first message
pub bound_of_first : (t : ℕ) (q : List (Msg × CloneSet)) → Some t ≡ first_time q → SortedMarked msg_cmp q
    → IsLowerBoundOf t q
bound_of_first t [] e s = tt
bound_of_first t (x ∷ xs) e s = let h : t ≡ x.0.key.time = cc in (
  omega (arith, h),
  all_weaker (λ y. msg_cmp x.0 y.0 ≡ Less) (λ y. t ≤ y.0.key.time) xs
      (λ y l. let m = msg-timed x.0 y.0 l in omega (arith, h, m)) s.0,
)

-- without messages nothing is before any time
pub bound_of_none : (t : ℕ) (q : List (Msg × CloneSet)) → None ≡ first_time q → IsLowerBoundOf t q
bound_of_none t [] e = tt
bound_of_none t (x ∷ xs) e = absurd (cc)

-- nothing is before an earlier time
pub bound_before : (t u : ℕ) (q : List (Msg × CloneSet)) → t ≤ u → IsLowerBoundOf u q → IsLowerBoundOf t q
bound_before t u q l f = all_weaker (λ y. u ≤ y.0.key.time) (λ y. t ≤ y.0.key.time) q (λ y h. omega (arith, l, h)) f

-- so with messages that all clones take
common_bound : (t u : ℕ) (xs : List Msg) → Some u ≡ time_of_first xs → t ≤ u → Sorted msg_cmp xs
    → AllByRecursion (λ x. t ≤ x.key.time) xs
common_bound t u [] e l s = tt
common_bound t u (x ∷ xs) e l s = let h : u ≡ x.key.time = cc in (
  omega (arith, h, l),
  all_weaker (λ y. msg_cmp x y ≡ Less) (λ y. t ≤ y.key.time) xs
      (λ y k. let m = msg-timed x y k in omega (arith, h, l, m)) s.0,
)

-- a time that is not after the first of both is a bound of all
pub merged_bound : (set : CloneSet) (t u v : ℕ) (xs : List Msg) (q : List (Msg × CloneSet)) → Some u ≡ time_of_first xs
    → Sorted msg_cmp xs → IsLowerBoundOf v q → t ≤ u → t ≤ v → IsLowerBoundOf t (merged set xs q)
merged_bound set t u v xs q e s f l k = all_inserted_all (λ m. t ≤ m.key.time) set xs q (common_bound t u xs e l s)
    (bound_before t v q k f)

-- without messages that all take it is a bound of the others
pub merged_bound_none : (set : CloneSet) (t : ℕ) (xs : List Msg) (q : List (Msg × CloneSet)) → None ≡ time_of_first xs
    → IsLowerBoundOf t q → IsLowerBoundOf t (merged set xs q)
merged_bound_none set t [] q e f = f
merged_bound_none set t (x ∷ xs) q e f = absurd (cc)

-- ---- the first message

-- an earlier message comes before
pub earlier_first : (x y : Msg) → x.key.time < y.key.time → msg_cmp x y ≡ Less
earlier_first x y below = ap (λ r. ordering_then (ordering_then r (ordering_then (nat_cmp x.key.sender y.key.sender)
    (nat_cmp x.key.number y.key.number))) (ordering_then (nat_cmp x.to y.to) (payload_cmp x.payload y.payload)))
    (sym (nat_cmp_is x.key.time y.key.time Less below))

-- one before all others is the first
first_before : (x : Msg) (q : List (Msg × CloneSet)) → AllByRecursion (λ y. x.key.time < y.0.key.time) q
    → firsts_cmp (Some x) (slice_get q 0) ≡ Less
first_before x [] f = refl
first_before x (y ∷ q) f = earlier_first x y.0 f.0

-- a list with a first message is that message and the rest
pub first_and_rest : (m : Msg) (xs : List Msg) → slice_get xs 0 ≡ Some m → xs ≡ m ∷ drop 1 xs
first_and_rest m [] e = absurd (cc)
first_and_rest m (x ∷ xs) e = let same : x ≡ m = cc in λ i. same i ∷ xs

-- a first message that all clones take, before all others, is the first of all
pub first_for_all : (m : Msg) (p : CopyPendingView) → IsFirstForAll m p
    → messages_of p ≡ (m, p.set) ∷ messages_of (without_first p)
first_for_all m p f =
    let e = first_and_rest m p.common f.first in
    take_less p.set p.common (drop 1 p.common) p.partial m f.sorted e
    (ap (λ l. firsts_cmp (slice_get l 0) (slice_get p.partial 0)) e ∙ first_before m p.partial f.before)

-- the rest is what stays if the first is taken
pub first_taken : (r : Option Msg) (old new : List Msg)
    → IfSome r (λ x. old ≡ x ∷ new) → IfNone r ((old ≡ []) × (new ≡ [])) → new ≡ drop 1 old
first_taken None old new f g = g.1 ∙ sym (ap (λ l. drop 1 l) g.0)
first_taken (Some x) old new f g = sym (ap (λ l. drop 1 l) f)
