-- The packed messages and the others as one list: insertions, and its first message.
use Rattle.std.proofs.Common.{◌≡◌, inl, inr, refl, sym, ap, ◌∙◌, subst, List, [], ◌∷◌, Less, Equal, Greater}
use Rattle.std.proofs.Common.{◌⊎◌, ℕ, ◌≤◌, ◌++◌, Option, Some, None, slice_get, drop, arith}
use Rattle.std.specs.Prelude.{option_map, IfSome, IfNone}
use Rattle.std.specs.Ordering.{ordering_reverse}
use Rattle.std.specs.List.{AllByRecursion}
use Rattle.sim_base.specs.Marked.{Above, SortedMarked}
use Rattle.sim_base.specs.Order.{msg_cmp}
use Rattle.sim_base.specs.Pending.{insert_marked}
use Rattle.sim_base.specs.declared.message.Msg.{Msg}
use Rattle.sim_base.proofs.ListLaws.{all_weaker}
use Rattle.sim_base.proofs.OrderEqual.{msg-timed}
use Rattle.run_laws.specs.Queue.{insert, insert_by, insert_all, Sorted, In}
use Rattle.run_laws.proofs.MessageOrder.{messages_ordered}
use Rattle.run_laws.proofs.Queue.{less_if_greater, in_insert, insert_old, insert_new, sorted_insert, same_elements}
use Rattle.run_laws.proofs.Queue.{insert_swap, in_insert_all, insert_all_old, insert_all_new, sorted_insert_all}
use Rattle.stations.specs.Quick.{as_list, sends_of}
use Rattle.stations.specs.declared.quick_sends.QuickSends.{QuickSends}
use Rattle.solo_run.specs.EventLists.{IsFirstPacked, all_messages, messages_of, firsts_cmp}
use Rattle.solo_run.specs.declared.event_list.EventList.{EventList}
use Rattle.solo_run.proofs.Pairs.{messages_of-insert}

-- messages that are not packed
abbrev pub MarkedMessages : Type 0
MarkedMessages = List (Msg × Unit {0})

-- both lists as one
abbrev pub merged : List Msg → MarkedMessages → List Msg
merged heap wide = insert_all msg_cmp (messages_of wide) heap

-- ---- msg_cmp

-- the greater of two messages comes after the lesser
greater : (x y : Msg) → msg_cmp x y ≡ Less → msg_cmp y x ≡ Greater
greater x y e = messages_ordered.total.antisymm y x ∙ ap ordering_reverse e

-- ---- merged

-- one list of both is in order
pub merged-sorted : (heap : List Msg) (wide : MarkedMessages) → Sorted msg_cmp heap → Sorted msg_cmp (merged heap wide)
merged-sorted heap wide sorted = sorted_insert_all messages_ordered (messages_of wide) heap sorted

-- a message inserted among those that are inserted is inserted last
insert_all-insert : (m : Msg) (ms q : List Msg) → Sorted msg_cmp q
    → insert_all msg_cmp (insert msg_cmp m ms) q ≡ insert msg_cmp m (insert_all msg_cmp ms q)
insert_all-insert m ms q sorted =
    let o = messages_ordered in
    same_elements o.total (insert_all msg_cmp (insert msg_cmp m ms) q) (insert msg_cmp m (insert_all msg_cmp ms q))
    (sorted_insert_all o (insert msg_cmp m ms) q sorted)
    (sorted_insert o m (insert_all msg_cmp ms q) (sorted_insert_all o ms q sorted))
    (λ z k. elim (in_insert_all o (insert msg_cmp m ms) q z k) [
      | inl h ↦ elim (in_insert o m ms z h) [
        | inl e ↦ subst (λ y. In y (insert msg_cmp m (insert_all msg_cmp ms q))) (sym e)
            (insert_new o m (insert_all msg_cmp ms q))
        | inr j ↦ insert_old o m (insert_all msg_cmp ms q) z (insert_all_new o ms q z j)
      ]
      | inr h ↦ insert_old o m (insert_all msg_cmp ms q) z (insert_all_old o ms q z h)
    ])
    (λ z k. elim (in_insert o m (insert_all msg_cmp ms q) z k) [
      | inl e ↦ insert_all_new o (insert msg_cmp m ms) q z
          (subst (λ y. In y (insert msg_cmp m ms)) (sym e) (insert_new o m ms))
      | inr h ↦ elim (in_insert_all o ms q z h) [
        | inl j ↦ insert_all_new o (insert msg_cmp m ms) q z (insert_old o m ms z j)
        | inr j ↦ insert_all_old o (insert msg_cmp m ms) q z j
      ]
    ])

-- a message inserted among those that are not packed is inserted into the one list
pub merged-wide : (join : Unit {0} → Unit {0} → Unit {0}) (m : Msg) (heap : List Msg) (wide : MarkedMessages)
    → Sorted msg_cmp heap → merged heap (insert_marked join msg_cmp m tt wide) ≡ insert msg_cmp m (merged heap wide)
merged-wide join m heap wide sorted =
    ap (λ ms. insert_all msg_cmp ms heap) (messages_of-insert join m wide)
    ∙ insert_all-insert m (messages_of wide) heap sorted

-- ---- the first message

-- messages after the first go into the rest
all_behind : (ms : List Msg) (m : Msg) (q : List Msg) → AllByRecursion (λ z. msg_cmp z m ≡ Greater) ms
    → insert_all msg_cmp ms (m ∷ q) ≡ m ∷ insert_all msg_cmp ms q
all_behind [] m q h = refl
all_behind (x ∷ ms) m q h = ap (λ r. insert_all msg_cmp ms (insert_by r x m q (insert msg_cmp x q))) h.0
    ∙ all_behind ms m (insert msg_cmp x q) h.1

-- what comes after a message comes after all before it
after_all : (m : Msg) (y : Msg × Unit {0}) (ys : MarkedMessages) → msg_cmp m y.0 ≡ Less → Above msg_cmp y.0 ys
    → AllByRecursion (λ z. msg_cmp z m ≡ Greater) (messages_of ys)
after_all m y [] less h = tt
after_all m y (x ∷ xs) less h =
    (greater m x.0 (messages_ordered.total.trans m y.0 x.0 less h.0), after_all m y xs less h.1)

-- messages above another come after it
after_it : (m : Msg) (ys : MarkedMessages) → Above msg_cmp m ys
    → AllByRecursion (λ z. msg_cmp z m ≡ Greater) (messages_of ys)
after_it m [] h = tt
after_it m (x ∷ xs) h = (greater m x.0 h.0, after_it m xs h.1)

-- the first packed message is the first of all
pub merged-Less : (m : Msg) (q : List Msg) (wide : MarkedMessages) → SortedMarked msg_cmp wide
    → firsts_cmp (Some m) (slice_get wide 0) ≡ Less → merged (m ∷ q) wide ≡ m ∷ merged q wide
merged-Less m q [] sorted e = refl
merged-Less m q (y ∷ ys) sorted e = all_behind (messages_of (y ∷ ys)) m q (greater m y.0 e, after_all m y ys e sorted.0)

-- it is the same as the first of the others
pub merged-Equal : (m : Msg) (q : List Msg) (y : Msg × Unit {0}) (ys : MarkedMessages) → SortedMarked msg_cmp (y ∷ ys)
    → msg_cmp m y.0 ≡ Equal → merged (m ∷ q) (y ∷ ys) ≡ m ∷ merged q ys
merged-Equal m q y ys sorted e =
    let same = messages_ordered.same m y.0 e in
    let back : msg_cmp y.0 m ≡ Equal = messages_ordered.total.antisymm y.0 m ∙ ap ordering_reverse e in
    ap (λ r. insert_all msg_cmp (messages_of ys) (insert_by r y.0 m q (insert msg_cmp y.0 q))) back
    ∙ all_behind (messages_of ys) m q (after_it m ys (subst (λ z. Above msg_cmp z ys) (sym same) sorted.0))

-- the first of the others is the first of all
pub merged-Greater : (heap : List Msg) (y : Msg × Unit {0}) (ys : MarkedMessages) → SortedMarked msg_cmp (y ∷ ys)
    → firsts_cmp (slice_get heap 0) (Some y) ≡ Greater → merged heap (y ∷ ys) ≡ y.0 ∷ merged heap ys
merged-Greater [] y ys sorted e = all_behind (messages_of ys) y.0 [] (after_it y.0 ys sorted.0)
merged-Greater (x ∷ xs) y ys sorted e =
    ap (λ r. insert_all msg_cmp (messages_of ys) (insert_by r y.0 x xs (insert msg_cmp y.0 xs)))
    (less_if_greater messages_ordered.total x y.0 e)
    ∙ all_behind (messages_of ys) y.0 (x ∷ xs) (after_it y.0 ys sorted.0)

-- with no first message there is none at all
pub merged-none : (heap : List Msg) (wide : MarkedMessages) → slice_get wide 0 ≡ None
    → firsts_cmp (slice_get heap 0) (slice_get wide 0) ≡ Greater → merged heap wide ≡ []
merged-none [] [] none e = refl
merged-none [] (y ∷ ys) none e = absurd (cc)
merged-none (x ∷ xs) [] none e = absurd (cc)
merged-none (x ∷ xs) (y ∷ ys) none e = absurd (cc)

-- the first of all, if it is the first packed one
pub first-packed : (heap : List Msg) (wide : MarkedMessages) (m : Msg) → SortedMarked msg_cmp wide
    → slice_get heap 0 ≡ Some m
    → (firsts_cmp (slice_get heap 0) (slice_get wide 0) ≡ Less) ⊎ (firsts_cmp (slice_get heap 0) (slice_get wide 0) ≡ Equal)
    → slice_get (merged heap wide) 0 ≡ Some m
first-packed [] wide m sorted is e = absurd (cc)
first-packed (x ∷ xs) wide m sorted is (inl e) = ap (λ (l : List Msg). slice_get l 0) (merged-Less x xs wide sorted e) ∙ is
first-packed (x ∷ xs) [] m sorted is (inr e) = absurd (cc)
first-packed (x ∷ xs) (y ∷ ys) m sorted is (inr e) =
    ap (λ (l : List Msg). slice_get l 0) (merged-Equal x xs y ys sorted e) ∙ is

-- the first of all, if it is the first of the others
pub first-wide : (heap : List Msg) (wide : MarkedMessages) (y : Msg × Unit {0}) → SortedMarked msg_cmp wide
    → slice_get wide 0 ≡ Some y → firsts_cmp (slice_get heap 0) (slice_get wide 0) ≡ Greater
    → slice_get (merged heap wide) 0 ≡ Some y.0
first-wide heap [] y sorted is e = absurd (cc)
first-wide heap (x ∷ xs) y sorted is e = ap (λ (l : List Msg). slice_get l 0) (merged-Greater heap x xs sorted e)
    ∙ ap (option_map (λ (p : Msg × Unit {0}). p.0)) is

-- ---- the first message is removed

-- from the packed ones
pub take-packed : (heap rest : List Msg) (wide : MarkedMessages) (m : Msg) → SortedMarked msg_cmp wide
    → heap ≡ m ∷ rest → firsts_cmp (slice_get heap 0) (slice_get wide 0) ≡ Less
    → merged heap wide ≡ m ∷ merged rest wide
take-packed heap rest wide m sorted is e = ap (λ h. merged h wide) is
    ∙ merged-Less m rest wide sorted (subst (λ h. firsts_cmp (slice_get h 0) (slice_get wide 0) ≡ Less) is e)

-- from the others
pub take-wide : (heap : List Msg) (wide rest : MarkedMessages) (y : Msg × Unit {0}) → SortedMarked msg_cmp wide
    → wide ≡ y ∷ rest → firsts_cmp (slice_get heap 0) (slice_get wide 0) ≡ Greater
    → merged heap wide ≡ y.0 ∷ merged heap rest
take-wide heap wide rest y sorted is e = ap (merged heap) is
    ∙ merged-Greater heap y rest (subst (SortedMarked msg_cmp) is sorted)
    (subst (λ w. firsts_cmp (slice_get heap 0) (slice_get w 0) ≡ Greater) is e)

-- from both
pub take-both : (heap heap_rest : List Msg) (wide wide_rest : MarkedMessages) (m : Msg) (y : Msg × Unit {0})
    → SortedMarked msg_cmp wide → heap ≡ m ∷ heap_rest → wide ≡ y ∷ wide_rest
    → firsts_cmp (slice_get heap 0) (slice_get wide 0) ≡ Equal → merged heap wide ≡ m ∷ merged heap_rest wide_rest
take-both heap heap_rest wide wide_rest m y sorted heap_is wide_is e = (λ i. merged (heap_is i) (wide_is i))
    ∙ merged-Equal m heap_rest y wide_rest (subst (SortedMarked msg_cmp) wide_is sorted)
    (subst (λ w. firsts_cmp (Some m) (slice_get w 0) ≡ Equal) wide_is
    (subst (λ h. firsts_cmp (slice_get h 0) (slice_get wide 0) ≡ Equal) heap_is e))

-- if both have the same first message, both have one
pub take-either : (heap heap_rest : List Msg) (wide wide_rest : MarkedMessages) (m : Msg)
    (taken : Option (Msg × Unit {0})) → SortedMarked msg_cmp wide → heap ≡ m ∷ heap_rest
    → IfSome taken (λ y. wide ≡ y ∷ wide_rest) → IfNone taken ((wide ≡ []) × (wide_rest ≡ []))
    → firsts_cmp (slice_get heap 0) (slice_get wide 0) ≡ Equal → merged heap wide ≡ m ∷ merged heap_rest wide_rest
take-either heap heap_rest wide wide_rest m (Some y) sorted is some none e =
    take-both heap heap_rest wide wide_rest m y sorted is some e
take-either heap heap_rest wide wide_rest m None sorted is some none e =
    let one : firsts_cmp (Some m) (slice_get wide 0) ≡ Equal =
    subst (λ h. firsts_cmp (slice_get h 0) (slice_get wide 0) ≡ Equal) is e in
    let two : Less ≡ Equal = subst (λ w. firsts_cmp (Some m) (slice_get w 0) ≡ Equal) none.0 one in
    absurd (cc)

-- ---- time

-- messages in order are no earlier than the first
pub none_before : (ms : List Msg) (first : Msg) (bound : ℕ) → Sorted msg_cmp ms → slice_get ms 0 ≡ Some first
    → bound ≤ first.key.time → AllByRecursion (λ m. bound ≤ m.key.time) ms
none_before [] first bound sorted is late = tt
none_before (m ∷ ms) first bound sorted is late =
    let same : m ≡ first = cc in
    let here : bound ≤ m.key.time = subst (λ (z : Msg). bound ≤ z.key.time) (sym same) late in (
      here,
      all_weaker (λ z. msg_cmp m z ≡ Less) (λ z. bound ≤ z.key.time) ms
          (λ z less. let later = msg-timed m z less in omega (arith, here, later)) sorted.0,
    )

-- and without a first there are none
pub none_before-empty : (ms : List Msg) (bound : ℕ) → slice_get ms 0 ≡ None
    → AllByRecursion (λ m. bound ≤ m.key.time) ms
none_before-empty [] bound none = tt
none_before-empty (m ∷ ms) bound none = absurd (cc)

-- ---- the first message is replaced

-- the rest of a list in order is in order
drop-sorted : (ms : List Msg) → Sorted msg_cmp ms → Sorted msg_cmp (drop 1 ms)
drop-sorted [] sorted = tt
drop-sorted (m ∷ ms) sorted = sorted.1

-- two sends go in in either order
pub replaced : (heap : List Msg) (wide : MarkedMessages) (new : List Msg) (own link : Msg) (sends : QuickSends)
    → wide ≡ [] → Sorted msg_cmp heap → sends.own ≡ Some own → sends.link ≡ Some link
    → new ≡ insert msg_cmp link (insert msg_cmp own (drop 1 heap))
    → merged new wide ≡ insert_all msg_cmp (sends_of sends) (drop 1 (merged heap wide))
replaced heap wide new own link sends none sorted own_is link_is is =
    ap (merged new) none ∙ is
    ∙ insert_swap messages_ordered own (link ∷ []) (drop 1 heap) (drop-sorted heap sorted)
    ∙ sym (λ i. insert_all msg_cmp (as_list (link_is i) ++ as_list (own_is i)) (drop 1 (merged heap (none i))))

-- ---- IsFirstPacked

-- a list with a first message
pub first-rest : (ms : List Msg) (m : Msg) → slice_get ms 0 ≡ Some m → ms ≡ m ∷ drop 1 ms
first-rest [] m is = absurd (cc)
first-rest (x ∷ xs) m is = let same : x ≡ m = cc in ap (λ z. z ∷ xs) same

-- the first packed message is the first of all
pub all_messages-first : (e : EventList) (m : Msg) → IsFirstPacked m e → all_messages e ≡ m ∷ drop 1 (all_messages e)
all_messages-first e m is = first-rest (all_messages e) m
    (ap (λ w. slice_get (merged e.heap w) 0) is.packed ∙ is.first)
