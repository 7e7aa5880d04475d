-- Putting marked messages in their places keeps their clones and the order.
use Rattle.std.proofs.Common.{◌≡◌, ℕ, Bool, true, false, ◌||◌, ◌&&◌, List, []}
use Rattle.std.proofs.Common.{◌∷◌, Ordering, Less, Equal, Greater, refl, sym, ap, ◌∙◌}
use Rattle.std.specs.List.Sorted.{IsStrictlySortedBy}
use Rattle.std.specs.Map.{keys_of}
use Rattle.std.specs.Ordering.{is_eq}
use Rattle.std.proofs.Math.Bool.{or-false}
use Rattle.std.proofs.lemmas.Cmp.{alike_right}
use Rattle.sim_base.specs.Marked.{SortedMarked}
use Rattle.sim_base.specs.Pending.{place_marked, insert_marked}
use Rattle.sim_base.specs.Order.{msg_cmp}
use Rattle.sim_base.specs.declared.message.Msg.{Msg}
use Rattle.sim_base.proofs.ListLaws.{all_map}
use Rattle.sim_base.proofs.OrderLaws.{msg_total}
use Rattle.sim_base.proofs.Placing.{sorted_insert_marked}
use Rattle.clone_sets.specs.Sets.{has, union}
use Rattle.clone_sets.proofs.SetLaws.{has-union}
use Rattle.msg_route.specs.Grouping.{group_onto, group_of, is_for, IsGrouped}

-- ---- ◌||◌

-- a joined pair, or the rest
or_joined : (e p q r : Bool) → ((e && (p || q)) || r) ≡ ((e && q) || ((e && p) || r))
or_joined false p q r = refl
or_joined true false q r = refl
or_joined true true false r = refl
or_joined true true true r = refl

-- the first two of three may change places
or_swap : (a b r : Bool) → (a || (b || r)) ≡ (b || (a || r))
or_swap false b r = refl
or_swap true false r = refl
or_swap true true r = refl

-- one of several is moved to the others
or_onto : (a b r : Bool) → (a || (b || r)) ≡ ((b || a) || r)
or_onto false false r = refl
or_onto false true r = refl
or_onto true false r = refl
or_onto true true r = refl

-- ---- is_for

module _ (m : Msg) (c : ℕ) where
  -- whether the pair has the message for the clone
  abbrev is_pair : Msg → ℕ → Bool
  is_pair x k = is_eq (msg_cmp m x) && has k c

  -- a pair that is put in its place is for its clones, and the others stay
  is_for-place : (r : Ordering) (x : Msg) (k : ℕ) (y : Msg × ℕ) (ys rest : List (Msg × ℕ))
      → msg_cmp x y.0 ≡ r → is_for m c rest ≡ (is_pair x k || is_for m c ys)
      → is_for m c (place_marked union r x k y ys rest) ≡ (is_pair x k || is_for m c (y ∷ ys))
  is_for-place Less x k y ys rest e h = refl
  is_for-place Equal x k y ys rest e h =
      ap (λ b. (is_eq (msg_cmp m y.0) && b) || is_for m c ys) (has-union y.1 k c)
      ∙ or_joined (is_eq (msg_cmp m y.0)) (has y.1 c) (has k c) (is_for m c ys)
      ∙ ap (λ r. (is_eq r && has k c) || is_for m c (y ∷ ys)) (sym (alike_right msg_total x y.0 m e))
  is_for-place Greater x k y ys rest e h = ap (λ b. is_pair y.0 y.1 || b) h
      ∙ or_swap (is_pair y.0 y.1) (is_pair x k) (is_for m c ys)

  -- the same of an insert
  is_for-insert : (x : Msg) (k : ℕ) (q : List (Msg × ℕ))
      → is_for m c (insert_marked union msg_cmp x k q) ≡ (is_pair x k || is_for m c q)
  is_for-insert x k [] = refl
  is_for-insert x k (y ∷ ys) = is_for-place (msg_cmp x y.0) x k y ys (insert_marked union msg_cmp x k ys) refl
      (is_for-insert x k ys)

  -- the same of all pairs
  is_for-group_onto : (xs q : List (Msg × ℕ)) → is_for m c (group_onto xs q) ≡ (is_for m c xs || is_for m c q)
  is_for-group_onto [] q = refl
  is_for-group_onto (x ∷ xs) q =
      is_for-group_onto xs (insert_marked union msg_cmp x.0 x.1 q)
      ∙ ap (λ b. is_for m c xs || b) (is_for-insert x.0 x.1 q)
      ∙ or_onto (is_for m c xs) (is_pair x.0 x.1) (is_for m c q)

-- ---- SortedMarked

-- the order of messages stays if all pairs are put in their places
sorted_onto : (xs q : List (Msg × ℕ)) → SortedMarked msg_cmp q → SortedMarked msg_cmp (group_onto xs q)
sorted_onto [] q s = s
sorted_onto (x ∷ xs) q s =
    sorted_onto xs (insert_marked union msg_cmp x.0 x.1 q) (sorted_insert_marked msg_total union x.0 x.1 q s)

-- marked messages in order are messages in order
sorted_keys : (q : List (Msg × ℕ)) → SortedMarked msg_cmp q → IsStrictlySortedBy msg_cmp (keys_of q)
unfolding IsStrictlySortedBy
sorted_keys [] s = tt
sorted_keys (y ∷ ys) s =
    (all_map (λ m. msg_cmp y.0 m ≡ Less) (λ (x : Msg × ℕ). x.0) ys s.0, sorted_keys ys s.1)

-- ---- IsGrouped

-- the group of all pairs is for the same clones, and in order
pub group_is_grouped : (sent : List (Msg × ℕ)) → IsGrouped sent (group_of sent)
group_is_grouped sent = record {
  same = λ m c. is_for-group_onto m c sent [] ∙ or-false (is_for m c sent);
  ordered = sorted_keys (group_of sent) (sorted_onto sent [] tt);
}
