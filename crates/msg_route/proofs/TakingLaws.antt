-- The messages that a clone takes.
use Rattle.std.proofs.Common.{◌≡◌, inl, inr, ℕ, ◌<◌, true, ◌&&◌, List, [], ◌∷◌}
use Rattle.std.proofs.Common.{sym, ap, ◌∙◌, subst, arith}
use Rattle.std.specs.Prelude.{◌↔◌, nat_lt}
use Rattle.std.specs.List.{Contains}
use Rattle.std.specs.Cmp.{Equal-is, tied_itself}
use Rattle.std.specs.Ordering.{is_eq}
use Rattle.std.proofs.lemmas.Bool.{false≢true, ltb-true, lt-ltb, or_cases, or_left, or_right, and_parts, and_from}
use Rattle.sim_base.specs.Counts.{In}
use Rattle.sim_base.specs.Order.{msg_cmp}
use Rattle.sim_base.specs.declared.message.Msg.{Msg}
use Rattle.sim_base.proofs.Elements.{in_cons_if, cons_if_old, cons_if_new, in_at, contains_tail}
use Rattle.sim_base.proofs.OrderEqual.{msg_same}
use Rattle.sim_base.proofs.OrderLaws.{msg_total}
use Rattle.clone_sets.specs.Sets.{has}
use Rattle.msg_route.specs.Grouping.{is_for, group_of}
use Rattle.msg_route.specs.Laws.{takes_at, taken_at}
use Rattle.msg_route.proofs.GroupLaws.{group_is_grouped}

-- ---- is_eq

-- a message is equal to itself
same_msg : (m x : Msg) → m ≡ x → is_eq (msg_cmp m x) ≡ true
same_msg m x e = subst (λ y. is_eq (msg_cmp m y) ≡ true) e (ap is_eq (tied_itself msg_total m))

module _ (ends : ℕ → ℕ) (m : Msg) (c : ℕ) where
  -- ---- taken_at

  -- a message that a clone takes is for it, and before its end
  taken_is_for : (sent : List (Msg × ℕ)) → In m (taken_at ends c sent)
      → (is_for m c sent ≡ true) × (m.key.time < ends c)
  taken_is_for [] h = absurd h
  taken_is_for (x ∷ xs) h =
      elim (in_cons_if (takes_at ends x.0 x.1 c) x.0 (taken_at ends c xs) m h) [
        | inl e ↦
            let both = and_parts (has x.1 c) (nat_lt x.0.key.time (ends c)) e.0 in (
              or_left _ (is_for m c xs) (and_from (is_eq (msg_cmp m x.0)) (has x.1 c) (same_msg m x.0 e.1) both.0),
              ltb-true m.key.time (ends c) (ap (λ (y : Msg). nat_lt y.key.time (ends c)) e.1 ∙ both.1),
            )
        | inr i ↦ let later = taken_is_for xs i in (or_right (is_eq (msg_cmp m x.0) && has x.1 c) _ later.0, later.1)
      ]

  -- and it takes all of that
  is_for_taken : (sent : List (Msg × ℕ)) → is_for m c sent ≡ true → m.key.time < ends c
      → In m (taken_at ends c sent)
  is_for_taken [] e l = absurd (false≢true e)
  is_for_taken (x ∷ xs) e l =
      elim (or_cases (is_eq (msg_cmp m x.0) && has x.1 c) (is_for m c xs) e) [
        | inl here ↦
            let both = and_parts (is_eq (msg_cmp m x.0)) (has x.1 c) here in
            let same = msg_same m x.0 ((Equal-is (msg_cmp m x.0)).0 both.0) in
            cons_if_new (takes_at ends x.0 x.1 c) x.0 (taken_at ends c xs) m
            (and_from (has x.1 c) (nat_lt x.0.key.time (ends c)) both.1
            (ap (λ (y : Msg). nat_lt y.key.time (ends c)) (sym same) ∙ lt-ltb m.key.time (ends c) l)) same
        | inr later ↦ cons_if_old (takes_at ends x.0 x.1 c) x.0 (taken_at ends c xs) m (is_for_taken xs later l)
      ]

  -- a clone takes the messages that are for it and come before its end
  pub taken_are_for : (sent : List (Msg × ℕ)) → In m (taken_at ends c sent)
      ↔ ((is_for m c sent ≡ true) × (m.key.time < ends c))
  taken_are_for sent = (taken_is_for sent, λ h. is_for_taken sent h.0 h.1)

  -- a clone takes the same of messages that are joined
  pub group_is_taken : (sent : List (Msg × ℕ)) → In m (taken_at ends c (group_of sent))
      ↔ In m (taken_at ends c sent)
  group_is_taken sent =
      let same = (group_is_grouped sent).same m c in (
        λ h. let there = taken_is_for (group_of sent) h in is_for_taken sent (sym same ∙ there.0) there.1,
        λ h. let there = taken_is_for sent h in is_for_taken (group_of sent) (same ∙ there.0) there.1,
      )

-- ---- Contains and In

module _ {X : Type 0} where
  -- a list has each element of it
  contains_in : (xs : List X) (x : X) → In x xs → Contains xs x
  contains_in [] x h = absurd h
  contains_in (y ∷ ys) x h = elim h [
    | inl e ↦ (0, omega arith, sym e)
    | inr i ↦ contains_tail y x ys (contains_in ys x i)
  ]

  -- a list has its elements
  pub contains_is_in : (xs : List X) (x : X) → Contains xs x ↔ In x xs
  contains_is_in xs x = (λ h. in_at xs h.0 x h.1 (sym h.2), contains_in xs x)
