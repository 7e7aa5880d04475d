-- The least time of messages: of those with a property, and of lists in order.
use Rattle.std.proofs.Common.{◌≡◌, ◌⊎◌, ℕ, ◌<◌, ◌≤◌, min, List, [], ◌∷◌, Option, Some, None}
use Rattle.std.proofs.Common.{true, false, cond, nat_lt, inl, inr, refl, sym, ap, ◌∙◌, arith}
use Rattle.std.specs.declared.cmp.Ordering.{Ordering}
use Rattle.std.specs.declared.cmp.Ordering.TheVariants.{Less, Equal, Greater}
use Rattle.std.proofs.lemmas.Bool.{cases_lt, lt-ltb, le-ltb}
use Rattle.run_laws.specs.Queue.{insert_by, insert, In, Sorted}
use Rattle.run_laws.specs.Window.{earlier_than}
use Rattle.run_laws.specs.Fronts.{earlier, least_time}
use Rattle.run_laws.specs.Handlers.{IsTimed}
use Rattle.run_laws.specs.FrontLaws.{time_before, IsLeastTime}
use Rattle.sim_base.proofs.ListLaws.{all_weaker}
use Rattle.run_laws.proofs.Lists.{filter_none}

-- ---- IsLeastTime

module _ {M : Type 0} (time : M → ℕ) where
  -- the lesser of two least times is the least of both
  pub least-either : (P Q : M → Type 0) (t u : Option ℕ) → IsLeastTime time P t → IsLeastTime time Q u →
      IsLeastTime time (λ m. P m ⊎ Q m) (earlier t u)
  least-either P Q None None a b = λ m h. elim h [ inl p ↦ a m p | inr q ↦ b m q ]
  least-either P Q None (Some u) a b =
      ((b.0.0, inr b.0.1, b.0.2), λ m h. elim h [ inl p ↦ absurd (a m p) | inr q ↦ b.1 m q ])
  least-either P Q (Some t) None a b =
      ((a.0.0, inl a.0.1, a.0.2), λ m h. elim h [ inl p ↦ a.1 m p | inr q ↦ absurd (b m q) ])
  least-either P Q (Some t) (Some u) a b = (
    elim (cases_lt u t) [
      | inl l ↦ let e = b.0.2 in (b.0.0, inr b.0.1, omega (arith, e, l))
      | inr l ↦ let e = a.0.2 in (a.0.0, inl a.0.1, omega (arith, e, l))
    ],
    λ m h. elim h [
      | inl p ↦ let k : t ≤ time m = a.1 m p in omega (arith, k)
      | inr q ↦ let k : u ≤ time m = b.1 m q in
          omega (arith, k)
    ],
  )

  -- there is one least time, also if two properties hold of the same messages
  pub least-unique : (P Q : M → Type 0) (t u : Option ℕ) → ((m : M) → P m → Q m) → ((m : M) → Q m → P m) →
      IsLeastTime time P t → IsLeastTime time Q u → t ≡ u
  least-unique P Q None None f g a b = refl
  least-unique P Q None (Some u) f g a b = absurd (a b.0.0 (g b.0.0 b.0.1))
  least-unique P Q (Some t) None f g a b = absurd (b a.0.0 (f a.0.0 a.0.1))
  least-unique P Q (Some t) (Some u) f g a b =
      let x : t ≤ time b.0.0 = a.1 b.0.0 (g b.0.0 b.0.1) in
      let y : u ≤ time a.0.0 = b.1 a.0.0 (f a.0.0 a.0.1) in
      let d = a.0.2 in
      let e = b.0.2 in
      ap Some (let r : t ≡ u = omega (arith, x, y, d, e) in r)

  -- the least time of one message is its own
  one_least : (m : M) → IsLeastTime time (λ z. z ≡ m) (Some (time m))
  one_least m = ((m, refl, refl), λ z e. let d : time z ≡ time m = ap time e in omega (arith, d))

  -- the least time of a list is that of its elements
  pub least_time-is : (q : List M) → IsLeastTime time (λ m. In m q) (least_time time q)
  least_time-is [] = λ m i. i
  least_time-is (m ∷ q) = least-either (λ z. z ≡ m) (λ z. In z q) (Some (time m)) (least_time time q) (one_least m)
      (least_time-is q)

-- ---- earlier

-- a time that is there already changes nothing
earlier-twice : (t : ℕ) (u : Option ℕ) → earlier (Some t) (earlier (Some t) u) ≡ earlier (Some t) u
earlier-twice t None = ap Some (let e : min t t ≡ t = omega arith in e)
earlier-twice t (Some u) = ap Some (let e : min t (min t u) ≡ min t u = omega arith in e)

-- two times may change places
earlier-swap : (t u : ℕ) (v : Option ℕ) → earlier (Some t) (earlier (Some u) v) ≡ earlier (Some u) (earlier (Some t) v)
earlier-swap t u None = ap Some (let e : min t u ≡ min u t = omega arith in e)
earlier-swap t u (Some v) = ap Some (let e : min t (min u v) ≡ min u (min t v) = omega arith in e)

-- ---- least_time

module _ {M : Type 0} {cmp : M → M → Ordering} {time : M → ℕ} (o : IsTimed cmp time) where
  -- wherever the message goes, its time counts once
  least-insert_by : (r : Ordering) (x y : M) (ys rest : List M) → cmp x y ≡ r →
      least_time time rest ≡ earlier (Some (time x)) (least_time time ys) →
      least_time time (insert_by r x y ys rest) ≡ earlier (Some (time x)) (least_time time (y ∷ ys))
  least-insert_by Less x y ys rest e h = refl
  least-insert_by Equal x y ys rest e h =
      sym (ap (λ u. earlier (Some (time u)) (least_time time (y ∷ ys))) (o.order.same x y e)
      ∙ earlier-twice (time y) (least_time time ys))
  least-insert_by Greater x y ys rest e h =
      ap (earlier (Some (time y))) h ∙ earlier-swap (time y) (time x) (least_time time ys)

  -- with a message more the least time is the lesser of the two
  pub least-insert : (x : M) (q : List M)
      → least_time time (insert cmp x q) ≡ earlier (Some (time x)) (least_time time q)
  least-insert x [] = refl
  least-insert x (y ∷ ys) = least-insert_by (cmp x y) x y ys (insert cmp x ys) refl (least-insert x ys)

  -- of a list in order the first is the least
  least-first : (m : M) (q : List M) → Sorted cmp (m ∷ q) → least_time time (m ∷ q) ≡ Some (time m)
  least-first m [] s = refl
  least-first m (y ∷ ys) s =
      let l : time m ≤ time y = o.timed m y s.0.0 in
      ap (earlier (Some (time m))) (least-first y ys s.1)
      ∙ ap Some (let e : min (time m) (time y) ≡ time m = omega (arith, l) in e)

  -- the least time stays for the messages before a time, if it comes before that time
  pub least-earlier_than : (at : ℕ) (q : List M) → Sorted cmp q →
      least_time time (earlier_than time at q) ≡ time_before at (least_time time q)
  least-earlier_than at [] s = refl
  least-earlier_than at (m ∷ q) s =
      ap (λ b. least_time time (cond b (m ∷ earlier_than time at q) (earlier_than time at q))) refl
      ∙ elim (cases_lt (time m) at) [
        | inl l ↦
            let yes : nat_lt (time m) at ≡ true = lt-ltb (time m) at l in
            ap (λ b. least_time time (cond b (m ∷ earlier_than time at q) (earlier_than time at q))) yes
            ∙ first_of at m q l s
            ∙ sym (ap (time_before at) (least-first m q s) ∙ ap (λ b. cond b (Some (time m)) None) yes)
        | inr l ↦
            let no : nat_lt (time m) at ≡ false = le-ltb (time m) at l in
            ap (λ b. least_time time (cond b (m ∷ earlier_than time at q) (earlier_than time at q))) no
            ∙ ap (least_time time) (filter_none (λ m. nat_lt (time m) at) q
            (all_weaker (λ y. cmp m y ≡ Less) (λ y. nat_lt (time y) at ≡ false) q
            (λ y e. let h : time m ≤ time y = o.timed m y e in le-ltb (time y) at (omega (arith, h, l))) s.0))
            ∙ sym (ap (time_before at) (least-first m q s) ∙ ap (λ b. cond b (Some (time m)) None) no)
      ]
    where
      -- the first message has the least time
      first_of : (at : ℕ) (m : M) (q : List M) → time m < at → Sorted cmp (m ∷ q) →
          least_time time (m ∷ earlier_than time at q) ≡ Some (time m)
      first_of at m [] l s = refl
      first_of at m (y ∷ ys) l s = elim (cases_lt (time y) at) [
        | inl k ↦
            let h : time m ≤ time y = o.timed m y s.0.0 in
            ap (λ b. least_time time (m ∷ cond b (y ∷ earlier_than time at ys) (earlier_than time at ys)))
            (lt-ltb (time y) at k)
            ∙ ap (earlier (Some (time m))) (first_of at y ys k s.1)
            ∙ ap Some (let e : min (time m) (time y) ≡ time m = omega (arith, h) in e)
        | inr k ↦
            ap (λ b. least_time time (m ∷ cond b (y ∷ earlier_than time at ys) (earlier_than time at ys)))
            (le-ltb (time y) at k)
            ∙ first_of at m ys l (s.0.1, s.1.1)
      ]
