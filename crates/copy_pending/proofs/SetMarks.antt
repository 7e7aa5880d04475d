-- Sets of clones are marks that are joined freely and meet as their parts do.
use Rattle.std.proofs.Common.{◌≡◌, ◌≢◌, ℕ, ◌&&◌, ◌||◌, Bool, true, false, inl, inr, refl, sym, ap, ◌∙◌}
use Rattle.std.proofs.Common.{Option, Some, None, ◌==◌, arith}
use Rattle.std.proofs.lemmas.Bool.{cases_eq, ne_eqb}
use Rattle.std.proofs.lemmas.Bool.Decides.{nat_tests}
use Rattle.clone_sets.specs.Sets.{has, empty, one, union, meet, common}
use Rattle.clone_sets.proofs.SetLaws.{has-union, has-meet, has-one, has-empty, same_members}
use Rattle.clone_sets.proofs.SetLaws.{common_none, common_is, common_some}
use Rattle.copy_pending.specs.Joins.{JoinsFreely, MeetsEach, join_found}

-- ---- ||

or_or : (a b c : Bool) → ((a || b) || c) ≡ (a || (b || c))
or_or true b c = refl
or_or false b c = refl

or_swap : (a b : Bool) → (a || b) ≡ (b || a)
or_swap true true = refl
or_swap true false = refl
or_swap false true = refl
or_swap false false = refl

or_same : (a : Bool) → (a || a) ≡ a
or_same true = refl
or_same false = refl

and_or : (a b c : Bool) → ((a || b) && c) ≡ ((a && c) || (b && c))
and_or true true true = refl
and_or true true false = refl
and_or true false true = refl
and_or true false false = refl
and_or false b c = refl

-- ---- union

-- unions in any order
pub union_free : JoinsFreely union
union_free = record {
  assoc = λ a b c. same_members (union (union a b) c) (union a (union b c)) (λ d.
      has-union (union a b) c d ∙ ap (λ t. t || has c d) (has-union a b d) ∙ or_or (has a d) (has b d) (has c d)
      ∙ ap (λ t. has a d || t) (sym (has-union b c d)) ∙ sym (has-union a (union b c) d));
  comm = λ a b. same_members (union a b) (union b a) (λ d.
      has-union a b d ∙ or_swap (has a d) (has b d) ∙ sym (has-union b a d));
  idem = λ a. same_members (union a a) a (λ d. has-union a a d ∙ or_same (has a d));
}

-- ---- common

-- common clones are those of the intersection, if there are any
common_of : (a b k : ℕ) → k ≢ empty → k ≡ meet a b → common a b ≡ Some k
common_of a b k n e = found (common a b) refl
  where
    found : (r : Option ℕ) → common a b ≡ r → common a b ≡ Some k
    found None f = absurd (n (same_members k empty (λ c. ap (λ s. has s c) e ∙ has-meet a b c
        ∙ common_none a b f c ∙ sym (has-empty c))))
    found (Some v) f = f ∙ ap Some ((common_is a b v f).0 ∙ sym e)

-- there are none if no clone is in both
no_common : (a b : ℕ) → ((c : ℕ) → (has a c && has b c) ≡ false) → common a b ≡ None
no_common a b h = found (common a b) refl
  where
    found : (r : Option ℕ) → common a b ≡ r → common a b ≡ None
    found None f = f
    found (Some v) f = absurd ((common_is a b v f).1 (same_members v empty
        (λ c. common_some a b v f c ∙ h c ∙ sym (has-empty c))))

-- a union meets a set as its parts do
pub union_meets : MeetsEach union common
union_meets = record { each = λ a b by. found a b by (common a by) (common b by) refl refl }
  where
    in_both : (a b by c : ℕ) → (has (union a b) c && has by c) ≡ ((has a c && has by c) || (has b c && has by c))
    in_both a b by c = ap (λ t. t && has by c) (has-union a b c) ∙ and_or (has a c) (has b c) (has by c)

    some : (a b by k : ℕ) → k ≢ empty → ((c : ℕ) → has k c ≡ ((has a c && has by c) || (has b c && has by c)))
        → common (union a b) by ≡ Some k
    some a b by k n h = common_of (union a b) by k n (same_members k (meet (union a b) by) (λ c.
        h c ∙ sym (in_both a b by c) ∙ sym (has-meet (union a b) by c)))

    filled : (u v : ℕ) → u ≢ empty → union u v ≢ empty
    filled u v n e = n (same_members u empty (λ c. left (has u c) (has v c) (sym (has-union u v c)
        ∙ ap (λ s. has s c) e ∙ has-empty c) ∙ sym (has-empty c)))
      where
        left : (s t : Bool) → (s || t) ≡ false → s ≡ false
        left true t h = h
        left false t h = refl

    found : (a b by : ℕ) (r s : Option ℕ) → common a by ≡ r → common b by ≡ s
        → common (union a b) by ≡ join_found union (common a by) (common b by)
    found a b by None None e f = no_common (union a b) by (λ c. in_both a b by c
        ∙ (λ i. common_none a by e c i || common_none b by f c i)) ∙ sym (λ i. join_found union (e i) (f i))
    found a b by None (Some v) e f = some a b by v (common_is b by v f).1 (λ c.
        common_some b by v f c ∙ ap (λ t. t || (has b c && has by c)) (sym (common_none a by e c)))
        ∙ sym (λ i. join_found union (e i) (f i))
    found a b by (Some u) None e f = some a b by u (common_is a by u e).1 (λ c.
        common_some a by u e c ∙ sym (or_false (has a c && has by c))
        ∙ ap (λ t. (has a c && has by c) || t) (sym (common_none b by f c)))
        ∙ sym (λ i. join_found union (e i) (f i))
      where
        or_false : (s : Bool) → (s || false) ≡ s
        or_false true = refl
        or_false false = refl
    found a b by (Some u) (Some v) e f = some a b by (union u v) (filled u v (common_is a by u e).1) (λ c.
        has-union u v c ∙ (λ i. common_some a by u e c i || common_some b by v f c i))
        ∙ sym (λ i. join_found union (e i) (f i))

-- a set meets one of its clones
pub common_one : (set c : ℕ) → has set c ≡ true → common set (one c) ≡ Some (one c)
common_one set c h = common_of set (one c) (one c)
    (λ e. false_true (sym (ap (λ s. has s c) e ∙ has-empty c) ∙ has-one c c ∙ same c))
    (same_members (one c) (meet set (one c)) (λ d. has-one c d
    ∙ sym (has-meet set (one c) d ∙ ap (λ t. has set d && t) (has-one c d) ∙ at d)))
  where
    same : (x : ℕ) → (x == x) ≡ true
    same x = grind (arith, nat_tests)

    false_true : false ≡ true → ⊥
    false_true e = cc

    at : (d : ℕ) → (has set d && (c == d)) ≡ (c == d)
    at d = elim (cases_eq c d) [
      | inl e ↦ ap (λ t. t && (c == d)) (ap (has set) (sym e) ∙ h)
      | inr n ↦ ap (λ t. has set d && t) (ne_eqb c d n) ∙ and_false (has set d) ∙ sym (ne_eqb c d n)
    ]
      where
        and_false : (s : Bool) → (s && false) ≡ false
        and_false true = refl
        and_false false = refl

-- marks that are all clones of a part of a set are those that they share with it
pub common_part : (set part : ℕ) → part ≢ empty → ((c : ℕ) → has part c ≡ true → has set c ≡ true)
    → common set part ≡ Some part
common_part set part n h = common_of set part part n (same_members part (meet set part) (λ c.
    sym (has-meet set part c ∙ within (has set c) (has part c) (h c))))
  where
    within : (s t : Bool) → (t ≡ true → s ≡ true) → (s && t) ≡ t
    within s false f = and_false s
      where
        and_false : (s : Bool) → (s && false) ≡ false
        and_false true = refl
        and_false false = refl
    within s true f = ap (λ b. b && true) (f refl)
