-- The clones of a set, one after another.
use Rattle.std.proofs.Common.{◌≡◌, ◌≢◌, inl, inr, ℕ, zero, suc, ◌+◌, ◌/◌, ◌^◌, ◌<◌, ◌≤◌, ◌==◌, ◌&&◌, not, Bool, true}
use Rattle.std.proofs.Common.{false, List, [], ◌∷◌, length, refl, sym, ap, ap₂, ◌∙◌, subst, arith, eq-eqb, pow-suc}
use Rattle.std.specs.Prelude.{count_ones, if◌then◌else◌}
use Rattle.std.specs.Int.{bit_at}
use Rattle.std.specs.Int.Count.{ones_step}
use Rattle.std.proofs.lemmas.Bool.{cases_eq, ne_eqb}
use Rattle.std.proofs.lemmas.Nat.{shr-shr, ones_le_self}
use Rattle.std.proofs.lemmas.Nat.Bits.{bit_at-lt}
use Rattle.std.specs.List.{range_with_len, All, Contains, filter}
use Rattle.std.specs.List.Sorted.{IsStrictlyIncreasing}
use Rattle.std.proofs.lemmas.List.Elements.{All-filter, All-contains, filter_passes, All-from_get_or}
use Rattle.std.proofs.lemmas.List.Kept.{IsStrictlyIncreasing-filter}
use Rattle.std.proofs.lemmas.List.FromFn.{length-range_with_len, get_or-range_with_len}
use Rattle.sim_base.specs.declared.lists.TheConstants.{MAX_CLONES}
use Rattle.sim_base.proofs.Elements.{contains_tail}
use Rattle.clone_sets.specs.Sets.{has, empty, without, size, IsFirst, members}
use Rattle.clone_sets.proofs.SetLaws.{has-empty, has-without}

-- a list with c at its head if b is true
abbrev pub cons_if : Bool → ℕ → List ℕ → List ℕ
cons_if b c xs = if b then c ∷ xs else xs

-- those of the set among the k numbers from c on
abbrev pub members_among : ℕ → ℕ → ℕ → List ℕ
members_among k c s = filter (has s) (range_with_len c k)

-- ---- has

-- without one clone, the others stay
has_without_other : (s f d : ℕ) → f ≢ d → has (without s f) d ≡ has s d
has_without_other s f d ne = has-without s f d ∙ ap (λ b. not b && has s d) (ne_eqb f d ne)

-- and that one is gone
has_without_same : (s f d : ℕ) → f ≡ d → has (without s f) d ≡ false
has_without_same s f d e = has-without s f d ∙ ap (λ b. not b && has s d) (eq-eqb f d e)

-- ---- members_among

-- the empty set has none among them
members_among-empty : (k c : ℕ) → members_among k c empty ≡ []
members_among-empty zero c = refl
members_among-empty (suc k) c = ap₂ (λ b xs. cons_if b c xs) (has-empty c) (members_among-empty k (c + 1))

-- sets with the same clones from c on have the same members from c on
members_among_same : (k c s t : ℕ) → ((d : ℕ) → c ≤ d → has s d ≡ has t d) → members_among k c s ≡ members_among k c t
members_among_same zero c s t h = refl
members_among_same (suc k) c s t h =
    ap₂ (λ b xs. cons_if b c xs) (h c (omega arith)) (members_among_same k (c + 1) s t (λ d l. h d (omega arith)))

-- the least clone comes first, and the others follow
members_among_first : (k c s f : ℕ) → IsFirst s f → c ≤ f → f < c + k
    → members_among k c s ≡ f ∷ members_among k c (without s f)
members_among_first zero c s f h l m = absurd (omega arith)
members_among_first (suc k) c s f h l m =
    elim (cases_eq f c) [
      | inl e ↦
          ap₂ (λ b xs. cons_if b c xs) (ap (has s) (sym e) ∙ h.in_set)
          (members_among_same k (c + 1) s (without s f) (λ d n. sym (has_without_other s f d (omega arith))))
          ∙ ap₂ (λ x b. x ∷ cons_if b c (members_among k (c + 1) (without s f))) (sym e)
          (sym (has_without_same s f c e))
      | inr ne ↦
          ap₂ (λ b xs. cons_if b c xs) (h.least c (omega arith))
          (members_among_first k (c + 1) s f h (omega arith) (omega arith))
          ∙ ap (λ b. f ∷ cons_if b c (members_among k (c + 1) (without s f)))
          (sym (has_without_other s f c ne ∙ h.least c (omega arith)))
    ]

-- ---- members

-- the empty set has no members
pub members-empty : members empty ≡ []
unfolding members
members-empty = members_among-empty MAX_CLONES 0

-- the first member is the least clone, and the others are those of the set without it
pub members_first : (s f : ℕ) → IsFirst s f → f < MAX_CLONES → members s ≡ f ∷ members (without s f)
unfolding members
members_first s f h l = members_among_first MAX_CLONES 0 s f h (omega arith) (omega arith)

-- ---- length

-- a digit that is 1 counts an element
length-cons_if : (d c : ℕ) (xs : List ℕ) → d < 2 → length (cons_if (d == 1) c xs) ≡ d + length xs
length-cons_if zero c xs l = omega arith
length-cons_if (suc zero) c xs l = omega arith
length-cons_if (suc (suc d)) c xs l = absurd (omega arith)

-- there are as many as the number has bits set from c on
pub length-members_among : (k c s : ℕ) → s / 2 ^ c < 2 ^ k → length (members_among k c s) ≡ count_ones (s / 2 ^ c)
unfolding has
length-members_among zero c s l = omega (arith, ones_le_self (s / 2 ^ c))
length-members_among (suc k) c s l =
    let half : s / 2 ^ c / 2 ≡ s / 2 ^ (c + 1) = shr-shr s c 1 in
    length-cons_if (bit_at s c) c (members_among k (c + 1) s) (bit_at-lt s c)
    ∙ ap (λ n. bit_at s c + n) (length-members_among k (c + 1) s (omega (arith, half, pow-suc 2 k))
    ∙ ap count_ones (sym half))
    ∙ sym (ones_step (s / 2 ^ c))

-- there are as many members as the set's size
pub length-members : (s : ℕ) → s < 2 ^ MAX_CLONES → length (members s) ≡ size s
unfolding members size
length-members s l =
    let e : s / 2 ^ 0 ≡ s = omega arith in
    length-members_among MAX_CLONES 0 s (omega arith) ∙ ap count_ones e

-- ---- All, IsStrictlyIncreasing and Contains of members

-- the numbers that are looked at are below the limit
numbers_below : All (λ c. c < MAX_CLONES) (range_with_len 0 MAX_CLONES)
numbers_below =
    All-from_get_or (λ c. c < MAX_CLONES) (range_with_len 0 MAX_CLONES) 0
    (λ i l. let low : i < MAX_CLONES = omega (arith, length-range_with_len 0 MAX_CLONES) in
    omega (arith, get_or-range_with_len 0 MAX_CLONES i 0 low))

-- and they rise
numbers_rise : IsStrictlyIncreasing (range_with_len 0 MAX_CLONES)
numbers_rise = λ k l.
    let low : k + 1 < MAX_CLONES = omega (arith, length-range_with_len 0 MAX_CLONES) in
    let here = get_or-range_with_len 0 MAX_CLONES k 0 (omega arith) in
    let next = get_or-range_with_len 0 MAX_CLONES (k + 1) 0 low in
    omega (arith, here, next)

-- the members are below the limit
pub members_below : (s : ℕ) → All (λ c. c < MAX_CLONES) (members s)
unfolding members
members_below s = All-filter (has s) (λ c. c < MAX_CLONES) (range_with_len 0 MAX_CLONES) numbers_below

-- the members rise
pub members_rise : (s : ℕ) → IsStrictlyIncreasing (members s)
unfolding members
members_rise s = IsStrictlyIncreasing-filter (has s) (range_with_len 0 MAX_CLONES) numbers_rise

-- each member is in the set
pub members_in : (s c : ℕ) → Contains (members s) c → has s c ≡ true
unfolding members
members_in s c = All-contains (λ d. has s d ≡ true) (members s) c (filter_passes (has s) (range_with_len 0 MAX_CLONES))

-- a list keeps its elements with x at its head, whether b is true or not
Contains-cons_if : (b : Bool) (x c : ℕ) (xs : List ℕ) → Contains xs c → Contains (cons_if b x xs) c
Contains-cons_if true x c xs h = contains_tail x c xs h
Contains-cons_if false x c xs h = h

-- each clone of the set is among its numbers
in_members_among : (k c s d : ℕ) → c ≤ d → d < c + k → has s d ≡ true → Contains (members_among k c s) d
in_members_among zero c s d l m h = absurd (omega arith)
in_members_among (suc k) c s d l m h =
    elim (cases_eq c d) [
      | inl e ↦
          let here : has s c ≡ true = ap (has s) e ∙ h in
          subst (λ b. Contains (cons_if b c (members_among k (c + 1) s)) d) (sym here) (0, omega arith, e)
      | inr ne ↦ Contains-cons_if (has s c) c d (members_among k (c + 1) s)
          (in_members_among k (c + 1) s d (omega arith) (omega arith) h)
    ]

-- each clone of the set is a member
pub in_members : (s c : ℕ) → c < MAX_CLONES → has s c ≡ true → Contains (members s) c
unfolding members
in_members s c l h = in_members_among MAX_CLONES 0 s c (omega arith) (omega arith) h
