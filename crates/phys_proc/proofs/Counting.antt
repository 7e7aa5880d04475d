-- Bounds on the number of messages that copies handle: at most as many as the logs of their clones may still take, and
-- as the clones would handle alone.
use Rattle.std.proofs.Common.{◌≡◌, ◌≢◌, ℕ, ◌+◌, ◌*◌, ◌-◌, ◌<◌, ◌≤◌, ◌&&◌, ◌||◌, not, Bool, true, false}
use Rattle.std.proofs.Common.{List, [], ◌∷◌, ◌++◌, inl, inr, refl, sym, ap, ◌∙◌, subst, arith, length}
use Rattle.std.specs.List.{AllByRecursion}
use Rattle.std.proofs.Math.Nat.{add-mul, mul-add, mul-le-mul_left}
use Rattle.std.proofs.lemmas.Nat.{mul-le}
use Rattle.std.proofs.lemmas.Bool.{cases_Bool, false≢true, or_left, or_right, or_cases}
use Rattle.clone_sets.specs.Sets.{has, union, meet, minus, empty, size}
use Rattle.clone_sets.specs.declared.set.CloneSet.{CloneSet}
use Rattle.clone_sets.proofs.SetLaws.{has-union, has-meet, has-minus, has-empty, same_members, empty_from_none}
use Rattle.clone_sets.proofs.SizeLaws.{size_parts, size-empty}
use Rattle.run_laws.specs.Queue.{In}
use Rattle.run_laws.specs.Copies.{Carries, Disjoint}
use Rattle.run_laws.proofs.Queue.{all_in}
use Rattle.phys_proc.specs.Own.{StationCopy, all_clones, handled_alone_by, all_sizes}

-- ---- empty

-- a set with a clone is not empty
pub not_empty : (k : CloneSet) (c : ℕ) → has k c ≡ true → k ≢ empty
not_empty k c i e = false≢true (sym (has-empty c) ∙ (ap (λ u. has u c) (sym e) ∙ i))

-- a set within an empty one is empty
pub empty_within : (a b : CloneSet) → ((c : ℕ) → has a c ≡ true → has b c ≡ true) → b ≡ empty → a ≡ empty
empty_within a b within e = empty_from_none a
    (λ c. elim (cases_Bool (has a c)) [
      | inl y ↦ absurd (not_empty b c (within c y) e)
      | inr n ↦ n
    ])

-- ---- size and all_clones

-- sets that share no clone have together as many clones as both added up
pub size_disjoint : (a b : CloneSet) → ((c : ℕ) → has a c ≡ true → has b c ≡ true → ⊥)
    → size (union a b) ≡ size a + size b
size_disjoint a b apart =
    let m : meet (union a b) a ≡ a =
    same_members (meet (union a b) a) a
    (λ c. has-meet (union a b) a c ∙ (ap (λ x. x && has a c) (has-union a b c) ∙ absorbed (has a c) (has b c))) in
    let n : minus (union a b) a ≡ b =
    same_members (minus (union a b) a) b (λ c. has-minus (union a b) a c
    ∙ (ap (λ x. x && not (has a c)) (has-union a b c) ∙ left_over (has a c) (has b c) (apart c))) in
    let h = size_parts (union a b) a in
    omega (arith, h, ap size m, ap size n)
  where
    absorbed : (x y : Bool) → ((x || y) && x) ≡ x
    absorbed true y = refl
    absorbed false true = refl
    absorbed false false = refl

    left_over : (x y : Bool) → (x ≡ true → y ≡ true → ⊥) → ((x || y) && not x) ≡ y
    left_over true true f = absurd (f refl refl)
    left_over true false f = refl
    left_over false true f = refl
    left_over false false f = refl

-- the clones of all copies are those of some copy
pub in_some : (xs : List StationCopy) (c : ℕ) → has (all_clones xs) c ≡ true → (a : StationCopy) × In a xs
    × Carries has a c
in_some [] c h = absurd (false≢true (sym (has-empty c) ∙ h))
in_some (x ∷ xs) c h = elim (or_cases (has x.set c) (has (all_clones xs) c) (sym (has-union x.set (all_clones xs) c)
    ∙ h)) [
      | inl y ↦ (x, inl refl, y)
      | inr y ↦ let k = in_some xs c y in (k.0, inr k.1, k.2)
    ]

-- and the clones of each copy are among those of all
pub some_in : (xs : List StationCopy) (a : StationCopy) (c : ℕ) → In a xs → Carries has a c
    → has (all_clones xs) c ≡ true
some_in [] a c i h = absurd i
some_in (x ∷ xs) a c (inl e) h = has-union x.set (all_clones xs) c ∙ or_left (has x.set c) (has (all_clones xs) c)
    (subst (λ (u : StationCopy). has u.set c ≡ true) e h)
some_in (x ∷ xs) a c (inr i) h = has-union x.set (all_clones xs) c ∙ or_right (has x.set c) (has (all_clones xs) c)
    (some_in xs a c i h)

-- copies that share no clone have together as many as all their clones are
pub size_all : (xs : List StationCopy) → Disjoint has xs → all_sizes xs ≡ size (all_clones xs)
size_all [] d = sym size-empty
size_all (x ∷ xs) d =
    let h = size_all xs d.1 in
    let s = size_disjoint x.set (all_clones xs) (λ c i j. let k = in_some xs c j in
    all_in (λ b. (c : ℕ) → Carries has x c → ¬ (Carries has b c)) xs k.0 d.0 k.1 c i k.2) in
    omega (arith, h, s)

-- the clones of two lists of copies are as many as those of both added up
pub all_sizes-append : (xs ys : List StationCopy) → all_sizes (xs ++ ys) ≡ all_sizes xs + all_sizes ys
all_sizes-append [] ys = omega arith
all_sizes-append (x ∷ xs) ys = let h = all_sizes-append xs ys in omega (arith, h)

-- ---- handled_alone_by

-- the number that two lists of copies would have handled alone is the sum of both
pub alone-append : (xs ys : List StationCopy) → handled_alone_by (xs ++ ys) ≡ handled_alone_by xs + handled_alone_by ys
alone-append [] ys = omega arith
alone-append (x ∷ xs) ys = let h = alone-append xs ys in omega (arith, h)

-- if no log is longer than the limit, the number handled alone is at most the limit for each clone
pub alone_short : (limit : ℕ) (xs : List StationCopy) → AllByRecursion (λ a. length a.log ≤ limit) xs
    → handled_alone_by xs ≤ all_sizes xs * limit
alone_short limit [] f = omega arith
alone_short limit (x ∷ xs) f =
    let h = alone_short limit xs f.1 in
    let m = mul-le-mul_left (size x.set) f.0 in
    let d = add-mul (size x.set) (all_sizes xs) limit in
    omega (arith, h, m, d)

-- ---- the messages that one copy handles: s clones, a log of l entries, t messages handled, then n entries

module _ (s l n t limit : ℕ) (some : 0 < s) (longer : n ≡ l + t) (short : n ≤ limit) where
  -- it handles at most the limit for each of its clones
  pub few_more : t ≤ s * (limit - l)
  few_more =
      let r : t ≤ limit - l = omega (arith, longer, short) in
      let m = mul-le 1 t s (limit - l) some r in
      omega (arith, m)

  -- and no more if its clones then part, together with the messages that both parts handle from then on
  pub few_apart : (s1 s2 g1 g2 : ℕ) → s1 + s2 ≡ s → g1 ≤ s1 * (limit - n) → g2 ≤ s2 * (limit - n)
      → (g1 + g2) + t ≤ s * (limit - l)
  few_apart s1 s2 g1 g2 e f g =
      let r : limit - l ≡ (limit - n) + t = omega (arith, longer, short) in
      let a = mul-add s (limit - n) t in
      let b = add-mul s1 s2 (limit - n) in
      let c = ap (λ x. x * (limit - n)) e in
      let d = mul-le 1 t s t some (omega arith) in
      let i = ap (λ x. s * x) r in
      omega (arith, a, b, c, d, i, f, g)

  -- together with the number that its clones had handled alone, at most the number that they then have
  pub shared_more : s * l + t ≤ s * n
  shared_more =
      let a = mul-add s l t in
      let d = mul-le 1 t s t some (omega arith) in
      let i = ap (λ x. s * x) longer in
      omega (arith, a, d, i)

  -- nor more if its clones then part, together with the messages that both parts handle from then on
  pub shared_apart : (s1 s2 g1 g2 h1 h2 : ℕ) → s1 + s2 ≡ s → s1 * n + g1 ≤ h1 → s2 * n + g2 ≤ h2
      → s * l + ((g1 + g2) + t) ≤ h1 + h2
  shared_apart s1 s2 g1 g2 h1 h2 e f g =
      let b = add-mul s1 s2 n in
      let c = ap (λ x. x * n) e in
      let d = shared_more in
      omega (arith, b, c, d, f, g)
