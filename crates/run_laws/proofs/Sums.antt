-- Sums over the clones from the copies: the number of clones, and the total length of their logs.
use Rattle.std.proofs.Common.{◌≡◌, ◌⊎◌, ℕ, zero, suc, ◌+◌, ◌*◌, ◌<◌, List, [], ◌∷◌, ◌++◌}
use Rattle.std.proofs.Common.{inl, inr, Bool, refl, sym, ap, ◌∙◌, subst, arith, length, map}
use Rattle.std.specs.Prelude.{sum_by}
use Rattle.std.proofs.Math.Nat.{suc-mul}
use Rattle.std.proofs.lemmas.List.Sums.{sum_by-cons, sum_by-append}
use Rattle.sim_base.specs.Clones.{Clone, clone_at}
use Rattle.run_laws.specs.Queue.{In}
use Rattle.run_laws.specs.Simulation.{Simulation}
use Rattle.run_laws.specs.Runs.{log_at}
use Rattle.run_laws.specs.Sharing.{handled_alone}
use Rattle.run_laws.specs.Prefixes.{Apart, IsCount}
use Rattle.run_laws.specs.Copies.{Copy, Carries, Disjoint, Stands}
use Rattle.run_laws.specs.CountLaws.{TellsSizes}
use Rattle.run_laws.proofs.Queue.{all_in}
use Rattle.run_laws.proofs.Lists.{in_append, append_old, append_new}
use Rattle.run_laws.proofs.Prefixes.{apart_append, count_same}
use Rattle.run_laws.proofs.Counts.{in_map, map_has}

-- ---- sum_by

-- a sum over the images of a list's elements
sum_by-map : {X Y : Type 0} (g : Y → ℕ) (f : X → Y) (xs : List X) → sum_by g (map f xs) ≡ sum_by (λ x. g (f x)) xs
sum_by-map g f [] = refl
sum_by-map g f (x ∷ xs) =
    let h = sum_by-map g f xs in
    let a = sum_by-cons g (f x) (map f xs) in
    let b = sum_by-cons (λ x. g (f x)) x xs in
    omega (arith, h, a, b)

-- a sum of equal numbers
sum_by_equal : {X : Type 0} (g : X → ℕ) (n : ℕ) (xs : List X) → ((z : X) → In z xs → g z ≡ n) →
    sum_by g xs ≡ length xs * n
sum_by_equal g n [] f = omega arith
sum_by_equal g n (x ∷ xs) f =
    let h = sum_by_equal g n xs (λ z i. f z (inr i)) in
    let e = f x (inl refl) in
    let a = sum_by-cons g x xs in
    let m = suc-mul (length xs) n in
    omega (arith, h, e, a, m)

module _ {X : Type 0} (g : X → ℕ) where
  -- a list without one of its elements
  record Without (x : X) (ys : List X) : Type 0 where
    rest : List X
    sum : sum_by g ys ≡ g x + sum_by g rest
    apart : Apart rest
    either : (z : X) → In z ys → (z ≡ x) ⊎ In z rest
    back : (z : X) → In z rest → In z ys × (z ≡ x → ⊥)

  -- there is one
  Without-In : (x : X) (ys : List X) → Apart ys → In x ys → Without x ys
  Without-In x [] a i = absurd i
  Without-In x (y ∷ ys) a (inl e) = record {
    rest = ys;
    sum = sum_by-cons g y ys ∙ ap (λ t. g t + sum_by g ys) (sym e);
    apart = a.1;
    either = λ z j. elim j [ inl d ↦ inl (d ∙ sym e) | inr k ↦ inr k ];
    back = λ z k. (inr k, λ d. a.0 (subst (λ t. In t ys) (d ∙ e) k));
  }
  Without-In x (y ∷ ys) a (inr i) =
      let h = Without-In x ys a.1 i in
      let s = h.sum in
      let whole = sum_by-cons g y ys in
      let left = sum_by-cons g y h.rest in
      record {
        rest = y ∷ h.rest;
        sum = omega (arith, s, whole, left);
        apart = (λ k. a.0 (h.back y k).0, h.apart);
        either = λ z j. elim j [
          | inl d ↦ inr (inl d)
          | inr k ↦ elim (h.either z k) [ inl d ↦ inl d | inr l ↦ inr (inr l) ]
        ];
        back = λ z k. elim k [
          | inl d ↦ (inl d, λ f. a.0 (subst (λ t. In t ys) (sym f ∙ d) i))
          | inr l ↦ let m = h.back z l in (inr m.0, m.1)
        ];
      }

  -- lists without repeats with the same elements have one sum
  same_sum : (xs ys : List X) → Apart xs → Apart ys → ((z : X) → In z xs → In z ys) → ((z : X) → In z ys → In z xs) →
      sum_by g xs ≡ sum_by g ys
  same_sum [] [] a b f h = refl
  same_sum [] (y ∷ ys) a b f h = absurd (h y (inl refl))
  same_sum (x ∷ xs) ys a b f h =
      let w = Without-In x ys b (f x (inl refl)) in
      let r = same_sum xs w.rest a.1 w.apart
      (λ z i. elim (w.either z (f z (inr i))) [ inl d ↦ absurd (a.0 (subst (λ t. In t xs) d i)) | inr j ↦ j ])
      (λ z i. let k = w.back z i in elim (h z k.0) [ inl d ↦ absurd (k.1 d) | inr j ↦ j ]) in
      let s = w.sum in
      let c = sum_by-cons g x xs in
      omega (arith, r, s, c)

-- ---- places

-- the places of n elements
abbrev places : ℕ → List ℕ
places zero = []
places (suc n) = 0 ∷ map suc (places n)

-- they are below n
in_places : (n z : ℕ) → In z (places n) → z < n
in_places zero z i = absurd i
in_places (suc n) z (inl e) = omega (arith, e)
in_places (suc n) z (inr i) =
    let h = in_map suc (places n) z i in
    let l = in_places n h.0 h.1 in
    let e = h.2 in
    omega (arith, l, e)

-- all that are below n
places_have : (n z : ℕ) → z < n → In z (places n)
places_have zero z l = absurd (omega arith)
places_have (suc n) zero l = inl refl
places_have (suc n) (suc z) l = inr (map_has suc (places n) z (places_have n z (omega arith)))

-- numbers that differ have successors that differ
apart_map_suc : (xs : List ℕ) → Apart xs → Apart (map suc xs)
apart_map_suc [] a = tt
apart_map_suc (x ∷ xs) a = (
  λ i. let h = in_map suc xs (suc x) i in let e = h.2 in
      a.0 (subst (λ t. In t xs) (omega (arith, e)) h.1),
  apart_map_suc xs a.1,
)

-- so no place is among them twice
apart_places : (n : ℕ) → Apart (places n)
apart_places zero = tt
apart_places (suc n) = (
  λ i. let h = in_map suc (places n) 0 i in let e = h.2 in
      absurd (omega (arith, e)),
  apart_map_suc (places n) (apart_places n),
)

-- the sum over the clones, by their places
by_places : (f : Clone → ℕ) (cs : List Clone) → sum_by f cs ≡ sum_by (λ i. f (clone_at cs i)) (places (length cs))
by_places f [] = refl
by_places f (c ∷ cs) =
    let at : ℕ → ℕ = λ i. f (clone_at (c ∷ cs) i) in
    let h = by_places f cs in
    let s = sum_by-map at suc (places (length cs)) in
    let a = sum_by-cons f c cs in
    let b = sum_by-cons at 0 (map suc (places (length cs))) in
    omega (arith, h, s, a, b)

-- ---- sums over copies

module _ {S M N K : Type 0} (has : K → ℕ → Bool) (size : K → ℕ) where
  -- the clones of all copies
  all_members : (xs : List (Copy S M N K)) → TellsSizes has size xs → List ℕ
  all_members [] f = []
  all_members (x ∷ xs) f = (f x (inl refl)).members ++ all_members xs (λ a i. f a (inr i))

  -- each of them is carried by one of the copies
  member_of : (xs : List (Copy S M N K)) (f : TellsSizes has size xs) (z : ℕ) → In z (all_members xs f) →
      (a : Copy S M N K) × In a xs × Carries has a z
  unfolding all_members
  member_of [] f z i = absurd i
  member_of (x ∷ xs) f z i = elim (in_append (f x (inl refl)).members (all_members xs (λ a i. f a (inr i))) z i) [
    | inl j ↦ (x, inl refl, (f x (inl refl)).exact z j)
    | inr j ↦ let h = member_of xs (λ a i. f a (inr i)) z j in (h.0, inr h.1, h.2)
  ]

  -- and each clone that a copy carries is one of them
  has_member : (xs : List (Copy S M N K)) (f : TellsSizes has size xs) (a : Copy S M N K) (z : ℕ) → In a xs →
      Carries has a z → In z (all_members xs f)
  unfolding all_members
  has_member [] f a z i h = absurd i
  has_member (x ∷ xs) f a z (inl e) h = append_old (f x (inl refl)).members (all_members xs (λ a i. f a (inr i))) z
      ((f x (inl refl)).all z (subst (λ u. Carries has u z) e h))
  has_member (x ∷ xs) f a z (inr i) h = append_new (f x (inl refl)).members (all_members xs (λ a i. f a (inr i))) z
      (has_member xs (λ a i. f a (inr i)) a z i h)

  -- none of them occurs twice if the copies are disjoint
  apart_members : (xs : List (Copy S M N K)) (f : TellsSizes has size xs) → Disjoint has xs → Apart (all_members xs f)
  unfolding all_members
  apart_members [] f d = tt
  apart_members (x ∷ xs) f d = apart_append (f x (inl refl)).members (all_members xs (λ a i. f a (inr i)))
      (f x (inl refl)).apart (apart_members xs (λ a i. f a (inr i)) d.1)
      (λ z i j. let h = member_of xs (λ a i. f a (inr i)) z j in
      all_in (λ b. (c : ℕ) → Carries has x c → ¬ (Carries has b c)) xs h.0 d.0 h.1 z
      ((f x (inl refl)).exact z i) h.2)

  -- a sum over them, of a number that is the same for all clones of a copy
  sum_by-members : (g : ℕ → ℕ) (weight : Copy S M N K → ℕ) (xs : List (Copy S M N K)) (f : TellsSizes has size xs) →
      ((a : Copy S M N K) (c : ℕ) → In a xs → Carries has a c → g c ≡ weight a) →
      sum_by g (all_members xs f) ≡ sum_by (λ a. size a.set * weight a) xs
  unfolding all_members
  sum_by-members g weight [] f h = refl
  sum_by-members g weight (x ∷ xs) f h =
      let c = f x (inl refl) in
      let rest = sum_by-members g weight xs (λ a i. f a (inr i)) (λ a c i. h a c (inr i)) in
      let own : sum_by g c.members ≡ size x.set * weight x =
      sum_by_equal g (weight x) c.members (λ z i. h x z (inl refl) (c.exact z i))
      ∙ ap (λ n. n * weight x) c.number in
      let both = sum_by-append g c.members (all_members xs (λ a i. f a (inr i))) in
      let a = sum_by-cons (λ (a : Copy S M N K). size a.set * weight a) x xs in
      omega (arith, rest, own, both, a)

  module _ (sim : Simulation S M N) (cs : List Clone) (front s : ℕ) (copies : List (Copy S M N K))
      (sized : TellsSizes has size copies)
      (st : Stands sim has cs front s copies) where
    -- a number that is equal for all clones of a copy sums up to that number times the copy's size, for each copy
    sum-copies : (g : Clone → ℕ) (weight : Copy S M N K → ℕ) →
        ((a : Copy S M N K) (c : ℕ) → In a copies → Carries has a c → g (clone_at cs c) ≡ weight a) →
        sum_by g cs ≡ sum_by (λ a. size a.set * weight a) copies
    sum-copies g weight f =
        by_places g cs
        ∙ same_sum (λ i. g (clone_at cs i)) (places (length cs)) (all_members copies sized)
        (apart_places (length cs)) (apart_members copies sized st.disjoint)
        (λ z i. let c = st.carried z (in_places (length cs) z i) in has_member copies sized c.0 z c.1 c.2)
        (λ z i. let m = member_of copies sized z i in places_have (length cs) z (st.living m.0 z m.1 m.2))
        ∙ sum_by-members (λ i. g (clone_at cs i)) weight copies sized f

    -- handled alone
    pub alone-copies : handled_alone sim cs s front ≡ sum_by (λ a. size a.set * length a.log) copies
    alone-copies =
        sum_by-map length (λ c. log_at sim c s front) cs
        ∙ sum-copies (λ c. length (log_at sim c s front)) (λ a. length a.log)
        (λ a c i h. ap length (sym (st.log a c i h)))

    -- the clones
    pub clones-copies : length cs ≡ sum_by (λ a. size a.set) copies
    clones-copies =
        ones cs
        ∙ sum-copies (λ c. 1) (λ a. 1) (λ a c i h. refl)
        ∙ times_one copies
      where
        -- a length is a sum of ones
        ones : (xs : List Clone) → length xs ≡ sum_by (λ x. 1) xs
        ones xs = let h = sum_by_equal (λ (x : Clone). 1) 1 xs (λ x i. refl) in omega (arith, h)

        -- and ones change no product
        times_one : (xs : List (Copy S M N K)) → sum_by (λ a. size a.set * 1) xs ≡ sum_by (λ a. size a.set) xs
        times_one [] = refl
        times_one (x ∷ xs) =
            let h = times_one xs in
            let a = sum_by-cons (λ (a : Copy S M N K). size a.set * 1) x xs in
            let b = sum_by-cons (λ (a : Copy S M N K). size a.set) x xs in
            omega (arith, h, a, b)

    -- the clones of a copy are those whose logs are its log
    pub class-copy : (a : Copy S M N K) → In a copies →
        IsCount (λ c. (c < length cs) × (log_at sim (clone_at cs c) s front ≡ a.log)) (size a.set)
    class-copy a i = count_same (λ c. Carries has a c)
        (λ c. (c < length cs) × (log_at sim (clone_at cs c) s front ≡ a.log)) (size a.set)
        (λ c h. (st.living a c i h, sym (st.log a c i h)))
        (λ c h.
        let b = st.carried c h.0 in
        let e = st.inhabited a i in
        subst (λ u. Carries has u c) (st.shared b.0 a c e.0 b.1 i b.2 e.1 (h.1 ∙ st.log a e.0 i e.1)) b.2)
        (sized a i)
