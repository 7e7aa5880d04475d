-- Lists whose words rise, in parts.
use Rattle.std.proofs.Common.{◌≡◌, ℕ, ◌<◌, ◌≤◌, Bool, true, false, not, nat_lt, cond, List, [], ◌∷◌, ◌++◌}
use Rattle.std.proofs.Common.{inl, inr, refl, sym, ap, ◌∙◌, arith}
use Rattle.std.specs.List.{AllByRecursion, filter}
use Rattle.std.proofs.lemmas.Bool.{cases_lt, lt-ltb, le-ltb}
use Rattle.sim_base.proofs.ListLaws.{all_weaker}
use Rattle.run_laws.proofs.Queue.{all_in, all_from}
use Rattle.run_laws.proofs.Lists.{in_filter, filter_all, filter_none}
use Rattle.run_laws.specs.Beginnings.{before, from, Rise}

-- ---- filter

-- a test of a list with one element more, on a condition
filter_cond : {X : Type 0} (p : X → Bool) (b : Bool) (x : X) (ys zs : List X) (d : Bool) → cond b (p x) false ≡ d
    → filter p ys ≡ zs → filter p (cond b (x ∷ ys) ys) ≡ cond d (x ∷ zs) zs
filter_cond p true x ys zs d e k =
    ap (λ b. cond b (x ∷ filter p ys) (filter p ys)) e ∙ ap (λ l. cond d (x ∷ l) l) k
filter_cond p false x ys zs d e k = k ∙ ap (λ b. cond b (x ∷ zs) zs) e

-- a test after another is one test
pub filter_twice : {X : Type 0} (p r q : X → Bool) → ((x : X) → cond (r x) (p x) false ≡ q x) → (xs : List X)
    → filter p (filter r xs) ≡ filter q xs
filter_twice p r q h [] = refl
filter_twice p r q h (x ∷ xs) =
    filter_cond p (r x) x (filter r xs) (filter q xs) (q x) (h x) (filter_twice p r q h xs)

module _ {X : Type 0} (word : X → ℕ) where
  -- ---- Rise

  -- a first element below all others keeps the rise, on any condition
  rise_cond : (b : Bool) (x : X) (xs : List X) → AllByRecursion (λ y. word x < word y) xs → Rise word xs
      → Rise word (cond b (x ∷ xs) xs)
  rise_cond true x xs h s = (h, s)
  rise_cond false x xs h s = s

  -- a part of a list whose words rise has words that rise
  pub rise_filter : (p : X → Bool) (xs : List X) → Rise word xs → Rise word (filter p xs)
  rise_filter p [] s = tt
  rise_filter p (x ∷ xs) s = rise_cond (p x) x (filter p xs)
      (all_from (λ y. word x < word y) (filter p xs) (λ y i. all_in (λ y. word x < word y) xs y s.0
      (in_filter p xs y i).0))
      (rise_filter p xs s.1)

  -- such a list is what comes before a word, and then the rest
  pub before_from : (w : ℕ) (xs : List X) → Rise word xs → xs ≡ before word w xs ++ from word w xs
  before_from w [] s = refl
  before_from w (x ∷ xs) s = elim (cases_lt (word x) w) [
    | inl l ↦ let h = before_from w xs s.1 in rw (lt-ltb (word x) w l) (ap (λ k. x ∷ k) h)
    | inr l ↦
        let none : AllByRecursion (λ y. nat_lt (word y) w ≡ false) (x ∷ xs) = (
          le-ltb (word x) w l,
          all_weaker (λ y. word x < word y) (λ y. nat_lt (word y) w ≡ false) xs
              (λ y k. le-ltb (word y) w (omega (arith, k, l))) s.0,
        ) in
        let first : before word w (x ∷ xs) ≡ [] = filter_none (λ y. nat_lt (word y) w) (x ∷ xs) none in
        let whole : from word w (x ∷ xs) ≡ x ∷ xs = filter_all (λ y. not (nat_lt (word y) w)) (x ∷ xs)
        (all_weaker (λ y. nat_lt (word y) w ≡ false) (λ y. not (nat_lt (word y) w) ≡ true) (x ∷ xs)
        (λ y k. ap not k) none) in
        sym (ap (λ k. k ++ from word w (x ∷ xs)) first ∙ whole)
  ]

  -- what comes from a word on and from an earlier one on comes from it on
  pub from_from : (a b : ℕ) → a ≤ b → (xs : List X) → from word b (from word a xs) ≡ from word b xs
  from_from a b l xs = filter_twice (λ x. not (nat_lt (word x) b)) (λ x. not (nat_lt (word x) a))
      (λ x. not (nat_lt (word x) b)) here xs
    where
      here : (x : X) → cond (not (nat_lt (word x) a)) (not (nat_lt (word x) b)) false ≡ not (nat_lt (word x) b)
      here x = elim (cases_lt (word x) a) [
        | inl k ↦ rw (lt-ltb (word x) a k, lt-ltb (word x) b (omega (arith, k, l))) refl
        | inr k ↦ rw (le-ltb (word x) a k) refl
      ]

  -- what comes before a word and before a later one comes before it
  pub before_before : (a b : ℕ) → a ≤ b → (xs : List X) → before word a (before word b xs) ≡ before word a xs
  before_before a b l xs = filter_twice (λ x. nat_lt (word x) a) (λ x. nat_lt (word x) b)
      (λ x. nat_lt (word x) a) here xs
    where
      here : (x : X) → cond (nat_lt (word x) b) (nat_lt (word x) a) false ≡ nat_lt (word x) a
      here x = elim (cases_lt (word x) b) [
        | inl k ↦ rw (lt-ltb (word x) b k) refl
        | inr k ↦ rw (le-ltb (word x) b k, le-ltb (word x) a (omega (arith, k, l))) refl
      ]

  -- what comes from a word on is what comes before a later word, and then the rest
  pub parts_join : (xs : List X) (a b : ℕ) → a ≤ b → Rise word xs
      → from word a xs ≡ before word b (from word a xs) ++ from word b xs
  parts_join xs a b l s =
      before_from b (from word a xs) (rise_filter (λ x. not (nat_lt (word x) a)) xs s)
      ∙ ap (λ k. before word b (from word a xs) ++ k) (from_from a b l xs)
