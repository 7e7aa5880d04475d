-- The clones that have ended at a time.
use Rattle.std.proofs.Common.{◌≡◌, ℕ, ◌<◌, ◌≤◌, ◌==◌, ◌&&◌, ◌||◌, not, min, Bool, true, false, cond, List}
use Rattle.std.proofs.Common.{[], ◌∷◌, ◌++◌, inl, inr, refl, sym, ap, ◌∙◌, subst, arith, nat_lt, nat_le}
use Rattle.std.proofs.Common.{get_or, length, zero, suc}
use Rattle.std.proofs.lemmas.Bool.{cases_lt, lt-ltb, le-ltb, le-leb, lt-leb}
use Rattle.sim_base.specs.declared.lists.TheConstants.{MAX_CLONES}
use Rattle.phys_proc.specs.Ends.{ends_in, has_ended, AreEndsOfClones}

-- ---- has_ended

-- a listed end counts if it has come
one_end : (t a r : ℕ) (g : Bool) → g ≡ not (nat_lt t r) → ((nat_le a t && true) || g) ≡ not (nat_lt t (min a r))
one_end t a r g e = elim (cases_lt t a) [
  | inl l ↦ elim (cases_lt t r) [
    | inl k ↦ ap (λ b. (b && true) || g) (lt-leb a t l) ∙ e
        ∙ ap not (lt-ltb t r k ∙ sym (lt-ltb t (min a r) (omega arith)))
    | inr k ↦ ap (λ b. (b && true) || g) (lt-leb a t l) ∙ e
        ∙ ap not (le-ltb t r k ∙ sym (le-ltb t (min a r) (omega arith)))
  ]
  | inr l ↦ ap (λ b. (b && true) || g) (le-leb a t l) ∙ sym (ap not (le-ltb t (min a r) (omega arith)))
]

-- and is skipped if it is of another clone
end_at : (same : Bool) (t a r : ℕ) (g : Bool) → g ≡ not (nat_lt t r)
    → ((nat_le a t && same) || g) ≡ not (nat_lt t (cond same (min a r) r))
end_at true t a r g e = one_end t a r g e
end_at false t a r g e = no_end (nat_le a t) ∙ e
  where
    no_end : (b : Bool) → ((b && false) || g) ≡ g
    no_end true = refl
    no_end false = refl

-- before the horizon, a clone has ended if its end is not later
pub has_ended-is : (horizon t : ℕ) (es : List (ℕ × ℕ)) (c : ℕ) → t < horizon
    → has_ended t es c ≡ not (nat_lt t (ends_in horizon es c))
has_ended-is horizon t [] c l = ap not (sym (lt-ltb t horizon l))
has_ended-is horizon t (e ∷ es) c l = end_at (e.0 == c) t e.1 (ends_in horizon es c) (has_ended t es c)
    (has_ended-is horizon t es c l)

-- so who is marked and has not ended is one who is marked and whose end is later
pub and_not : (b g later : Bool) → g ≡ not later → (b && not g) ≡ (b && later)
and_not b g true e = ap (λ x. b && not x) e
and_not b g false e = ap (λ x. b && not x) e

-- ---- ends_in and AreEndsOfClones

-- with an end listed last, a clone ends as with that end listed first
ends_in-append : (horizon : ℕ) (es : List (ℕ × ℕ)) (e : ℕ × ℕ) (c : ℕ)
    → ends_in horizon (es ++ e ∷ []) c ≡ cond (e.0 == c) (min e.1 (ends_in horizon es c)) (ends_in horizon es c)
ends_in-append horizon [] e c = refl
ends_in-append horizon (x ∷ es) e c = ap (λ r. cond (x.0 == c) (min x.1 r) r) (ends_in-append horizon es e c)
    ∙ by_both (x.0 == c) (e.0 == c) (ends_in horizon es c)
  where
    swap : (a b r : ℕ) → min a (min b r) ≡ min b (min a r)
    swap a b r = omega arith

    by_both : (p q : Bool) (r : ℕ) → cond p (min x.1 (cond q (min e.1 r) r)) (cond q (min e.1 r) r)
        ≡ cond q (min e.1 (cond p (min x.1 r) r)) (cond p (min x.1 r) r)
    by_both true true r = swap x.1 e.1 r
    by_both true false r = refl
    by_both false true r = refl
    by_both false false r = refl

-- a clone with an end more ends then, if not before, and each other as it did
pub ends_in-more : (horizon : ℕ) (es all : List (ℕ × ℕ)) (clone at c : ℕ) → all ≡ es ++ (clone, at) ∷ []
    → ends_in horizon all c ≡ cond (clone == c) (min at (ends_in horizon es c)) (ends_in horizon es c)
ends_in-more horizon es all clone at c e = ap (λ l. ends_in horizon l c) e ∙ ends_in-append horizon es (clone, at) c

-- with an end more, of a number that a clone may have, the ends are still those of such numbers
pub AreEndsOfClones-more : (es all : List (ℕ × ℕ)) (clone at : ℕ) → all ≡ es ++ (clone, at) ∷ [] → clone < MAX_CLONES
    → AreEndsOfClones es → AreEndsOfClones all
AreEndsOfClones-more es all clone at e l f = subst AreEndsOfClones (sym e) (both es f)
  where
    both : (es : List (ℕ × ℕ)) → AreEndsOfClones es → AreEndsOfClones (es ++ (clone, at) ∷ [])
    both [] f = (l, tt)
    both (x ∷ xs) f = (f.0, both xs f.1)

-- no clone ends after the horizon
pub ends_in-bound : (horizon : ℕ) (es : List (ℕ × ℕ)) (c : ℕ) → ends_in horizon es c ≤ horizon
ends_in-bound horizon [] c = omega arith
ends_in-bound horizon (e ∷ rest) c = by_test (e.0 == c) (ends_in-bound horizon rest c)
  where
    by_test : (b : Bool) → ends_in horizon rest c ≤ horizon
        → cond b (min e.1 (ends_in horizon rest c)) (ends_in horizon rest c) ≤ horizon
    by_test true l = omega (arith, l)
    by_test false l = l

-- the number read from the ends is a valid clone number
pub number_below : (es : List (ℕ × ℕ)) (i : ℕ) (d : ℕ × ℕ) → AreEndsOfClones es → i < length es → d ≡ get_or es i d
    → d.0 < MAX_CLONES
number_below [] i d f l e = absurd (omega arith)
number_below (x ∷ es) zero d f l e = let h = ap (λ y. y.0) e in omega (arith, f.0, h)
number_below (x ∷ es) (suc i) d f l e = number_below es i d f.1 (omega arith) e
