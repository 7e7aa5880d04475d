-- The first entry of merged lists.
use Rattle.std.proofs.Common.{◌≡◌, ◌⊎◌, ℕ, zero, suc, ◌<◌, List, [], ◌∷◌, ◌++◌}
use Rattle.std.proofs.Common.{inl, inr, refl, ap, ◌∙◌, arith, length, get_or, set}
use Rattle.std.specs.declared.cmp.Ordering.{Ordering}
use Rattle.std.specs.declared.cmp.Ordering.TheVariants.{Less, Equal, Greater}
use Rattle.sim_base.specs.declared.entry.Entry.{Entry}
use Rattle.sim_base.specs.declared.entry.Line.{Line}
use Rattle.sim_base.specs.declared.message.Msg.{Msg}
use Rattle.run_laws.specs.Merges.{merge_by, merge_at, merge}
use Rattle.trace_writer.specs.Words.{by_key, merge_onto}

-- an entry of a log of the network
abbrev pub E : Type 0
E = Entry Msg Line

-- the first of a list comes after e
abbrev IsAfter : List E → E → Type 0
IsAfter l e = (f : E) (fs : List E) → l ≡ f ∷ fs → by_key f e ≡ Greater

-- the first of a list does not come before e
abbrev IsNotBefore : List E → E → Type 0
IsNotBefore l e = (f : E) (fs : List E) → l ≡ f ∷ fs → (by_key e f ≡ Less) ⊎ (by_key e f ≡ Equal)

-- ---- merge

-- the first of the left list comes first if the right one's does not come before it
left_first : (e : E) (es l : List E) → IsNotBefore l e → merge by_key (e ∷ es) l ≡ e ∷ merge by_key es l
left_first e es [] h = refl
left_first e es (f ∷ fs) h = elim (h f fs refl) [
  | inl a ↦ ap (λ r. merge_by r e f (merge by_key es (f ∷ fs)) (merge_at by_key e (merge by_key es) fs)) a
  | inr a ↦ ap (λ r. merge_by r e f (merge by_key es (f ∷ fs)) (merge_at by_key e (merge by_key es) fs)) a
]

-- the first of the right list comes first if the left one's comes after it
right_first : (l : List E) (e : E) (es : List E) → IsAfter l e → merge by_key l (e ∷ es) ≡ e ∷ merge by_key l es
right_first [] e es h = refl
right_first (f ∷ fs) e es h =
    ap (λ r. merge_by r f e (merge by_key fs (e ∷ es)) (merge_at by_key f (merge by_key fs) es)) (h f fs refl)

-- the first of a merge is the first of one of the lists, by which goes first
first_of_merge_by : (r : Ordering) (x y z : E) (a b t : List E) → merge_by r x y a b ≡ z ∷ t → (x ≡ z) ⊎ (y ≡ z)
first_of_merge_by Less x y z a b t e = let h : x ≡ z = cc in inl h
first_of_merge_by Equal x y z a b t e = let h : x ≡ z = cc in inl h
first_of_merge_by Greater x y z a b t e = let h : y ≡ z = cc in inr h

-- so it is with a merge of two lists
first_of_merge : (xs ys : List E) (z : E) (t : List E) → merge by_key xs ys ≡ z ∷ t →
    ((es : List E) × (xs ≡ z ∷ es)) ⊎ ((es : List E) × (ys ≡ z ∷ es))
first_of_merge [] ys z t e = inr (t, e)
first_of_merge (x ∷ xs) [] z t e = let h : x ≡ z = cc in inl (xs, ap (λ y. y ∷ xs) h)
first_of_merge (x ∷ xs) (y ∷ ys) z t e = elim (first_of_merge_by (by_key x y) x y z _ _ t e) [
  | inl h ↦ inl (xs, ap (λ y. y ∷ xs) h)
  | inr h ↦ inr (ys, ap (λ x. x ∷ ys) h)
]

-- if both lists begin after e, their merge does
merge_after : (xs ys : List E) (e : E) → IsAfter xs e → IsAfter ys e → IsAfter (merge by_key xs ys) e
merge_after xs ys e a b = λ f fs q. elim (first_of_merge xs ys f fs q) [
  | inl h ↦ a f h.0 h.1
  | inr h ↦ b f h.0 h.1
]

-- ---- merge_onto

-- the first element stays first if no list begins before it
first_stays : (e : E) (es : List E) (ls : List (List E)) → ((j : ℕ) → j < length ls → IsNotBefore (get_or ls j []) e) →
    merge_onto (e ∷ es) ls ≡ e ∷ merge_onto es ls
first_stays e es [] h = refl
first_stays e es (l ∷ ls) h =
    ap (λ all. merge_onto all ls) (left_first e es l (h 0 (omega arith)))
    ∙ first_stays e (merge by_key es l) ls (λ j there. h (suc j) (omega (arith, there)))

-- the first of a list is the first of all if those before begin after it, and those after do not begin before it
pub first_of_all : (all : List E) (i : ℕ) (ls : List (List E)) (e : E) (es : List E) → i < length ls →
    get_or ls i [] ≡ e ∷ es →
    IsAfter all e → ((j : ℕ) → j < i → IsAfter (get_or ls j []) e) →
    ((j : ℕ) → i < j → j < length ls → IsNotBefore (get_or ls j []) e) →
    merge_onto all ls ≡ e ∷ merge_onto all (set ls i es)
first_of_all all i [] e es there is a before behind = absurd (omega (arith, there))
first_of_all all zero (l ∷ ls) e es there is a before behind =
    ap (λ x. merge_onto (merge by_key all x) ls) is
    ∙ (ap (λ x. merge_onto x ls) (right_first all e es a)
    ∙ first_stays e (merge by_key all es) ls (λ j k. behind (suc j) (omega arith) (omega (arith, k))))
first_of_all all (suc i) (l ∷ ls) e es there is a before behind =
    first_of_all (merge by_key all l) i ls e es (omega (arith, there)) is
    (merge_after all l e a (before 0 (omega arith)))
    (λ j k. before (suc j) (omega (arith, k)))
    (λ j k n. behind (suc j) (omega (arith, k)) (omega (arith, n)))

-- of lists with nothing left nothing is left
pub none_of_all : (ls : List (List E)) → ((j : ℕ) → j < length ls → get_or ls j [] ≡ []) → merge_onto [] ls ≡ []
none_of_all [] h = refl
none_of_all (l ∷ ls) h =
    ap (λ x. merge_onto x ls) (h 0 (omega arith)) ∙ none_of_all ls (λ j there. h (suc j) (omega (arith, there)))

-- a list more is merged with the others
pub merge_more : (all : List E) (ls : List (List E)) (l : List E) →
    merge_onto all (ls ++ l ∷ []) ≡ merge by_key (merge_onto all ls) l
merge_more all [] l = refl
merge_more all (x ∷ xs) l = merge_more (merge by_key all x) xs l
