-- Clones by their names.
use Rattle.std.proofs.Common.{◌≡◌, ℕ, ◌+◌, ◌<◌, Bool, true, false, not, nat_lt, cond, List, [], ◌∷◌, ◌++◌}
use Rattle.std.proofs.Common.{length, refl, sym, ap, ◌∙◌, arith, zero, suc, Option, Some, None, option_map, slice_set}
use Rattle.std.specs.List.{prefix_len}
use Rattle.std.specs.Str.{bytes_eq}
use Rattle.std.proofs.lemmas.Slice.Eq.{bytes_eq-Decides}
use Rattle.std.proofs.lemmas.Bool.Decides.{nat_tests}
use Rattle.std.proofs.lemmas.List.Folds.{find-append}
use Rattle.std.proofs.lemmas.List.Quantifiers.{position-Some}
use Rattle.std.specs.Option.{option_or}
use Rattle.sim_base.specs.Clones.{Clone, clone_at, nobody, place_of}
use Rattle.decision_book.specs.Laws.{clone_named}

-- ---- bytes_eq

-- names that compare as equal are the same
pub same_name : (a b : List ℕ) → bytes_eq a b ≡ true → a ≡ b
same_name a b h = (bytes_eq-Decides a b).0 h

-- a name compares as equal to itself
pub name_itself : (a : List ℕ) → bytes_eq a a ≡ true
name_itself a = (bytes_eq-Decides a a).1 refl

-- ---- place_of

-- one place on, in a list that is one longer
next_place : (k n : ℕ) → cond (nat_lt (1 + k) (suc n)) (Some (1 + k)) None ≡ option_map (λ i. suc i)
    (cond (nat_lt k n) (Some k) None)
next_place k n =
    let same : nat_lt (1 + k) (suc n) ≡ nat_lt k n = grind (arith, nat_tests) in
    let one : 1 + k ≡ suc k = omega arith in
    rw (same, one) (by (nat_lt k n))
  where
    by : (b : Bool) → cond b (Some (suc k)) None ≡ option_map (λ i. suc i) (cond b (Some k) None)
    by true = refl
    by false = refl

-- a name has place 0 if the first clone has it, and otherwise one more than its place among the others
pub place_of-cons : (m : List ℕ) (c : Clone) (cs : List Clone)
    → place_of m (c ∷ cs) ≡ cond (bytes_eq c.name m) (Some 0) (option_map (λ i. suc i) (place_of m cs))
place_of-cons m c cs = by (bytes_eq c.name m)
  where
    by : (b : Bool) → cond (nat_lt (cond (not b) (1 + prefix_len (λ x. not (bytes_eq x.name m)) cs) 0)
        (suc (length cs))) (Some (cond (not b) (1 + prefix_len (λ x. not (bytes_eq x.name m)) cs) 0)) None
        ≡ cond b (Some 0) (option_map (λ i. suc i) (place_of m cs))
    by true = let lt : nat_lt 0 (suc (length cs)) ≡ true = grind (arith, nat_tests) in rw lt refl
    by false = next_place (prefix_len (λ x. not (bytes_eq x.name m)) cs) (length cs)

-- a name that has a place has it among the clones
pub place_of-bounds : (m : List ℕ) (clones : List Clone) (i : ℕ) → place_of m clones ≡ Some i → i < length clones
place_of-bounds m clones i e = (position-Some (λ (c : Clone). bytes_eq c.name m) clones i nobody e).0

-- ---- IsCloneNamed

-- the place of a name, and the clone at it is this one
pub record IsCloneNamed (m : List ℕ) (clones : List Clone) (k : Clone) : Type 0 where
  pub at : ℕ
  pub place : place_of m clones ≡ Some at
  pub clone : clone_at clones at ≡ k

-- a name has its place at the first clone or among the others
named_by : (m : List ℕ) (c : Clone) (cs : List Clone) (k : Clone) → (clone_named m cs ≡ Some k → IsCloneNamed m cs k)
    → (b : Bool) → bytes_eq c.name m ≡ b → cond b (Some c) (clone_named m cs) ≡ Some k → IsCloneNamed m (c ∷ cs) k
named_by m c cs k again true e g = record { at = 0; place = place_of-cons m c cs ∙ rw e refl; clone = cc }
named_by m c cs k again false e g =
    let rest = again g in
    record { at = suc rest.at; place = place_of-cons m c cs ∙ rw (e, rest.place) refl; clone = rest.clone }

-- a name has a place if it has a clone
pub IsCloneNamed-clone_named : (m : List ℕ) (clones : List Clone) (k : Clone) → clone_named m clones ≡ Some k
    → IsCloneNamed m clones k
IsCloneNamed-clone_named m [] k h = absurd cc
IsCloneNamed-clone_named m (c ∷ cs) k h =
    named_by m c cs k (IsCloneNamed-clone_named m cs k) (bytes_eq c.name m) refl h

-- ---- place_of, clone_named

-- and it has none if neither the first clone has it nor another
none_by : (m : List ℕ) (c : Clone) (cs : List Clone) → (clone_named m cs ≡ None → place_of m cs ≡ None) → (b : Bool)
    → bytes_eq c.name m ≡ b → cond b (Some c) (clone_named m cs) ≡ None → place_of m (c ∷ cs) ≡ None
none_by m c cs again true e g = absurd cc
none_by m c cs again false e g = place_of-cons m c cs ∙ rw (e, again g) refl

-- so a name without a clone has no place
pub place_of-none : (m : List ℕ) (clones : List Clone) → clone_named m clones ≡ None → place_of m clones ≡ None
place_of-none m [] h = refl
place_of-none m (c ∷ cs) h = none_by m c cs (place_of-none m cs) (bytes_eq c.name m) refl h

-- a name that has a place has the clone at it
pub clone_named-place : (m : List ℕ) (clones : List Clone) (i : ℕ) → place_of m clones ≡ Some i
    → clone_named m clones ≡ Some (clone_at clones i)
clone_named-place m clones i h = by (clone_named m clones) refl
  where
    by : (o : Option Clone) → clone_named m clones ≡ o → clone_named m clones ≡ Some (clone_at clones i)
    by None e = let none = place_of-none m clones e in absurd cc
    by (Some k) e =
        let at = IsCloneNamed-clone_named m clones k e in
        let same : at.at ≡ i = cc in
        e ∙ ap (λ c. Some c) (sym at.clone ∙ ap (clone_at clones) same)

-- and a name without a place has no clone
pub clone_named-none : (m : List ℕ) (clones : List Clone) → place_of m clones ≡ None → clone_named m clones ≡ None
clone_named-none m clones h = by (clone_named m clones) refl
  where
    by : (o : Option Clone) → clone_named m clones ≡ o → clone_named m clones ≡ None
    by None e = e
    by (Some k) e = let at = IsCloneNamed-clone_named m clones k e in absurd cc

-- ---- clone_named: a clone more

-- a name finds the pushed clone if no other has the name, and it is this one's
pub clone_named-push : (m : List ℕ) (clones : List Clone) (k : Clone)
    → clone_named m (clones ++ k ∷ []) ≡ option_or (clone_named m clones) (cond (bytes_eq k.name m) (Some k) None)
clone_named-push m clones k = find-append (λ c. bytes_eq c.name m) clones (k ∷ [])

-- ---- clone_named: a clone in the place of another

-- of two tests that are one the second makes no difference
cond-twice : {X : Type 0} (b : Bool) (x y z : X) → cond b x z ≡ cond b x (cond b y z)
cond-twice true x y z = refl
cond-twice false x y z = refl

-- a place after the first is one more than a place among the others
suc_place : (o : Option ℕ) (j : ℕ) → option_map (λ i. suc i) o ≡ Some (suc j) → o ≡ Some j
suc_place None j h = absurd cc
suc_place (Some i) j h = cc

-- and is not the first
no_place : (o : Option ℕ) → option_map (λ i. suc i) o ≡ Some 0 → ⊥
no_place None h = cc
no_place (Some i) h = let bad : suc i ≡ 0 = cc in omega arith

-- of two tests at most one holds
cond-swapped : {X : Type 0} (a b : Bool) (x y z : X) → (a ≡ true → b ≡ true → ⊥)
    → cond a x (cond b y z) ≡ cond b y (cond a x z)
cond-swapped true true x y z other = absurd (other refl refl)
cond-swapped true false x y z other = refl
cond-swapped false b x y z other = refl

-- a clone is replaced at the first place or among the others
set_by : (m who : List ℕ) (c : Clone) (cs : List Clone) (k : Clone) → k.name ≡ who
    → ((j : ℕ) → place_of who cs ≡ Some j → clone_named m (slice_set cs j k) ≡ cond (bytes_eq who m) (Some k)
    (clone_named m cs))
    → (b : Bool) → bytes_eq c.name who ≡ b → (i : ℕ) → cond b (Some 0) (option_map (λ i. suc i) (place_of who cs))
    ≡ Some i
    → clone_named m (slice_set (c ∷ cs) i k) ≡ cond (bytes_eq who m) (Some k)
    (cond (bytes_eq c.name m) (Some c) (clone_named m cs))
set_by m who c cs k e again true f zero g =
    let old : c.name ≡ who = same_name c.name who f in
    ap (λ n. cond (bytes_eq n m) (Some k) (clone_named m cs)) e ∙ cond-twice (bytes_eq who m) (Some k) (Some c)
    (clone_named m cs)
    ∙ ap (λ n. cond (bytes_eq who m) (Some k) (cond (bytes_eq n m) (Some c) (clone_named m cs))) (sym old)
set_by m who c cs k e again true f (suc j) g = let bad : 0 ≡ suc j = cc in absurd (omega arith)
set_by m who c cs k e again false f zero g = absurd (no_place _ g)
set_by m who c cs k e again false f (suc j) g =
    let apart : bytes_eq c.name m ≡ true → bytes_eq who m ≡ true → ⊥ =
    λ x y. (let same : bytes_eq c.name who ≡ true = rw (same_name c.name m x, same_name who m y) (name_itself m) in
    cc) in
    ap (λ o. cond (bytes_eq c.name m) (Some c) o) (again j (suc_place _ j g))
    ∙ cond-swapped (bytes_eq c.name m) (bytes_eq who m) (Some c) (Some k) (clone_named m cs) apart

-- if a clone is replaced by one of its name, this name finds the new one, and others find the same as before
pub clone_named-set : (m who : List ℕ) (clones : List Clone) (i : ℕ) (k : Clone) → place_of who clones ≡ Some i
    → k.name ≡ who → clone_named m (slice_set clones i k) ≡ cond (bytes_eq who m) (Some k) (clone_named m clones)
clone_named-set m who [] i k h e = absurd cc
clone_named-set m who (c ∷ cs) i k h e = set_by m who c cs k e (λ j g. clone_named-set m who cs j k g e)
    (bytes_eq c.name who) refl i (sym (place_of-cons who c cs) ∙ h)

-- ---- names

-- the clone that is found by a name has this name
found_name : (m : List ℕ) (clones : List Clone) (k : Clone) → clone_named m clones ≡ Some k → k.name ≡ m
found_name m [] k h = absurd cc
found_name m (c ∷ cs) k h = by (bytes_eq c.name m) refl h (found_name m cs k)
  where
    by : (b : Bool) → bytes_eq c.name m ≡ b → cond b (Some c) (clone_named m cs) ≡ Some k
        → (clone_named m cs ≡ Some k → k.name ≡ m) → k.name ≡ m
    by true e g again = let same : c ≡ k = cc in ap (λ x. x.name) (sym same) ∙ same_name c.name m e
    by false e g again = again g

-- the clone at the place of a name has that name
pub name_at : (m : List ℕ) (clones : List Clone) (i : ℕ) → place_of m clones ≡ Some i → (clone_at clones i).name ≡ m
name_at m clones i h = found_name m clones (clone_at clones i) (clone_named-place m clones i h)
