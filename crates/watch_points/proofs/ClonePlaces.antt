-- The places of clones by their names.
use Rattle.std.proofs.Common.{◌≡◌, ℕ, zero, suc, ◌+◌, ◌<◌, List, [], ◌∷◌, Bool, true, false, not, cond, Some}
use Rattle.std.proofs.Common.{None, inl, inr, refl, sym, ap, ◌∙◌, arith, map, length, is_some, get_or}
use Rattle.std.specs.Prelude.{position, slice_get}
use Rattle.std.specs.List.{position_or_len}
use Rattle.std.specs.Str.{bytes_eq}
use Rattle.std.proofs.lemmas.Bool.{lt-ltb}
use Rattle.std.proofs.lemmas.List.Quantifiers.{position-Some}
use Rattle.std.proofs.lemmas.Slice.Eq.{bytes_eq-Decides}
use Rattle.sim_base.specs.Clones.{Clone, nobody, place_of}
use Rattle.run_laws.specs.Queue.{In}

-- ---- place_of

-- the name of one of the clones has a place
pub place_of-in : (name : List ℕ) (cs : List Clone) → In name (map (λ (c : Clone). c.name) cs) →
    is_some (place_of name cs) ≡ true
place_of-in name cs i =
    ap (λ b. is_some (cond b (Some (position_or_len (λ (c : Clone). bytes_eq c.name name) cs)) None))
    (lt-ltb (position_or_len (λ (c : Clone). bytes_eq c.name name) cs) (length cs) (below cs i))
  where
    below : (cs : List Clone) → In name (map (λ (c : Clone). c.name) cs) →
        position_or_len (λ (c : Clone). bytes_eq c.name name) cs < length cs
    below [] i = absurd i
    below (c ∷ cs) i = by (bytes_eq c.name name) refl i (below cs)
      where
        by : (b : Bool) → bytes_eq c.name name ≡ b → In name (map (λ (c : Clone). c.name) (c ∷ cs)) →
            (In name (map (λ (c : Clone). c.name) cs) →
            position_or_len (λ (c : Clone). bytes_eq c.name name) cs < length cs) →
            cond (not b) (1 + position_or_len (λ (c : Clone). bytes_eq c.name name) cs) 0 < suc (length cs)
        by true e i rest = omega arith
        by false e (inl is) rest =
            let yes : bytes_eq c.name name ≡ true = (bytes_eq-Decides c.name name).1 (sym is) in
            let never : ⊥ = cc in absurd never
        by false e (inr j) rest = let h = rest j in omega (arith, h)

-- a clone with a place is there, and has the name
pub place_of-some : (name : List ℕ) (cs : List Clone) (c : ℕ) → place_of name cs ≡ Some c →
    (c < length cs) × In name (map (λ (c : Clone). c.name) cs)
place_of-some name cs c e =
    let p = position-Some (λ (c : Clone). bytes_eq c.name name) cs c nobody e in
    (p.0, there cs c p.0 p.1)
  where
    there : (cs : List Clone) (c : ℕ) → c < length cs → bytes_eq (get_or cs c nobody).name name ≡ true →
        In name (map (λ (c : Clone). c.name) cs)
    there [] c l e = absurd (omega (arith, l))
    there (k ∷ cs) zero l e = inl (sym ((bytes_eq-Decides k.name name).0 e))
    there (k ∷ cs) (suc c) l e = inr (there cs c (omega (arith, l)) e)

-- ---- position

-- if some element passes, there is a first one
pub position-there : {X : Type 0} (p : X → Bool) (xs : List X) (i : ℕ) (x : X) → slice_get xs i ≡ Some x →
    p x ≡ true → position p xs ≡ None → ⊥
position-there {X = X} p xs i x e passes none =
    let some : position p xs ≡ Some (position_or_len p xs) =
    ap (λ b. cond b (Some (position_or_len p xs)) None)
    (lt-ltb (position_or_len p xs) (length xs) (below xs i e)) in
    let never : ⊥ = cc in never
  where
    below : (xs : List X) (i : ℕ) → slice_get xs i ≡ Some x → position_or_len p xs < length xs
    below [] i e = absurd (cc)
    below (y ∷ xs) zero e = by (p y) refl
      where
        by : (b : Bool) → p y ≡ b → cond (not b) (1 + position_or_len p xs) 0 < suc (length xs)
        by true f = omega arith
        by false f = let same : y ≡ x = cc in let no : p x ≡ false = ap p (sym same) ∙ f in
            let never : ⊥ = cc in absurd never
    below (y ∷ xs) (suc i) e = by (p y) (below xs i e)
      where
        by : (b : Bool) → position_or_len p xs < length xs →
            cond (not b) (1 + position_or_len p xs) 0 < suc (length xs)
        by true l = omega arith
        by false l = omega (arith, l)
