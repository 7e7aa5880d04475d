-- Forms are read exactly, if their parts are.
use Rattle.std.proofs.Common.{◌≡◌, ℕ, zero, suc, ◌<◌, ◌^◌, List, [], ◌∷◌, ◌++◌, length, Bool, true, false, nat_le}
use Rattle.std.proofs.Common.{refl, sym, ap, ◌∙◌, Option, Some, None, arith, subst, append_assoc, eq-eqb, eqb-true}
use Rattle.std.specs.Prelude.{◌&&◌, if◌then◌else◌, decimal}
use Rattle.std.specs.List.{list_all, flat_map}
use Rattle.std.specs.Str.{bytes_eq}
use Rattle.std.specs.Str.Parse.{digits_value}
use Rattle.std.proofs.lemmas.Bool.{leb-true, and_parts, and_from}
use Rattle.std.proofs.lemmas.Option.{same_Some}
use Rattle.std.proofs.lemmas.Fmt.{decimal_is_IsNumeral}
use Rattle.std.proofs.lemmas.Slice.Eq.{bytes_eq-Decides}
use Rattle.snapshot_lines.specs.Forms.{Read, Form, IsExact, read_as, read_then, is_number, read_number, number}
use Rattle.snapshot_lines.specs.Forms.{and_then, and_what_follows, as_value, read_many, many, nothing, silent}
use Rattle.snapshot_lines.specs.Forms.{such, read_such, spelled, read_spelled, with_rest, led}
use Rattle.snapshot_lines.specs.Forms.{read_after, words_after}

-- the value and the words that are left are those that were read
pub same_parts : {A : Type 0} (a b : A) (r s : List (List ℕ)) → ◌≡◌ {A = Read A} (Some (a, r)) (Some (b, s))
    → (a ≡ b) × (r ≡ s)
same_parts {A} a b r s e =
    let p = same_Some (a, r) (b, s) e in
    (ap (λ (x : A × List (List ℕ)). x.0) p, ap (λ (x : A × List (List ℕ)). x.1) p)

-- ---- nothing, silent, spelled, such, number

pub nothing-exact : IsExact nothing
nothing-exact = record { back = λ u rest e. refl; exact = λ ws u rest e. (refl, (same_parts tt u ws rest e).1) }

pub silent-exact : (n : ℕ) → IsExact (silent n)
silent-exact n = record {
  back = λ a rest e.
      let same : n ≡ a = sym (eqb-true a n e) in
      ap (λ (b : ℕ). let r : Read ℕ = Some (b, rest) in r) same;
  exact = λ ws a rest e.
      let parts = same_parts n a ws rest e in
      (eq-eqb a n (sym parts.0), parts.1);
}

-- a spelling is exact if it is read as its value, and no other word is
pub spelled-exact : {A : Type 0} (spelling : A → List ℕ) (meaning : List ℕ → Option A)
    → ((a : A) → meaning (spelling a) ≡ Some a) → ((w : List ℕ) (a : A) → meaning w ≡ Some a → w ≡ spelling a)
    → IsExact (spelled spelling meaning)
spelled-exact {A} spelling meaning back only = record {
  back = λ a rest e. ap (λ (o : Option A). with_rest o rest) (back a);
  exact = read;
}
  where
    read : (ws : List (List ℕ)) (a : A) (rest : List (List ℕ)) → read_spelled meaning ws ≡ Some (a, rest)
        → (true ≡ true) × (ws ≡ (spelling a ∷ []) ++ rest)
    read [] a rest e = absurd (cc)
    read (x ∷ xs) a rest e = by (meaning x) refl e
      where
        by : (o : Option A) → meaning x ≡ o → with_rest o xs ≡ Some (a, rest)
            → (true ≡ true) × (x ∷ xs ≡ (spelling a ∷ []) ++ rest)
        by None is h = absurd (cc)
        by (Some b) is h =
            let parts = same_parts b a xs rest h in
            let first = only x a (is ∙ ap (λ (c : A). let o : Option A = Some c in o) parts.0) in
            let tail = parts.1 in
            (refl, cc)

such-read : (p : List ℕ → Bool) (ws : List (List ℕ)) (w : List ℕ) (rest : List (List ℕ))
    → read_such p ws ≡ Some (w, rest)
    → (p w ≡ true) × (ws ≡ (w ∷ []) ++ rest)
such-read p [] w rest e = absurd (cc)
such-read p (x ∷ xs) w rest e = by (p x) refl e
  where
    by : (b : Bool) → p x ≡ b → ◌≡◌ {A = Read (List ℕ)} (if b then Some (x, xs) else None) (Some (w, rest))
        → (p w ≡ true) × (x ∷ xs ≡ (w ∷ []) ++ rest)
    by true is h =
        let parts = same_parts x w xs rest h in
        let first = parts.0 in
        let tail = parts.1 in
        (subst (λ (v : List ℕ). p v ≡ true) first is, cc)
    by false is h = absurd (cc)

pub such-exact : (p : List ℕ → Bool) → IsExact (such p)
such-exact p = record { back = λ w rest e. rw e refl; exact = λ ws w rest e. such-read p ws w rest e }

number-back : (most n : ℕ) (rest : List (List ℕ)) → most < 2 ^ 64 → nat_le n most ≡ true →
    read_number most (decimal n ∷ rest) ≡ Some (n, rest)
number-back most n rest small e =
    let less = leb-true n most e in
    let value = (decimal_is_IsNumeral n (omega arith)).1 in
    let same : is_number most (decimal n) ≡ true =
    rw value (and_from _ _ e ((bytes_eq-Decides (decimal n) (decimal n)).1 refl)) in
    rw same (ap (λ (k : ℕ). let r : Read ℕ = Some (k, rest) in r) value)

number-read : (most : ℕ) (ws : List (List ℕ)) (n : ℕ) (rest : List (List ℕ)) → read_number most ws ≡ Some (n, rest) →
    (nat_le n most ≡ true) × (ws ≡ (decimal n ∷ []) ++ rest)
number-read most [] n rest e = absurd (cc)
number-read most (x ∷ xs) n rest e = by (is_number most x) refl e
  where
    by : (b : Bool) → is_number most x ≡ b →
        ◌≡◌ {A = Read ℕ} (if b then Some (digits_value 10 x, xs) else None) (Some (n, rest)) →
        (nat_le n most ≡ true) × (x ∷ xs ≡ (decimal n ∷ []) ++ rest)
    by false is h = absurd (cc)
    by true is h =
        let parts = same_parts (digits_value 10 x) n xs rest h in
        let tests = and_parts _ _ is in
        let same = (bytes_eq-Decides x (decimal (digits_value 10 x))).0 tests.1 in
        let is_x : x ≡ decimal n = same ∙ ap decimal parts.0 in
        let tail = parts.1 in
        (subst (λ (k : ℕ). nat_le k most ≡ true) parts.0 tests.0, cc)

pub number-exact : (most : ℕ) → most < 2 ^ 64 → IsExact (number most)
number-exact most small = record {
  back = λ n rest e. number-back most n rest small e;
  exact = λ ws n rest e. number-read most ws n rest e;
}

-- ---- led

pub words_after-Some : (w : List ℕ) (ws rest : List (List ℕ)) → words_after w ws ≡ Some rest → ws ≡ w ∷ rest
words_after-Some w [] rest e = absurd (cc)
words_after-Some w (x ∷ xs) rest e = by (bytes_eq x w) refl e
  where
    by : (b : Bool) → bytes_eq x w ≡ b → ◌≡◌ {A = Option (List (List ℕ))} (if b then Some xs else None) (Some rest)
        → x ∷ xs ≡ w ∷ rest
    by true same h =
        let first = (bytes_eq-Decides x w).0 same in
        let tail = same_Some xs rest h in
        cc
    by false same h = absurd (cc)

pub words_after-same : (w : List ℕ) (rest : List (List ℕ)) → words_after w (w ∷ rest) ≡ Some rest
words_after-same w rest = rw ((bytes_eq-Decides w w).1 refl) refl

module _ {A : Type 0} (w : List ℕ) (f : Form A) (is : IsExact f) where
  led-read : (ws : List (List ℕ)) (a : A) (rest : List (List ℕ)) (o : Option (List (List ℕ))) → words_after w ws ≡ o
      → read_after o f.read ≡ Some (a, rest) → (f.has a ≡ true) × (ws ≡ (w ∷ f.write a) ++ rest)
  led-read ws a rest None is_led e = absurd (cc)
  led-read ws a rest (Some others) is_led e =
      let read = is.exact others a rest e in
      (read.0, words_after-Some w ws others is_led ∙ ap (λ (t : List (List ℕ)). w ∷ t) read.1)

  pub led-exact : IsExact (led w f)
  led-exact = record {
    back = λ a rest e. rw (words_after-same w (f.write a ++ rest)) (is.back a rest e);
    exact = λ ws a rest e. led-read ws a rest (words_after w ws) refl e;
  }

-- ---- and_what_follows, and_then

module _ {A B : Type 0} (f : Form A) (g : A → Form B) (f-is : IsExact f) (g-is : (a : A) → IsExact (g a)) where
  follows-read : (r : Read A) (ws : List (List ℕ)) (p : A × B) (rest : List (List ℕ)) → f.read ws ≡ r →
      read_then r (λ a more. read_as (λ (b : B). (a, b)) ((g a).read more)) ≡ Some (p, rest) →
      ((f.has p.0 && (g p.0).has p.1) ≡ true) × (ws ≡ (f.write p.0 ++ (g p.0).write p.1) ++ rest)
  follows-read None ws p rest is e = absurd (cc)
  follows-read (Some x) ws p rest is e = by ((g x.0).read x.1) refl e
    where
      by : (r : Read B) → (g x.0).read x.1 ≡ r → read_as (λ (b : B). (x.0, b)) r ≡ Some (p, rest) →
          ((f.has p.0 && (g p.0).has p.1) ≡ true) × (ws ≡ (f.write p.0 ++ (g p.0).write p.1) ++ rest)
      by None here h = absurd (cc)
      by (Some y) here h =
          let parts = same_parts (x.0, y.0) p y.1 rest h in
          let first = f-is.exact ws x.0 x.1 is in
          let second = (g-is x.0).exact x.1 y.0 y.1 here in
          let whole : ws ≡ (f.write x.0 ++ (g x.0).write y.0) ++ y.1 = first.1
          ∙ (ap (λ t. f.write x.0 ++ t) second.1 ∙ sym (append_assoc (f.write x.0) ((g x.0).write y.0) y.1)) in (
            subst (λ (q : A × B). (f.has q.0 && (g q.0).has q.1) ≡ true) parts.0 (and_from _ _ first.0 second.0),
            whole ∙ ap (λ t. (f.write x.0 ++ (g x.0).write y.0) ++ t) parts.1
                ∙ ap (λ (q : A × B). (f.write q.0 ++ (g q.0).write q.1) ++ rest) parts.0,
          )

  pub follows-exact : IsExact (and_what_follows f g)
  follows-exact = record {
    back = λ p rest e.
        let h = and_parts _ _ e in
        rw (
          append_assoc (f.write p.0) ((g p.0).write p.1) rest,
          f-is.back p.0 ((g p.0).write p.1 ++ rest) h.0,
          (g-is p.0).back p.1 rest h.1,
        ) refl;
    exact = λ ws p rest e. follows-read (f.read ws) ws p rest refl e;
  }

pub and_then-exact : {A B : Type 0} (f : Form A) (g : Form B) → IsExact f → IsExact g → IsExact (and_then f g)
and_then-exact f g f-is g-is = record {
  back = (follows-exact f (λ a. g) f-is (λ a. g-is)).back;
  exact = (follows-exact f (λ a. g) f-is (λ a. g-is)).exact;
}

-- ---- as_value

pub as_value-exact : {A B : Type 0} (t : A → B) (u : B → A) (f : Form A) → IsExact f →
    ((a : A) → f.has a ≡ true → u (t a) ≡ a) → ((b : B) → t (u b) ≡ b) → IsExact (as_value t u f)
as_value-exact {A} {B} t u f is ut tu = record {
  back = λ b rest e. rw (is.back (u b) rest e) (ap (λ (x : B). let r : Read B = Some (x, rest) in r) (tu b));
  exact = λ ws b rest e. by ws b rest (f.read ws) refl e;
}
  where
    by : (ws : List (List ℕ)) (b : B) (rest : List (List ℕ)) (r : Read A) → f.read ws ≡ r →
        read_as t r ≡ Some (b, rest) → (f.has (u b) ≡ true) × (ws ≡ f.write (u b) ++ rest)
    by ws b rest None here h = absurd (cc)
    by ws b rest (Some x) here h =
        let parts = same_parts (t x.0) b x.1 rest h in
        let read = is.exact ws x.0 x.1 here in
        let back : x.0 ≡ u b = sym (ut x.0 read.0) ∙ ap u parts.0 in (
          subst (λ (a : A). f.has a ≡ true) back read.0,
          read.1 ∙ ap (λ z. f.write x.0 ++ z) parts.1 ∙ ap (λ (a : A). f.write a ++ rest) back,
        )

-- ---- many

module _ {A : Type 0} (f : Form A) (is : IsExact f) where
  many-back : (n : ℕ) (xs : List A) (rest : List (List ℕ)) → length xs ≡ n → list_all f.has xs ≡ true →
      read_many f n (flat_map f.write xs ++ rest) ≡ Some (xs, rest)
  many-back zero [] rest count e = refl
  many-back zero (x ∷ xs) rest count e = absurd (omega (arith, count))
  many-back (suc n) [] rest count e = absurd (omega (arith, count))
  many-back (suc n) (x ∷ xs) rest count e =
      let h : (f.has x ≡ true) × (list_all f.has xs ≡ true) = and_parts (f.has x) (list_all f.has xs) e in
      let less : length xs ≡ n = omega (arith, count) in
      rw (
        append_assoc (f.write x) (flat_map f.write xs) rest,
        is.back x (flat_map f.write xs ++ rest) h.0,
        many-back n xs rest less h.1,
      ) refl

  many-read : (n : ℕ) (ws : List (List ℕ)) (xs : List A) (rest : List (List ℕ)) → read_many f n ws ≡ Some (xs, rest) →
      (length xs ≡ n) × (list_all f.has xs ≡ true) × (ws ≡ flat_map f.write xs ++ rest)
  many-read zero ws xs rest e =
      let parts = same_parts [] xs ws rest e in
      let empty = parts.0 in (
        ap length (sym empty),
        subst (λ (l : List A). list_all f.has l ≡ true) empty refl,
        parts.1 ∙ ap (λ (l : List A). flat_map f.write l ++ rest) empty,
      )
  many-read (suc n) ws xs rest e = by (f.read ws) refl e
      (λ r ys more h. many-read n r ys more h)
    where
      by : (r : Read A) → f.read ws ≡ r →
          read_then r (λ (a : A) z. read_as (λ more. a ∷ more) (read_many f n z)) ≡ Some (xs, rest) →
          ((z : List (List ℕ)) (ys : List A) (more : List (List ℕ)) → read_many f n z ≡ Some (ys, more) →
          (length ys ≡ n) × (list_all f.has ys ≡ true) × (z ≡ flat_map f.write ys ++ more)) →
          (length xs ≡ suc n) × (list_all f.has xs ≡ true) × (ws ≡ flat_map f.write xs ++ rest)
      by None here h again = absurd (cc)
      by (Some x) here h again = tail (read_many f n x.1) refl h
        where
          tail : (r : Read (List A)) → read_many f n x.1 ≡ r → read_as (λ more. x.0 ∷ more) r ≡ Some (xs, rest) →
              (length xs ≡ suc n) × (list_all f.has xs ≡ true) × (ws ≡ flat_map f.write xs ++ rest)
          tail None there k = absurd (cc)
          tail (Some y) there k =
              let parts = same_parts (x.0 ∷ y.0) xs y.1 rest k in
              let first = is.exact ws x.0 x.1 here in
              let others = again x.1 y.0 y.1 there in
              let count = others.0 in
              let whole : ws ≡ (f.write x.0 ++ flat_map f.write y.0) ++ y.1 = first.1
              ∙ (ap (λ t. f.write x.0 ++ t) others.2 ∙ sym (append_assoc (f.write x.0) (flat_map f.write y.0) y.1)) in (
                ap length (sym parts.0) ∙ omega (arith, count),
                subst (λ (l : List A). list_all f.has l ≡ true) parts.0 (and_from _ _ first.0 others.1),
                whole ∙ ap (λ t. (f.write x.0 ++ flat_map f.write y.0) ++ t) parts.1
                    ∙ ap (λ (l : List A). flat_map f.write l ++ rest) parts.0,
              )

  pub many-exact : (n : ℕ) → IsExact (many f n)
  many-exact n = record {
    back = λ xs rest e. let h = and_parts _ _ e in many-back n xs rest (eqb-true (length xs) n h.0) h.1;
    exact = λ ws xs rest e. let r = many-read n ws xs rest e in
        (and_from _ _ (eq-eqb (length xs) n r.0) r.1, r.2);
  }
