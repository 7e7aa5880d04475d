-- Forms after a keyword, and words with a byte between them.
use Rattle.std.proofs.Common.{◌≡◌, ◌⊎◌, inl, inr, ℕ, ◌≤◌, List, [], ◌∷◌, ◌++◌, length, Bool, true, false}
use Rattle.std.proofs.Common.{refl, sym, ap, ◌∙◌, Option, Some, None, arith, subst, append-nil, ◌==◌, eqb-true, eq-eqb}
use Rattle.std.proofs.lemmas.Bool.{and_parts}
use Rattle.std.specs.List.{list_all, join_with_byte, slice_split, onto_first}
use Rattle.std.specs.Str.{bytes_eq}
use Rattle.std.proofs.lemmas.List.Splits.{slice_split-cons_no, slice_split-cons_yes, join_with_byte-slice_split}
use Rattle.std.proofs.lemmas.Option.{same_Some}
use Rattle.snapshot_lines.specs.Forms.{Read, Form, IsExact, read_as, read_either, either_has, either_write, led_or}
use Rattle.snapshot_lines.specs.Forms.{IsLedByOthers, words_after}
use Rattle.snapshot_lines.specs.Forms.{whole, with_rest, said_by, joined_words, read_joined, joined}
use Rattle.snapshot_lines.specs.Forms.{WritesOnly, WritesSome, IsReadJoined}
use Rattle.snapshot_lines.proofs.ExactForms.{same_parts, words_after-Some, words_after-same}

-- ---- led_or

words_after-other : (w v : List ℕ) (vs : List (List ℕ)) → bytes_eq v w ≡ false → words_after w (v ∷ vs) ≡ None
words_after-other w v vs other = rw other refl

module _ {A B : Type 0} (w : List ℕ) (f : Form A) (g : Form B) (f-is : IsExact f) (g-is : IsExact g)
    (others : IsLedByOthers w g) where
  led_or-back : (x : A ⊎ B) (rest : List (List ℕ)) → either_has f.has g.has x ≡ true
      → (led_or w f g).read (either_write w f.write g.write x ++ rest) ≡ Some (x, rest)
  led_or-back (inl a) rest e =
      ap (λ (o : Option (List (List ℕ))). read_either o f.read (g.read (w ∷ (f.write a ++ rest))))
      (words_after-same w (f.write a ++ rest)) ∙ ap (λ (r : Read A). read_as (λ (y : A). let z : A ⊎ B = inl y in z) r)
      (f-is.back a rest e)
  led_or-back (inr b) rest e =
      let o = others b e in
      let first : words_after w (g.write b ++ rest) ≡ None =
      ap (λ (t : List (List ℕ)). words_after w (t ++ rest)) o.2 ∙ words_after-other w o.0 (o.1 ++ rest) o.3 in
      ap (λ (o : Option (List (List ℕ))). read_either o f.read (g.read (g.write b ++ rest))) first
      ∙ ap (λ (r : Read B). read_as (λ (y : B). let z : A ⊎ B = inr y in z) r) (g-is.back b rest e)

  other-read : (ws : List (List ℕ)) (x : A ⊎ B) (rest : List (List ℕ)) (r : Read B) → g.read ws ≡ r
      → read_as inr r ≡ Some (x, rest)
      → (either_has f.has g.has x ≡ true) × (ws ≡ either_write w f.write g.write x ++ rest)
  other-read ws x rest None is e = absurd (cc)
  other-read ws x rest (Some p) is e =
      let parts = same_parts (inr p.0) x p.1 rest e in
      let read = g-is.exact ws p.0 p.1 is in (
        subst (λ (y : A ⊎ B). either_has f.has g.has y ≡ true) parts.0 read.0,
        read.1 ∙ ap (λ t. g.write p.0 ++ t) parts.1
            ∙ ap (λ (y : A ⊎ B). either_write w f.write g.write y ++ rest) parts.0,
      )

  first-read : (vs : List (List ℕ)) (x : A ⊎ B) (rest : List (List ℕ)) (r : Read A) → f.read vs ≡ r
      → read_as inl r ≡ Some (x, rest)
      → (either_has f.has g.has x ≡ true) × (w ∷ vs ≡ either_write w f.write g.write x ++ rest)
  first-read vs x rest None is e = absurd (cc)
  first-read vs x rest (Some p) is e =
      let parts = same_parts (inl p.0) x p.1 rest e in
      let read = f-is.exact vs p.0 p.1 is in (
        subst (λ (y : A ⊎ B). either_has f.has g.has y ≡ true) parts.0 read.0,
        ap (λ t. w ∷ t) read.1 ∙ ap (λ t. w ∷ (f.write p.0 ++ t)) parts.1
            ∙ ap (λ (y : A ⊎ B). either_write w f.write g.write y ++ rest) parts.0,
      )

  led_or-read : (ws : List (List ℕ)) (x : A ⊎ B) (rest : List (List ℕ)) (o : Option (List (List ℕ)))
      → words_after w ws ≡ o → read_either o f.read (g.read ws) ≡ Some (x, rest)
      → (either_has f.has g.has x ≡ true) × (ws ≡ either_write w f.write g.write x ++ rest)
  led_or-read ws x rest None is_led e = other-read ws x rest (g.read ws) refl e
  led_or-read ws x rest (Some vs) is_led e =
      let read = first-read vs x rest (f.read vs) refl e in
      (read.0, words_after-Some w ws vs is_led ∙ read.1)

  pub led_or-exact : IsExact (led_or w f g)
  led_or-exact = record {
    back = led_or-back;
    exact = λ ws x rest e. led_or-read ws x rest (words_after w ws) refl e;
  }

-- ---- said_by and joined_words

-- a byte that passes a test is not one that does not
other_byte : (p : ℕ → Bool) (between b : ℕ) → p between ≡ false → p b ≡ true → (b == between) ≡ false
other_byte p between b not_between passes = by (b == between) refl
  where
    by : (r : Bool) → (b == between) ≡ r → r ≡ false
    by false is = refl
    by true is = let same = eqb-true b between is in absurd (cc)

module _ (p : ℕ → Bool) (between : ℕ) (not_between : p between ≡ false) where
  slice_split-first : (word rest : List ℕ) → list_all p word ≡ true
      → slice_split (λ b. b == between) (word ++ (between ∷ rest)) ≡ word ∷ slice_split (λ b. b == between) rest
  slice_split-first [] rest all = slice_split-cons_yes (λ b. b == between) between rest (eq-eqb between between refl)
  slice_split-first (b ∷ bs) rest all =
      let parts = and_parts (p b) (list_all p bs) all in
      slice_split-cons_no (λ b. b == between) b (bs ++ (between ∷ rest)) (other_byte p between b not_between parts.0)
      ∙ ap (onto_first b) (slice_split-first bs rest parts.1)

  slice_split-word : (word : List ℕ) → list_all p word ≡ true → slice_split (λ b. b == between) word ≡ word ∷ []
  slice_split-word [] all = refl
  slice_split-word (b ∷ bs) all =
      let parts = and_parts (p b) (list_all p bs) all in
      slice_split-cons_no (λ b. b == between) b bs (other_byte p between b not_between parts.0)
      ∙ ap (onto_first b) (slice_split-word bs parts.1)

  pub slice_split-join_with_byte : (ws : List (List ℕ)) → 1 ≤ length ws → list_all (list_all p) ws ≡ true
      → slice_split (λ b. b == between) (join_with_byte between ws) ≡ ws
  slice_split-join_with_byte [] some all = absurd (omega (arith, some))
  slice_split-join_with_byte (w ∷ []) some all =
      slice_split-word w (and_parts (list_all p w) true all).0
  slice_split-join_with_byte (w ∷ v ∷ ws) some all =
      let parts = and_parts (list_all p w) (list_all (list_all p) (v ∷ ws)) all in
      slice_split-first w (join_with_byte between (v ∷ ws)) parts.0
      ∙ ap (λ (t : List (List ℕ)). w ∷ t) (slice_split-join_with_byte (v ∷ ws) (omega arith) parts.1)

module _ {A : Type 0} (f : Form A) (is : IsExact f) where
  whole-read : (ws : List (List ℕ)) (a : A) (r : Read A) → f.read ws ≡ r → whole r ≡ Some a
      → (f.has a ≡ true) × (ws ≡ f.write a)
  whole-read ws a None here e = absurd (cc)
  whole-read ws a (Some (b, [])) here e =
      let read = is.exact ws b [] here in
      let same : b ≡ a = same_Some b a e in (
        subst (λ (x : A). f.has x ≡ true) same read.0,
        read.1 ∙ append-nil (f.write b) ∙ ap f.write same,
      )
  whole-read ws a (Some (b, x ∷ xs)) here e = absurd (cc)

  -- a form is read from joined words, if the byte between them is in none of its words
  pub joined_words-exact : (p : ℕ → Bool) (between : ℕ) → p between ≡ false → WritesOnly p f → WritesSome f
      → IsReadJoined between f
  joined_words-exact p between not_between only some = record {
    back = λ a e.
        let words = slice_split-join_with_byte p between not_between (f.write a) (some a e) (only a e) in
        let read : f.read (f.write a) ≡ Some (a, []) =
        subst (λ (t : List (List ℕ)). f.read t ≡ Some (a, [])) (append-nil (f.write a)) (is.back a [] e) in
        ap (λ (t : List (List ℕ)). whole (f.read t)) words ∙ ap whole read;
    exact = λ line a e.
        let r = whole-read (slice_split (λ b. b == between) line) a
        (f.read (slice_split (λ b. b == between) line)) refl e
        in
        (r.0, sym (join_with_byte-slice_split between line) ∙ ap (join_with_byte between) r.1);
  }

-- ---- joined

module _ {A : Type 0} (between : ℕ) (f : Form A) (is : IsReadJoined between f) where
  joined-back : (a : A) (rest : List (List ℕ)) → f.has a ≡ true
      → with_rest (said_by between f (joined_words between f a)) rest ≡ Some (a, rest)
  joined-back a rest e = ap (λ (o : Option A). with_rest o rest) (is.back a e)

  joined-read : (ws : List (List ℕ)) (a : A) (rest : List (List ℕ)) → read_joined between f ws ≡ Some (a, rest)
      → (f.has a ≡ true) × (ws ≡ (joined_words between f a ∷ []) ++ rest)
  joined-read [] a rest e = absurd (cc)
  joined-read (x ∷ xs) a rest e = by (said_by between f x) refl e
    where
      by : (o : Option A) → said_by between f x ≡ o → with_rest o xs ≡ Some (a, rest)
          → (f.has a ≡ true) × (x ∷ xs ≡ (joined_words between f a ∷ []) ++ rest)
      by None said h = absurd (cc)
      by (Some b) said h =
          let parts = same_parts b a xs rest h in
          let read = is.exact x a (said ∙ ap (λ (c : A). let o : Option A = Some c in o) parts.0) in
          let line = read.1 in
          let tail = parts.1 in
          (read.0, cc)

  pub joined-exact : IsExact (joined between f)
  joined-exact = record { back = joined-back; exact = joined-read }
