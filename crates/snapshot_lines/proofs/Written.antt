-- The bytes and the number of words that forms write.
use Rattle.std.proofs.Common.{◌≡◌, inl, inr, ℕ, ◌<◌, ◌^◌, List, [], ◌∷◌, ◌++◌, Bool, true}
use Rattle.std.proofs.Common.{refl, ◌∙◌, arith, length-append, decimal, Option}
use Rattle.std.specs.List.{list_all, flat_map, join_with_byte}
use Rattle.std.specs.Str.Parse.{digits_value}
use Rattle.std.proofs.lemmas.Bool.{and_parts, and_from, leb-true}
use Rattle.std.proofs.lemmas.Bool.Decides.{nat_tests}
use Rattle.std.proofs.lemmas.Fmt.{digits_decimal}
use Rattle.std.proofs.lemmas.List.Folds.{list_all-append}
use Rattle.sim_base.specs.Names.{is_digit}
use Rattle.sim_base.proofs.ListLaws.{list_all-weaker}
use Rattle.sim_base.proofs.Digits.{digit_numerals}
use Rattle.snapshot_lines.specs.Forms.{Form, WritesOnly, WritesSome, such, number, nothing, and_then, and_what_follows}
use Rattle.snapshot_lines.specs.Forms.{as_value, many, led, led_or, joined, joined_words, silent, spelled}

-- ---- list_all

pub list_all-both : {X : Type 0} (p : X → Bool) (xs ys : List X) → list_all p xs ≡ true → list_all p ys ≡ true
    → list_all p (xs ++ ys) ≡ true
list_all-both p xs ys first second =
    list_all-append p xs ys ∙ and_from (list_all p xs) (list_all p ys) first second

-- ---- numbers

pub number-only : (p : ℕ → Bool) (most : ℕ) → most < 2 ^ 64 → ((b : ℕ) → is_digit b ≡ true → p b ≡ true)
    → WritesOnly p (number most)
number-only p most small digits n e =
    let less = leb-true n most e in
    and_from (list_all p (decimal n)) true
    (list_all-weaker is_digit p digits (decimal n) (digits_decimal digit_numerals n (omega (arith, less, small)))) refl

-- ---- words

pub nothing-only : (p : ℕ → Bool) → WritesOnly p nothing
nothing-only p u e = refl

pub silent-only : (p : ℕ → Bool) (n : ℕ) → WritesOnly p (silent n)
silent-only p n a e = refl

pub spelled-only : {A : Type 0} (p : ℕ → Bool) (spelling : A → List ℕ) (meaning : List ℕ → Option A)
    → ((a : A) → list_all p (spelling a) ≡ true) → WritesOnly p (spelled spelling meaning)
spelled-only p spelling meaning all a e = and_from (list_all p (spelling a)) true (all a) refl

pub led-only : {A : Type 0} (p : ℕ → Bool) (w : List ℕ) (f : Form A) → list_all p w ≡ true → WritesOnly p f
    → WritesOnly p (led w f)
led-only p w f all only a e = and_from (list_all p w) (list_all (list_all p) (f.write a)) all (only a e)

pub led-some : {A : Type 0} (w : List ℕ) (f : Form A) → WritesSome (led w f)
led-some w f a e = omega arith

pub such-only : (p : ℕ → Bool) (q : List ℕ → Bool) → ((w : List ℕ) → q w ≡ true → list_all p w ≡ true)
    → WritesOnly p (such q)
such-only p q passes w e = and_from (list_all p w) true (passes w e) refl

-- ---- forms made of forms

module _ {A B : Type 0} (p : ℕ → Bool) (f : Form A) (g : A → Form B) where
  pub follows-only : WritesOnly p f → ((a : A) → WritesOnly p (g a)) → WritesOnly p (and_what_follows f g)
  follows-only first second x e =
      let parts = and_parts (f.has x.0) ((g x.0).has x.1) e in
      list_all-both (list_all p) (f.write x.0) ((g x.0).write x.1) (first x.0 parts.0) (second x.0 x.1 parts.1)

  pub follows-some : WritesSome f → WritesSome (and_what_follows f g)
  follows-some some x e =
      let parts = and_parts (f.has x.0) ((g x.0).has x.1) e in
      omega (arith, some x.0 parts.0, length-append (f.write x.0) ((g x.0).write x.1))

pub and_then-only : {A B : Type 0} (p : ℕ → Bool) (f : Form A) (g : Form B) → WritesOnly p f → WritesOnly p g
    → WritesOnly p (and_then f g)
and_then-only p f g first second = follows-only p f (λ a. g) first (λ a. second)

pub and_then-some : {A B : Type 0} (f : Form A) (g : Form B) → WritesSome f → WritesSome (and_then f g)
and_then-some f g some = follows-some (λ b. true) f (λ a. g) some

pub as_value-only : {A B : Type 0} (p : ℕ → Bool) (t : A → B) (u : B → A) (f : Form A) → WritesOnly p f
    → WritesOnly p (as_value t u f)
as_value-only p t u f only b e = only (u b) e

flat_map-only : {A : Type 0} (p : ℕ → Bool) (f : Form A) → WritesOnly p f → (xs : List A) → list_all f.has xs ≡ true
    → list_all (list_all p) (flat_map f.write xs) ≡ true
flat_map-only p f only [] all = refl
flat_map-only p f only (x ∷ xs) all =
    let parts = and_parts (f.has x) (list_all f.has xs) all in
    list_all-both (list_all p) (f.write x) (flat_map f.write xs) (only x parts.0) (flat_map-only p f only xs parts.1)

pub many-only : {A : Type 0} (p : ℕ → Bool) (f : Form A) (n : ℕ) → WritesOnly p f → WritesOnly p (many f n)
many-only p f n only xs e = flat_map-only p f only xs (and_parts _ (list_all f.has xs) e).1

pub led_or-only : {A B : Type 0} (p : ℕ → Bool) (w : List ℕ) (f : Form A) (g : Form B) → list_all p w ≡ true
    → WritesOnly p f → WritesOnly p g → WritesOnly p (led_or w f g)
led_or-only p w f g all first second (inl a) e =
    and_from (list_all p w) (list_all (list_all p) (f.write a)) all (first a e)
led_or-only p w f g all first second (inr b) e = second b e

-- ---- joined

join_with_byte-only : (p : ℕ → Bool) (between : ℕ) → p between ≡ true → (ws : List (List ℕ))
    → list_all (list_all p) ws ≡ true → list_all p (join_with_byte between ws) ≡ true
join_with_byte-only p between passes [] all = refl
join_with_byte-only p between passes (w ∷ []) all = (and_parts (list_all p w) true all).0
join_with_byte-only p between passes (w ∷ v ∷ ws) all =
    let parts = and_parts (list_all p w) (list_all (list_all p) (v ∷ ws)) all in
    list_all-both p w (between ∷ join_with_byte between (v ∷ ws)) parts.0
    (and_from (p between) _ passes (join_with_byte-only p between passes (v ∷ ws) parts.1))

pub joined_words-only : {A : Type 0} (p : ℕ → Bool) (between : ℕ) (f : Form A) → p between ≡ true → WritesOnly p f
    → (a : A) → f.has a ≡ true → list_all p (joined_words between f a) ≡ true
joined_words-only p between f passes only a e = join_with_byte-only p between passes (f.write a) (only a e)

pub joined-only : {A : Type 0} (p : ℕ → Bool) (between : ℕ) (f : Form A) → p between ≡ true → WritesOnly p f
    → WritesOnly p (joined between f)
joined-only p between f passes only a e =
    and_from (list_all p (joined_words between f a)) true (joined_words-only p between f passes only a e) refl
