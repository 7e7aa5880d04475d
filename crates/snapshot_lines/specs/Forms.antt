-- Forms of words: how a value is written as words, and how it is read from them.
use Rattle.std.specs.Prelude.{◌≡◌, ℕ, zero, suc, ◌≤◌, ◌==◌, ◌&&◌, ◌⊎◌, nat_le, Bool, true, false}
use Rattle.std.specs.Prelude.{if◌then◌else◌, List, [], ◌∷◌, ◌++◌, length, decimal, Option, Some, None}
use Rattle.std.specs.List.{list_all, flat_map, join_with_byte, slice_split}
use Rattle.std.specs.Str.{bytes_eq}
use Rattle.std.specs.Str.Parse.{digits_value}
use Rattle.std.proofs.Common.{inl, inr}

-- the value that words begin with, and the words after it; None if they do not begin with one
abbrev pub Read : Type 0 → Type 0
Read A = Option (A × List (List ℕ))

-- a form: the values that have it, the words of such a value, and the reader of words that begin with one
pub record Form (A : Type 0) : Type 0 where
  pub has : A → Bool
  pub write : A → List (List ℕ)
  pub read : List (List ℕ) → Read A

-- the reader reads every value that was written, whatever follows, and it reads nothing else
pub record IsExact {A : Type 0} (f : Form A) : Type 0 where
  pub back : (a : A) (rest : List (List ℕ)) → f.has a ≡ true → f.read (f.write a ++ rest) ≡ Some (a, rest)
  pub exact : (ws : List (List ℕ)) (a : A) (rest : List (List ℕ)) → f.read ws ≡ Some (a, rest)
      → (f.has a ≡ true) × (ws ≡ f.write a ++ rest)

-- ---- what was read, changed

-- the value by a function
abbrev pub read_as : {A B : Type 0} → (A → B) → Read A → Read B
read_as f None = None
read_as f (Some (a, rest)) = Some (f a, rest)

-- what is read after the value
abbrev pub read_then : {A B : Type 0} → Read A → (A → List (List ℕ) → Read B) → Read B
read_then None f = None
read_then (Some (a, rest)) f = f a rest

-- a value of one word
abbrev pub with_rest : {A : Type 0} → Option A → List (List ℕ) → Read A
with_rest None rest = None
with_rest (Some a) rest = Some (a, rest)

-- the value, if no word is left
abbrev pub whole : {A : Type 0} → Read A → Option A
whole None = None
whole (Some (a, [])) = Some a
whole (Some (a, x ∷ xs)) = None

-- ---- forms of one word

abbrev pub read_such : (List ℕ → Bool) → List (List ℕ) → Read (List ℕ)
read_such p [] = None
read_such p (x ∷ xs) = if p x then Some (x, xs) else None

-- a word that passes a test
abbrev pub such : (List ℕ → Bool) → Form (List ℕ)
such p = record { has = p; write = λ w. w ∷ []; read = read_such p }

-- a word is a number of at most `most` if it is the decimal text of its value
abbrev pub is_number : ℕ → List ℕ → Bool
is_number most w = nat_le (digits_value 10 w) most && bytes_eq w (decimal (digits_value 10 w))

abbrev pub read_number : ℕ → List (List ℕ) → Read ℕ
read_number most [] = None
read_number most (x ∷ xs) = if is_number most x then Some (digits_value 10 x, xs) else None

-- a number of at most `most`, in decimal
abbrev pub number : ℕ → Form ℕ
number most = record { has = λ n. nat_le n most; write = λ n. decimal n ∷ []; read = read_number most }

abbrev pub read_spelled : {A : Type 0} → (List ℕ → Option A) → List (List ℕ) → Read A
read_spelled meaning [] = None
read_spelled meaning (x ∷ xs) = with_rest (meaning x) xs

-- a value with a word of its own, and the value of each such word
abbrev pub spelled : {A : Type 0} → (A → List ℕ) → (List ℕ → Option A) → Form A
spelled spelling meaning = record {
  has = λ a. true;
  write = λ a. spelling a ∷ [];
  read = read_spelled meaning;
}

-- ---- forms of no word

-- nothing is written
abbrev pub nothing : Form (Unit {0})
nothing = record { has = λ u. true; write = λ u. []; read = λ ws. Some (tt, ws) }

-- nothing is written, and the value is n
abbrev pub silent : ℕ → Form ℕ
silent n = record { has = λ a. a == n; write = λ a. []; read = λ ws. Some (n, ws) }

-- ---- forms made of forms

-- the words after the keyword w, if it is the first word
abbrev pub words_after : List ℕ → List (List ℕ) → Option (List (List ℕ))
words_after w [] = None
words_after w (x ∷ xs) = if bytes_eq x w then Some xs else None

abbrev pub read_after : {A : Type 0} → Option (List (List ℕ)) → (List (List ℕ) → Read A) → Read A
read_after None f = None
read_after (Some rest) f = f rest

-- the keyword w, and then a form
abbrev pub led : {A : Type 0} → List ℕ → Form A → Form A
led w f = record { has = f.has; write = λ a. w ∷ f.write a; read = λ ws. read_after (words_after w ws) f.read }

-- one form, and then another
abbrev pub and_then : {A B : Type 0} → Form A → Form B → Form (A × B)
and_then {A} {B} f g = record {
  has = λ p. f.has p.0 && g.has p.1;
  write = λ p. f.write p.0 ++ g.write p.1;
  read = λ ws. read_then (f.read ws) (λ a rest. read_as (λ (b : B). (a, b)) (g.read rest));
}

-- a form, and then one that depends on the first value
abbrev pub and_what_follows : {A B : Type 0} → Form A → (A → Form B) → Form (A × B)
and_what_follows {A} {B} f g = record {
  has = λ p. f.has p.0 && (g p.0).has p.1;
  write = λ p. f.write p.0 ++ (g p.0).write p.1;
  read = λ ws. read_then (f.read ws) (λ a rest. read_as (λ (b : B). (a, b)) ((g a).read rest));
}

-- the same words for other values
abbrev pub as_value : {A B : Type 0} → (A → B) → (B → A) → Form A → Form B
as_value {A} {B} t u f = record {
  has = λ b. f.has (u b);
  write = λ b. f.write (u b);
  read = λ ws. read_as t (f.read ws);
}

abbrev pub read_many : {A : Type 0} → Form A → ℕ → List (List ℕ) → Read (List A)
read_many f zero ws = Some ([], ws)
read_many {A} f (suc n) ws = read_then (f.read ws) (λ (a : A) rest. read_as (λ more. a ∷ more) (read_many f n rest))

-- n values of a form
abbrev pub many : {A : Type 0} → Form A → ℕ → Form (List A)
many f n = record {
  has = λ xs. (length xs == n) && list_all f.has xs;
  write = λ xs. flat_map f.write xs;
  read = read_many f n;
}

abbrev pub read_either : {A B : Type 0} → Option (List (List ℕ)) → (List (List ℕ) → Read A) → Read B → Read (A ⊎ B)
read_either None f other = read_as inr other
read_either (Some rest) f other = read_as inl (f rest)

abbrev pub either_has : {A B : Type 0} → (A → Bool) → (B → Bool) → A ⊎ B → Bool
either_has f g (inl a) = f a
either_has f g (inr b) = g b

abbrev pub either_write : {A B : Type 0} → List ℕ → (A → List (List ℕ)) → (B → List (List ℕ)) → A ⊎ B
    → List (List ℕ)
either_write w f g (inl a) = w ∷ f a
either_write w f g (inr b) = g b

-- a form after the keyword w, or another form
abbrev pub led_or : {A B : Type 0} → List ℕ → Form A → Form B → Form (A ⊎ B)
led_or w f g = record {
  has = either_has f.has g.has;
  write = either_write w f.write g.write;
  read = λ ws. read_either (words_after w ws) f.read (g.read ws);
}

-- the first word that the form writes is not w
abbrev pub IsLedByOthers : {A : Type 0} → List ℕ → Form A → Type 0
IsLedByOthers {A} w f = (a : A) → f.has a ≡ true → (v : List ℕ) × (vs : List (List ℕ)) × (f.write a ≡ v ∷ vs)
    × (bytes_eq v w ≡ false)

-- ---- words with a byte between them

-- the value that words with this byte between them write; None if they write none, or more
abbrev pub said_by : {A : Type 0} → ℕ → Form A → List ℕ → Option A
said_by between f line = whole (f.read (slice_split (λ b. b == between) line))

-- the words of a value, with this byte between them
abbrev pub joined_words : {A : Type 0} → ℕ → Form A → A → List ℕ
joined_words between f a = join_with_byte between (f.write a)

-- every value is read from its joined words, and it is read from nothing else
pub record IsReadJoined {A : Type 0} (between : ℕ) (f : Form A) : Type 0 where
  pub back : (a : A) → f.has a ≡ true → said_by between f (joined_words between f a) ≡ Some a
  pub exact : (line : List ℕ) (a : A) → said_by between f line ≡ Some a
      → (f.has a ≡ true) × (line ≡ joined_words between f a)

-- a line has single spaces between its words
abbrev pub line_says : {A : Type 0} → Form A → List ℕ → Option A
line_says f line = said_by 32 f line

abbrev pub line_of : {A : Type 0} → Form A → A → List ℕ
line_of f a = joined_words 32 f a

abbrev pub read_joined : {A : Type 0} → ℕ → Form A → List (List ℕ) → Read A
read_joined between f [] = None
read_joined between f (x ∷ xs) = with_rest (said_by between f x) xs

-- one word that is made of words with this byte between them
abbrev pub joined : {A : Type 0} → ℕ → Form A → Form A
joined between f = record {
  has = f.has;
  write = λ a. joined_words between f a ∷ [];
  read = read_joined between f;
}

-- ---- the bytes that a form writes

-- each byte of each word passes a test
abbrev pub WritesOnly : {A : Type 0} → (ℕ → Bool) → Form A → Type 0
WritesOnly {A} p f = (a : A) → f.has a ≡ true → list_all (list_all p) (f.write a) ≡ true

-- at least one word is written
abbrev pub WritesSome : {A : Type 0} → Form A → Type 0
WritesSome {A} f = (a : A) → f.has a ≡ true → 1 ≤ length (f.write a)
