-- A set's size is the number of its clones.
use Rattle.std.proofs.Common.{◌≡◌, ◌≢◌, inl, inr, ℕ, zero, suc, ◌+◌, ◌/◌, ◌^◌, ◌<◌, ◌≤◌}
use Rattle.std.proofs.Common.{Bool, true, false, List, [], ◌∷◌, length, refl, sym, ap, ◌∙◌, arith}
use Rattle.std.specs.Prelude.{count_ones}
use Rattle.std.proofs.lemmas.Bool.{cases_eq}
use Rattle.sim_base.specs.Counts.{In, Apart, IsCount}
use Rattle.sim_base.proofs.Elements.{in_cons_if, cons_if_old, cons_if_new}
use Rattle.clone_sets.specs.Sets.{has, empty, size}
use Rattle.clone_sets.proofs.SetLaws.{below_limit}
use Rattle.clone_sets.proofs.SizeLaws.{below_pow, size_some}
use Rattle.clone_sets.proofs.MemberLaws.{cons_if, members_among, length-members_among}

-- ---- Apart

-- no element occurs twice if the head is not one of the rest
Apart-cons_if : (b : Bool) (c : ℕ) (xs : List ℕ) → (In c xs → ⊥) → Apart xs → Apart (cons_if b c xs)
Apart-cons_if true c xs n a = (n, a)
Apart-cons_if false c xs n a = a

-- ---- members_among

-- the clones of the set among the k numbers from c on are in the set, and not below c
among_has : (k c s d : ℕ) → In d (members_among k c s) → (has s d ≡ true) × (c ≤ d)
among_has zero c s d h = absurd h
among_has (suc k) c s d h =
    elim (in_cons_if (has s c) c (members_among k (c + 1) s) d h) [
      | inl e ↦ (ap (has s) e.1 ∙ e.0, omega (arith, e.1))
      | inr i ↦ let later = among_has k (c + 1) s d i in (later.0, omega (arith, later.1))
    ]

-- each clone of the set there is one of these
has_among : (k c s d : ℕ) → c ≤ d → d < c + k → has s d ≡ true → In d (members_among k c s)
has_among zero c s d l m h = absurd (omega arith)
has_among (suc k) c s d l m h =
    elim (cases_eq d c) [
      | inl e ↦ cons_if_new (has s c) c (members_among k (c + 1) s) d (ap (has s) (sym e) ∙ h) e
      | inr ne ↦ cons_if_old (has s c) c (members_among k (c + 1) s) d
          (has_among k (c + 1) s d (omega arith) (omega arith) h)
    ]

-- none of them occurs twice
apart_among : (k c s : ℕ) → Apart (members_among k c s)
apart_among zero c s = tt
apart_among (suc k) c s =
    Apart-cons_if (has s c) c (members_among k (c + 1) s)
    (λ i. let later : c + 1 ≤ c = (among_has k (c + 1) s c i).1 in omega (arith, later)) (apart_among k (c + 1) s)

-- ---- size

-- a clone of the set is below the set's number
has_below : (s c : ℕ) → has s c ≡ true → c < s
has_below s c h = below_limit s s c (below_pow s) h

-- the size is a count
pub size_is_count : (s : ℕ) → IsCount (λ c. has s c ≡ true) (size s)
unfolding size
size_is_count s =
    let all : s / 2 ^ 0 ≡ s = omega arith in record {
      members = members_among s 0 s;
      apart = apart_among s 0 s;
      exact = λ c i. (among_has s 0 s c i).0;
      all = λ c h. has_among s 0 s c (omega arith) (omega (arith, has_below s c h)) h;
      number = length-members_among s 0 s (omega (arith, below_pow s)) ∙ ap count_ones all;
    }

-- if the count is above 0, an element has the property
counted_some : (P : ℕ → Type 0) (n : ℕ) (xs : List ℕ) → length xs ≡ n → 0 < n → ((x : ℕ) → In x xs → P x)
    → (c : ℕ) × P c
counted_some P n [] e some exact = absurd (omega (arith, e))
counted_some P n (x ∷ xs) e some exact = (x, exact x (inl refl))

-- a set that is not empty has a clone
pub set_has_clone : (s : ℕ) → s ≢ empty → (c : ℕ) × (has s c ≡ true)
set_has_clone s ne =
    let k = size_is_count s in counted_some (λ c. has s c ≡ true) (size s) k.members k.number (size_some s ne) k.exact
