-- The messages that the clones of a half take, after the pending messages were cut to it.
use Rattle.std.proofs.Common.{◌≡◌, ℕ, List, [], ◌∷◌, Option, Some, None, Bool}
use Rattle.std.proofs.Common.{true, false, ◌&&◌, cond, refl, sym, ap, ◌∙◌}
use Rattle.std.specs.Prelude.{option_map}
use Rattle.std.specs.List.{AllByRecursion, cons_option}
use Rattle.std.proofs.lemmas.Bool.{and_parts}
use Rattle.sim_base.specs.Pending.{cut_by}
use Rattle.sim_base.specs.Marked.{MeetsMarks}
use Rattle.run_laws.specs.Copies.{part}
use Rattle.run_laws.proofs.Parts.{part_no}

-- ---- &&

-- if the second of two tests passes, both do if the first does
pub and-second : (a b : Bool) → b ≡ true → (a && b) ≡ a
and-second true b h = h
and-second false b h = refl

-- ---- cut_by

module _ {M K : Type 0} {has : K → ℕ → Bool} {meet : K → K → Option K} (meets : MeetsMarks has meet) (by : K) where
  module _ (p : M → ℕ → Bool) (c : ℕ) (here : has by c ≡ true) where
    -- a clone takes a message whose marks have it, on a condition
    abbrev takes_if : M → K → ℕ → Bool
    takes_if m k c = has k c && p m c

    -- by the marks that the first message shares with the set
    cut_one : (r : Option K) (m : M) (k : K) (q : List (M × K)) → meet k by ≡ r →
        part takes_if c (cons_option (option_map (λ u. (m, u)) r) q) ≡ part takes_if c ((m, k) ∷ q)
    cut_one None m k q e = sym (part_no takes_if c (m, k) q
        (ap (λ b. b && p m c) (sym (and-second (has k c) (has by c) here) ∙ meets.none k by e c)))
    cut_one (Some u) m k q e = ap (λ b. cond (b && p m c) (m ∷ part takes_if c q) (part takes_if c q))
        (meets.some k by u e c ∙ and-second (has k c) (has by c) here)

    -- a clone of the set takes the same of the cut messages as of the whole
    pub part-cut_by : (q : List (M × K)) → part takes_if c (cut_by meet by q) ≡ part takes_if c q
    part-cut_by [] = refl
    part-cut_by (x ∷ q) = cut_one (meet x.1 by) x.0 x.1 (cut_by meet by q) refl
        ∙ ap (λ l. cond (takes_if x.0 x.1 c) (x.0 ∷ l) l) (part-cut_by q)

  -- the marks are of clones of the set
  abbrev Within : M × K → Type 0
  Within x = (c : ℕ) → has x.1 c ≡ true → has by c ≡ true

  -- so it is with one more message, by the marks that it shares with the set
  one_within : (r : Option K) (m : M) (k : K) (q : List (M × K)) → meet k by ≡ r → AllByRecursion Within q →
      AllByRecursion Within (cons_option (option_map (λ u. (m, u)) r) q)
  one_within None m k q e f = f
  one_within (Some u) m k q e f = (λ c h. (and_parts (has k c) (has by c) (sym (meets.some k by u e c) ∙ h)).1, f)

  -- and no other clone is in the marks of the cut messages
  pub cut_by-within : (q : List (M × K)) → AllByRecursion Within (cut_by meet by q)
  cut_by-within [] = tt
  cut_by-within (x ∷ q) = one_within (meet x.1 by) x.0 x.1 (cut_by meet by q) refl (cut_by-within q)
