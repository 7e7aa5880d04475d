-- Texts of the numbers of a range, with one more number.
use Rattle.std.proofs.Common.{◌≡◌, ℕ, zero, suc, ◌+◌, ◌-◌, ◌≤◌, List, [], ◌∷◌, ◌++◌, ap, ◌∙◌, arith, append-nil}
use Rattle.std.specs.List.{flat_map, join_by, range_with_len}
use Rattle.std.proofs.lemmas.Grind.{flat_map-append}
use Rattle.sim_base.proofs.ListLaws.{range_with_len-suc}

-- ---- flat_map

-- the text of one number more comes last
flat_map-more : {A : Type 0} (f : ℕ → List A) (a k : ℕ)
    → flat_map f (range_with_len a (suc k)) ≡ flat_map f (range_with_len a k) ++ f (a + k)
flat_map-more f a k =
    ap (flat_map f) (range_with_len-suc a k)
    ∙ flat_map-append f (range_with_len a k) ((a + k) ∷ [])
    ∙ ap (λ x. flat_map f (range_with_len a k) ++ x) (append-nil (f (a + k)))

-- the texts of the numbers from a up to i are those of the numbers below i, and that of i
pub texts-more : {A : Type 0} (f : ℕ → List A) (a i : ℕ)
    → a ≤ i
    → flat_map f (range_with_len a (i + 1 - a)) ≡ flat_map f (range_with_len a (i - a)) ++ f i
texts-more f a i l =
    let next : i + 1 - a ≡ suc (i - a) = omega arith in
    let last : a + (i - a) ≡ i = omega arith in
    ap (λ k. flat_map f (range_with_len a k)) next
    ∙ flat_map-more f a (i - a)
    ∙ ap (λ x. flat_map f (range_with_len a (i - a)) ++ f x) last

-- ---- join_by

-- the first of some texts, and then each further one after the separator
pub join_by-range : {A : Type 0} (f : ℕ → List A) (between : List A) (n : ℕ)
    → 1 ≤ n
    → join_by f between (range_with_len 1 n)
    ≡ f 1 ++ flat_map (λ i. between ++ f i) (range_with_len 2 (n + 1 - 2))
join_by-range f between zero l = absurd (omega arith)
join_by-range f between (suc k) l =
    let e : k ≡ suc k + 1 - 2 = omega arith in
    ap (λ k. f 1 ++ flat_map (λ i. between ++ f i) (range_with_len 2 k)) e
