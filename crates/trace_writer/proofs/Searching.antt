-- The search for the first entry that is not before a word.
use Rattle.std.proofs.Common.{◌≡◌, ℕ, zero, suc, ◌+◌, ◌<◌, ◌≤◌, true, false, nat_lt, not, List, [], ◌∷◌, ◌++◌, Some}
use Rattle.std.proofs.Common.{inl, inr, refl, sym, ap, ap₂, ◌∙◌, subst, arith, length, take, drop, get_or}
use Rattle.std.proofs.Common.{slice_get, option_map}
use Rattle.std.specs.List.{AllByRecursion}
use Rattle.std.proofs.lemmas.Bool.{lt-ltb, le-ltb}
use Rattle.std.proofs.lemmas.List.{take-append-drop, take_more}
use Rattle.std.proofs.lemmas.List.Elements.{filter-append}
use Rattle.std.proofs.lemmas.Option.{same_Some}
use Rattle.sim_base.specs.declared.message.Key.{Key}
use Rattle.sim_base.specs.KeyWords.{FitsWord}
use Rattle.sim_base.proofs.ListLaws.{all_append, all_weaker}
use Rattle.run_laws.specs.Queue.{In}
use Rattle.run_laws.proofs.Queue.{all_in}
use Rattle.run_laws.proofs.Lists.{filter_all, filter_none}
use Rattle.log_chain.specs.Packing.{FitWords}
use Rattle.run_laws.specs.Beginnings.{from, Rise}
use Rattle.trace_writer.specs.Words.{entry_word}
use Rattle.trace_writer.proofs.Merged.{E}

-- ---- the next entry

-- the first entry of a list, if there is one, by its key
pub record StartsWith (key : Key) (es : List E) : Type 0 where
  pub first : E
  pub rest : List E
  pub is : es ≡ first ∷ rest
  pub key_is : first.msg.key ≡ key

-- a list whose first key is this one
pub starts_with : (es : List E) (key : Key) → Some key ≡ option_map (λ (e : E). e.msg.key) (slice_get es 0)
    → StartsWith key es
starts_with [] key h = let a : ⊥ = cc in absurd a
starts_with (e ∷ es) key h = record { first = e; rest = es; is = refl; key_is = sym (same_Some key e.msg.key h) }

-- ---- drop

-- the keys of a rest fit words, if all do
pub fit_drop : (n : ℕ) (es : List E) → FitWords es → FitWords (drop n es)
fit_drop zero es h = h
fit_drop (suc n) [] h = h
fit_drop (suc n) (e ∷ es) h = fit_drop n es h.1

-- a rest that is not empty begins within the list, and goes on one place later
pub drop_next : (n : ℕ) (es : List E) (e : E) (rest : List E) → drop n es ≡ e ∷ rest
    → (n + 1 ≤ length es) × (drop (n + 1) es ≡ rest)
drop_next zero [] e rest h = let a : ⊥ = cc in absurd a
drop_next zero (f ∷ fs) e rest h = (omega arith, (let a : fs ≡ rest = cc in a))
drop_next (suc n) [] e rest h = let a : ⊥ = cc in absurd a
drop_next (suc n) (f ∷ fs) e rest h =
    let k = drop_next n fs e rest h in
    let l = k.0 in
    let m : suc n + 1 ≡ suc (n + 1) = omega arith in
    (omega (arith, l), ap (λ i. drop i (f ∷ fs)) m ∙ k.1)

-- the first entry of a rest is in the list
in_rest : (n : ℕ) (es : List E) (e : E) (rest : List E) → drop n es ≡ e ∷ rest → In e es
in_rest zero [] e rest h = let a : ⊥ = cc in absurd a
in_rest zero (f ∷ fs) e rest h = let a : e ≡ f = cc in inl a
in_rest (suc n) [] e rest h = let a : ⊥ = cc in absurd a
in_rest (suc n) (f ∷ fs) e rest h = inr (in_rest n fs e rest h)

-- the first key of a rest fits a word
pub fits_first : (es : List E) (key : Key) → FitWords es → StartsWith key es → FitsWord key
fits_first es key fit h =
    let all : FitWords (h.first ∷ h.rest) = subst FitWords h.is fit in
    subst FitsWord h.key_is all.0

-- ---- search by word

-- the entries before an entry come before it
before_it : (n : ℕ) (es : List E) (e : E) (rest : List E) → Rise entry_word es → drop n es ≡ e ∷ rest
    → AllByRecursion (λ f. entry_word f < entry_word e) (take n es)
before_it zero es e rest s h = tt
before_it (suc n) [] e rest s h = tt
before_it (suc n) (f ∷ fs) e rest s h = (
  all_in (λ g. entry_word f < entry_word g) fs e s.0 (in_rest n fs e rest h),
  before_it n fs e rest s.1 h,
)

-- those up to it are before a word, if it is
pub up_to : (n w : ℕ) (es : List E) (e : E) (rest : List E) → Rise entry_word es → drop n es ≡ e ∷ rest
    → entry_word e < w
    → AllByRecursion (λ f. entry_word f < w) (take (n + 1) es)
up_to n w es e rest s h l =
    let k = drop_next n es e rest h in
    let long = k.0 in
    let here : get_or es n e ≡ e = get_first n es e rest h in
    subst (AllByRecursion (λ f. entry_word f < w)) (sym (take_more es n e (omega (arith, long))))
    (all_append (λ f. entry_word f < w) (take n es) (get_or es n e ∷ [])
    (all_weaker (λ f. entry_word f < entry_word e) (λ f. entry_word f < w) (take n es) (λ f m. omega (arith, m, l))
    (before_it n es e rest s h))
    (subst (λ (f : E). entry_word f < w) (sym here) l, tt))
  where
    get_first : (n : ℕ) (es : List E) (e : E) (rest : List E) → drop n es ≡ e ∷ rest → get_or es n e ≡ e
    get_first zero [] e rest h = let a : ⊥ = cc in absurd a
    get_first zero (f ∷ fs) e rest h = let a : f ≡ e = cc in a
    get_first (suc n) [] e rest h = let a : ⊥ = cc in absurd a
    get_first (suc n) (f ∷ fs) e rest h = get_first n fs e rest h

-- the words of a rest rise
pub rise_drop : (n : ℕ) (es : List E) → Rise entry_word es → Rise entry_word (drop n es)
rise_drop zero es s = s
rise_drop (suc n) [] s = tt
rise_drop (suc n) (e ∷ es) s = rise_drop n es s.1

-- those from it on are not before a word, if it is not
pub from_it : (n w : ℕ) (es : List E) (e : E) (rest : List E) → Rise entry_word es → drop n es ≡ e ∷ rest
    → w ≤ entry_word e
    → AllByRecursion (λ f. w ≤ entry_word f) (drop n es)
from_it n w es e rest s h l =
    let r : Rise entry_word (e ∷ rest) = subst (Rise entry_word) h (rise_drop n es s) in
    subst (AllByRecursion (λ f. w ≤ entry_word f)) (sym h)
    (l, all_weaker (λ f. entry_word e < entry_word f) (λ f. w ≤ entry_word f) rest (λ f m. omega (arith, m, l)) r.0)

-- a list whose first part is before a word, and whose rest is not
pub from_place : (n w : ℕ) (es : List E) → AllByRecursion (λ f. entry_word f < w) (take n es)
    → AllByRecursion (λ f. w ≤ entry_word f) (drop n es) → from entry_word w es ≡ drop n es
from_place n w es a b =
    ap (from entry_word w) (sym (take-append-drop n es))
    ∙ filter-append (λ f. not (nat_lt (entry_word f) w)) (take n es) (drop n es)
    ∙ ap₂ (λ x y. x ++ y)
    (filter_none (λ f. not (nat_lt (entry_word f) w)) (take n es)
    (all_weaker (λ f. entry_word f < w) (λ f. not (nat_lt (entry_word f) w) ≡ false) (take n es)
    (λ f l. ap not (lt-ltb (entry_word f) w l)) a))
    (filter_all (λ f. not (nat_lt (entry_word f) w)) (drop n es)
    (all_weaker (λ f. w ≤ entry_word f) (λ f. not (nat_lt (entry_word f) w) ≡ true) (drop n es)
    (λ f l. ap not (le-ltb (entry_word f) w l)) b))
