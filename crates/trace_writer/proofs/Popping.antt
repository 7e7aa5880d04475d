-- The least word determines the first entry of all, and a cursor's invariant is kept.
use Rattle.std.proofs.Common.{◌≡◌, ◌⊎◌, ℕ, zero, suc, ◌%◌, ◌<◌, ◌≤◌, List, [], ◌∷◌}
use Rattle.std.proofs.Common.{inl, inr, refl, sym, ap, ◌∙◌, subst, arith, length, get_or, set, ◌-◌}
use Rattle.std.specs.Cmp.{IsTotalOrder}
use Rattle.std.specs.Ordering.{ordering_reverse}
use Rattle.std.specs.declared.cmp.Ordering.TheVariants.{Less, Equal, Greater}
use Rattle.std.proofs.lemmas.Bool.{cases_eq, cases_lt}
use Rattle.std.proofs.lemmas.List.{length-set, get_or-set_same, get_or-set_other, get_or_past}
use Rattle.sim_base.specs.KeyWords.{FitsWord, key_word}
use Rattle.sim_base.specs.declared.message.Msg.{Msg}
use Rattle.sim_base.proofs.KeyWords.{words-ordered}
use Rattle.sim_base.specs.declared.message.TheConstants.{WORD_PLACES}
use Rattle.sim_base.specs.declared.entry.Line.{Line}
use Rattle.sim_base.proofs.ListLaws.{all_set}
use Rattle.sim_base.proofs.OrderLaws.{entry_total}
use Rattle.log_chain.specs.Packing.{FitWords}
use Rattle.trace_writer.specs.Tournament.{IsLeastWord}
use Rattle.trace_writer.specs.Words.{by_key, word_of, merge_all, AllFitWords}
use Rattle.trace_writer.specs.Cursors.{IsCursor}
use Rattle.trace_writer.specs.declared.tree.TheConstants.{NO_WORD}
use Rattle.trace_writer.proofs.Merged.{E, first_of_all, none_of_all}

-- ---- by_key

-- the order of entries by key is total
keys_total : IsTotalOrder by_key
keys_total = entry_total (λ (m : Msg). m.key.time) (λ m. m.key.sender) (λ m. m.key.number) Line

-- ---- key_word

-- an entry of a lesser word does not come after
less_word : (p q : ℕ) (e f : E) → FitsWord e.msg.key → FitsWord f.msg.key → p < WORD_PLACES → q < WORD_PLACES
    → key_word p e.msg.key < key_word q f.msg.key → (by_key e f ≡ Less) ⊎ (by_key e f ≡ Equal)
less_word p q e f a b l k h = elim (words-ordered p q e.msg.key f.msg.key a b l k h) [
  | inl d ↦ inl d
  | inr d ↦ inr d.0
]

-- and one of a later place comes before
greater_word : (p q : ℕ) (e f : E) → FitsWord e.msg.key → FitsWord f.msg.key → p < WORD_PLACES → q < p
    → key_word p e.msg.key < key_word q f.msg.key → by_key f e ≡ Greater
greater_word p q e f a b l k h = elim (words-ordered p q e.msg.key f.msg.key a b l (omega arith) h) [
  | inl d ↦ keys_total.antisymm f e ∙ ap ordering_reverse d
  | inr d ↦ let below = d.1 in absurd (omega (arith, below, k))
]

-- ---- AllFitWords

-- if the keys of all lists fit words, those of the list at a place do
pub fit_at : (ls : List (List E)) (i : ℕ) → AllFitWords ls → FitWords (get_or ls i [])
fit_at [] i h = tt
fit_at (l ∷ ls) zero h = h.0
fit_at (l ∷ ls) (suc i) h = fit_at ls i h.1

-- the first of a list fits a word
fit_first : (ls : List (List E)) (i : ℕ) (e : E) (es : List E) → AllFitWords ls → get_or ls i [] ≡ e ∷ es
    → FitsWord e.msg.key
fit_first ls i e es h is = let all : FitWords (e ∷ es) = subst FitWords is (fit_at ls i h) in all.0

-- ---- IsLeastWord

module _ (w : ℕ) (words : List ℕ) (ls : List (List E)) (reserved most : ℕ) (c : IsCursor ls words reserved most)
    (h : IsLeastWord w words) where
  -- the words are few
  length-words : length words ≤ WORD_PLACES
  length-words = c.at_most

  -- and there is one for each list
  place : length ls ≤ length words
  place = let a = c.within in let b = c.in_range in omega (arith, a, b)

  -- no list's word is less
  not_less : (j : ℕ) → j < length words → w ≤ word_of j (get_or ls j [])
  not_less j l = let a = h.least j l in let b = c.words_are j l in omega (arith, a, b)

  -- the least word determines its list
  at_place : word_of h.place (get_or ls h.place []) ≡ w
  at_place = sym (c.words_are h.place h.in_range) ∙ h.is

  -- the least word is that of the list whose place it has
  word_of-list : (l : List E) → get_or ls h.place [] ≡ l → word_of h.place l ≡ w → w % WORD_PLACES < length ls →
      word_of (w % WORD_PLACES) (get_or ls (w % WORD_PLACES) []) ≡ w
  word_of-list (x ∷ xs) is e there =
      let p = h.in_range in
      let same : w % WORD_PLACES ≡ h.place = omega (arith, e, p, length-words) in
      ap (λ i. word_of i (get_or ls i [])) same ∙ at_place
  word_of-list [] is e there =
      let last : w % WORD_PLACES ≡ WORD_PLACES - 1 = omega (arith, e) in
      let le = not_less (w % WORD_PLACES) (omega (arith, there, place)) in
      greatest (get_or ls (w % WORD_PLACES) []) (fit_at ls (w % WORD_PLACES) c.fit) le
    where
      -- no word is greater
      greatest : (l : List E) → FitWords l → w ≤ word_of (w % WORD_PLACES) l → word_of (w % WORD_PLACES) l ≡ w
      greatest [] fit le = e
      greatest (y ∷ ys) fit le =
          let a = fit.0.time in let b = fit.0.sender in let d = fit.0.number in
          omega (arith, a, b, d, le, e)

  -- so is the word of the list at its place, if there is such a list
  word_of-place : w % WORD_PLACES < length ls → word_of (w % WORD_PLACES) (get_or ls (w % WORD_PLACES) []) ≡ w
  word_of-place = word_of-list (get_or ls h.place []) refl at_place

  -- so that list's first entry is the first of all
  pub merge_all-first : (e : E) (es : List E) → w % WORD_PLACES < length ls →
      get_or ls (w % WORD_PLACES) [] ≡ e ∷ es → merge_all ls ≡ e ∷ merge_all (set ls (w % WORD_PLACES) es)
  merge_all-first e es there is =
      let i : ℕ = w % WORD_PLACES in
      let word : key_word i e.msg.key ≡ w = sym (ap (word_of i) is) ∙ word_of-place there in
      let fe : FitsWord e.msg.key = fit_first ls i e es c.fit is in
      first_of_all [] i ls e es there is (λ f fs q. let a : ⊥ = cc in absurd a)
      (λ j before f fs q.
      let le = not_less j (omega (arith, before, there, place)) in
      let wf = ap (word_of j) q in
      greater_word i j e f fe (fit_first ls j f fs c.fit q) (omega (arith, there, place, length-words)) before
      (omega (arith, word, le, wf, before, there, place, length-words)))
      (λ j behind lj f fs q.
      let le = not_less j (omega (arith, lj, place)) in
      let wf = ap (word_of j) q in
      less_word i j e f fe (fit_first ls j f fs c.fit q) (omega (arith, there, place, length-words))
      (omega (arith, lj, place, length-words))
      (omega (arith, word, le, wf, behind, lj, place, length-words)))

  -- if that list has nothing left, the word is the greatest
  greatest_of : (l : List E) → get_or ls h.place [] ≡ l → word_of h.place l ≡ w → get_or ls (w % WORD_PLACES) [] ≡ []
      → w ≡ NO_WORD
  greatest_of [] is e none = sym e
  greatest_of (x ∷ xs) is e none =
      let p = h.in_range in
      let same : w % WORD_PLACES ≡ h.place = omega (arith, e, p, length-words) in
      let q : get_or ls h.place [] ≡ [] = subst (λ i. get_or ls i [] ≡ []) same none in
      let a : ⊥ = cc in absurd a

  -- and no list has anything left
  nothing_at : (j : ℕ) (l : List E) → j < length ls → get_or ls j [] ≡ l → get_or ls (w % WORD_PLACES) [] ≡ [] → l ≡ []
  nothing_at j [] lj is none = refl
  nothing_at j (f ∷ fs) lj is none =
      let top : w ≡ NO_WORD = greatest_of (get_or ls h.place []) refl at_place none in
      let le = not_less j (omega (arith, lj, place)) in
      let wf = ap (word_of j) is in
      let ff = fit_first ls j f fs c.fit is in
      let a = ff.time in let b = ff.sender in let d = ff.number in
      let same : w % WORD_PLACES ≡ j = omega (arith, top, le, wf, a, b, d, lj, place, length-words) in
      let q : get_or ls j [] ≡ [] = subst (λ i. get_or ls i [] ≡ []) same none in
      let x : ⊥ = cc in absurd x

  -- no list has an entry left if the list of the least word has none
  pub merge_all-none : get_or ls (w % WORD_PLACES) [] ≡ [] → merge_all ls ≡ []
  merge_all-none none = none_of_all ls (λ j lj. nothing_at j (get_or ls j []) lj refl none)

  -- nor if there is no such list
  pub merge_all-past : length ls ≤ w % WORD_PLACES → merge_all ls ≡ []
  merge_all-past past = merge_all-none (get_or_past ls (w % WORD_PLACES) [] past)

  -- the least word is that of the first entry of all
  pub next_word : w ≡ word_of (w % WORD_PLACES) (merge_all ls)
  next_word = by (get_or ls (w % WORD_PLACES) []) refl
    where
      -- by the entries of its list
      by : (l : List E) → get_or ls (w % WORD_PLACES) [] ≡ l → w ≡ word_of (w % WORD_PLACES) (merge_all ls)
      by [] none = greatest_of (get_or ls h.place []) refl at_place none
          ∙ sym (ap (word_of (w % WORD_PLACES)) (merge_all-none none))
      by (e ∷ es) is = elim (cases_lt (w % WORD_PLACES) (length ls)) [
        | inl there ↦
            sym (word_of-place there) ∙ ap (word_of (w % WORD_PLACES)) is
            ∙ sym (ap (word_of (w % WORD_PLACES)) (merge_all-first e es there is))
        | inr past ↦ let none = get_or_past ls (w % WORD_PLACES) [] past in let a : ⊥ = cc in absurd a
      ]

  -- if an entry is left, the least word has the place of a list
  pub least-there : 1 ≤ length (merge_all ls) → w % WORD_PLACES < length ls
  least-there some = elim (cases_lt (w % WORD_PLACES) (length ls)) [
    | inl l ↦ l
    | inr l ↦ let e = ap length (merge_all-past l) in absurd (omega (arith, e, some))
  ]

  -- which has one
  pub least-some : 1 ≤ length (merge_all ls) → 1 ≤ length (get_or ls (w % WORD_PLACES) [])
  least-some some = by (get_or ls (w % WORD_PLACES) []) refl
    where
      -- by the entries of that list
      by : (l : List E) → get_or ls (w % WORD_PLACES) [] ≡ l → 1 ≤ length l
      by [] e = let n = ap length (merge_all-none e) in absurd (omega (arith, n, some))
      by (x ∷ xs) e = omega arith

-- ---- IsCursor

-- after a list's entries are replaced, and its word set
pub cursor_set : (ls : List (List E)) (words : List ℕ) (reserved most i : ℕ) (l : List E) →
    IsCursor ls words reserved most →
    i < length ls → FitWords l → IsCursor (set ls i l) (set words i (word_of i l)) reserved most
cursor_set ls words reserved most i l c there fit =
    let place : length ls ≤ length words = let a = c.within in let b = c.in_range in omega (arith, a, b) in
    let long_ls = length-set ls i l in
    let long_words = length-set words i (word_of i l) in
    record {
      at_most = let a = c.at_most in omega (arith, a, long_words);
      within = let a = c.within in omega (arith, a, long_ls);
      in_range = let a = c.in_range in omega (arith, a, long_words);
      enough = c.enough;
      fit = all_set FitWords ls i l c.fit fit;
      words_are = λ j lj. elim (cases_eq j i) [
        | inl e ↦
            let a = get_or-set_same words i (word_of i l) 0 (omega (arith, there, place)) in
            let b = get_or-set_same ls i l [] there in
            subst (λ k. get_or (set words i (word_of i l)) k 0 ≡ word_of k (get_or (set ls i l) k [])) (sym e)
            (a ∙ ap (word_of i) (sym b))
        | inr n ↦
            let a = get_or-set_other words i j (word_of i l) 0 n in
            let b = get_or-set_other ls i j l [] n in
            a ∙ (c.words_are j (omega (arith, lj, long_words)) ∙ ap (word_of j) (sym b))
      ];
    }
