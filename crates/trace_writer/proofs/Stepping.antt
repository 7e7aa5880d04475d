-- The results of a cursor's step, from those of the next walk; and of adding a list.
use Rattle.std.proofs.Common.{◌≡◌, ℕ, ◌+◌, ◌%◌, ◌<◌, ◌≤◌, List, [], ◌∷◌, ◌++◌}
use Rattle.std.proofs.Common.{refl, sym, ap, ◌∙◌, subst, arith, length, get_or, set, Option, Some, None}
use Rattle.std.specs.Prelude.{IfSome, IfNone}
use Rattle.std.proofs.lemmas.List.{get_or-set_same, get_or_default, set-get_or, length-set, length_push}
use Rattle.sim_base.specs.declared.message.TheConstants.{WORD_PLACES}
use Rattle.run_laws.specs.Merges.{merge}
use Rattle.log_chain.specs.Packing.{FitWords}
use Rattle.trace_writer.specs.Tournament.{IsLeastWord}
use Rattle.trace_writer.specs.Words.{by_key, word_of, merge_all}
use Rattle.trace_writer.specs.Cursors.{CursorView, IsCursor, IsNextWord}
use Rattle.trace_writer.specs.declared.tree.TheConstants.{NO_WORD}
use Rattle.trace_writer.proofs.Merged.{E, merge_more}
use Rattle.trace_writer.proofs.Popping.{fit_at, merge_all-first, merge_all-none, least-there, least-some, cursor_set}

-- ---- CursorView

-- the view of these parts
abbrev cursor_view : List E → ℕ → ℕ → CursorView
cursor_view left logs most = record { left = left; logs = logs; most = most }

-- the view of these lists, with this number of places
abbrev view_of : List (List E) → ℕ → CursorView
view_of ls most = record { left = merge_all ls; logs = length ls; most = most }

-- two views are equal if their parts are
cursor_view-same : (a b : List E) (m n p q : ℕ) → a ≡ b → m ≡ n → p ≡ q → cursor_view a m p ≡ cursor_view b n q
cursor_view-same a b m n p q x y z =
    ap (λ l. cursor_view l m p) x ∙ (ap (λ k. cursor_view b k p) y ∙ ap (λ k. cursor_view b n k) z)

-- ---- a step, by the result of the next walk

module _ (ls : List (List E)) (words : List ℕ) (reserved most : ℕ) (c : IsCursor ls words reserved most)
    (w : ℕ) (h : IsLeastWord w words)
    (there : w % WORD_PLACES < length ls) (old new : List E) (at : old ≡ get_or ls (w % WORD_PLACES) old) (r : Option E)
    (some : IfSome r (λ e. old ≡ e ∷ new)) (none : IfNone r ((old ≡ []) × (new ≡ []))) where
  -- the place in the least word
  abbrev i : ℕ
  i = w % WORD_PLACES

  -- the list there
  at_first : get_or ls i [] ≡ old
  at_first = sym (at ∙ get_or_default ls i old [] there)

  -- the keys that are left fit words
  new_fits : (r : Option E) → IfSome r (λ e. old ≡ e ∷ new) → IfNone r ((old ≡ []) × (new ≡ [])) → FitWords new
  new_fits (Some e) some none =
      let all : FitWords (e ∷ new) = subst FitWords (at_first ∙ some) (fit_at ls i c.fit) in
      all.1
  new_fits None some none = subst FitWords (sym none.1) tt

  -- a cursor is left
  pub cursor-next : (now : List ℕ) (word : ℕ) (here : List E) → here ≡ get_or (set ls i new) i here
      → word ≡ word_of i here →
      now ≡ set words i word → IsCursor (set ls i new) now reserved most
  cursor-next now word here is a b =
      let same : here ≡ new = is ∙ get_or-set_same ls i new here there in
      subst (λ l. IsCursor (set ls i new) l reserved most) (sym (b ∙ ap (set words i) (a ∙ ap (word_of i) same)))
      (cursor_set ls words reserved most i new c there (new_fits r some none))

  -- with an entry less
  some_of : (r : Option E) → IfSome r (λ e. old ≡ e ∷ new) → IfSome r (λ e. merge_all ls ≡ e ∷ merge_all (set ls i new))
  some_of (Some e) some = merge_all-first w words ls reserved most c h e new there (at_first ∙ some)
  some_of None some = tt

  -- a returned entry is the first that was left, and the others are left then
  pub view-some : (v : CursorView) → view_of ls most ≡ v
      → IfSome r (λ e. v ≡ cursor_view (e ∷ merge_all (set ls i new)) (length (set ls i new)) most)
  view-some v is = by r (some_of r some)
    where
      -- by whether there was an entry
      by : (r : Option E) → IfSome r (λ e. merge_all ls ≡ e ∷ merge_all (set ls i new)) →
          IfSome r (λ e. v ≡ cursor_view (e ∷ merge_all (set ls i new)) (length (set ls i new)) most)
      by (Some e) k = sym is ∙ cursor_view-same (merge_all ls) (e ∷ merge_all (set ls i new)) (length ls)
          (length (set ls i new)) most most k (sym (length-set ls i new)) refl
      by None k = tt

  -- or none, if nothing is left, and then the cursor does not change
  pub view-none : (v : CursorView) → view_of ls most ≡ v → IfNone r ((v.left ≡ []) × (view_of (set ls i new) most ≡ v))
  view-none v is = by r none
    where
      -- by whether there was an entry
      by : (r : Option E) → IfNone r ((old ≡ []) × (new ≡ [])) →
          IfNone r ((v.left ≡ []) × (view_of (set ls i new) most ≡ v))
      by (Some e) k = tt
      by None k =
          let nothing : merge_all ls ≡ [] = merge_all-none w words ls reserved most c h (at_first ∙ k.0) in
          let same : set ls i new ≡ ls = ap (set ls i) (k.1 ∙ sym (at_first ∙ k.0)) ∙ set-get_or ls i [] in
          (sym (ap (λ (u : CursorView). u.left) is) ∙ nothing, ap (λ l. view_of l most) same ∙ is)

-- ---- a cursor that has an entry

module _ (ls : List (List E)) (words : List ℕ) (reserved most : ℕ) (c : IsCursor ls words reserved most)
    (w : ℕ) (h : IsLeastWord w words) (v : CursorView) (is : view_of ls most ≡ v) (some : 1 ≤ length v.left) where
  -- some list has an entry left
  some_left : 1 ≤ length (merge_all ls)
  some_left = let e = ap (λ (u : CursorView). length u.left) is in omega (arith, e, some)

  -- the list that is next is there
  pub next-there : w % WORD_PLACES < length ls
  next-there = least-there w words ls reserved most c h some_left

  -- and has an entry
  pub next-some : (old : List E) → old ≡ get_or ls (w % WORD_PLACES) old → 1 ≤ length old
  next-some old at =
      let e = ap length (at ∙ get_or_default ls (w % WORD_PLACES) old [] next-there) in
      let n = least-some w words ls reserved most c h some_left in
      omega (arith, e, n)

  -- its rest fits words
  pub next-fits : (old new here : List E) (e : E) → old ≡ get_or ls (w % WORD_PLACES) old → old ≡ e ∷ new
      → here ≡ get_or (set ls (w % WORD_PLACES) new) (w % WORD_PLACES) here → FitWords here
  next-fits old new here e at taken is_here =
      let first = sym (at ∙ get_or_default ls (w % WORD_PLACES) old [] next-there) ∙ taken in
      let all : FitWords (e ∷ new) = subst FitWords first (fit_at ls (w % WORD_PLACES) c.fit) in
      subst FitWords (sym (is_here ∙ get_or-set_same ls (w % WORD_PLACES) new here next-there)) all.1

-- ---- view_of

-- the rest after a list was added
pub view_of-add : (ls new : List (List E)) (most : ℕ) (l : List E) (v : CursorView) → view_of ls most ≡ v
    → new ≡ ls ++ l ∷ [] →
    view_of new most ≡ record { left = merge by_key v.left l; logs = v.logs + 1; most = v.most }
view_of-add ls new most l v is a =
    cursor_view-same (merge_all new) (merge by_key v.left l) (length new) (v.logs + 1) most v.most
    (ap merge_all a ∙ (merge_more [] ls l ∙ ap (λ (u : CursorView). merge by_key u.left l) is))
    (ap length a ∙ (length_push ls l ∙ ap (λ (u : CursorView). u.logs + 1) is))
    (ap (λ (u : CursorView). u.most) is)

-- ---- IsNextWord

-- below a limit, the word is that of an entry
pub next_some : (limit word : ℕ) (left : List E) → IsNextWord word left → word < limit → limit ≤ NO_WORD
    → 1 ≤ length left
next_some limit word [] next below all = let is = next.is in absurd (omega (arith, is, below, all))
next_some limit word (e ∷ es) next below all = omega arith
