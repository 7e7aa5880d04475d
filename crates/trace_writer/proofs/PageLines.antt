-- Pages of the lines of a trace: put, cut off, and kept.
use Rattle.std.proofs.Common.{◌≡◌, ℕ, ◌*◌, ◌/◌, ◌%◌, ◌<◌, ◌≤◌, nat_lt, true, false, min, List, [], ◌∷◌, ◌++◌, inl, inr}
use Rattle.std.proofs.Common.{refl, sym, ap, ap₂, ◌∙◌, subst}
use Rattle.std.proofs.Common.{arith, length, length-append, take, append-nil, append_assoc}
use Rattle.std.specs.List.{AllByRecursion}
use Rattle.std.proofs.lemmas.Bool.{lt-ltb, le-ltb}
use Rattle.std.proofs.lemmas.Grind.{flat_map-append}
use Rattle.std.proofs.lemmas.List.{length-take-le}
use Rattle.std.proofs.lemmas.List.Elements.{filter-append}
use Rattle.sim_base.specs.declared.message.TheConstants.{WORD_PLACES}
use Rattle.sim_base.proofs.ListLaws.{all_append, all_weaker}
use Rattle.sim_outer.specs.Views.{SinkView}
use Rattle.run_laws.specs.Queue.{In}
use Rattle.run_laws.proofs.Lists.{filter_all, filter_none}
use Rattle.run_laws.proofs.Queue.{all_in}
use Rattle.net_model.specs.Net.{Net}
use Rattle.trace_report.specs.TraceText.{entry_line}
use Rattle.run_laws.specs.Beginnings.{before, Rise}
use Rattle.trace_writer.specs.Cursors.{IsNextWord}
use Rattle.trace_writer.specs.Words.{entry_word}
use Rattle.trace_writer.specs.declared.tree.TheConstants.{NO_WORD}
use Rattle.trace_writer.specs.Kept.{lines_text, AreMarksOf, HasFirstLines, IsPageKept, IsPutTo}
use Rattle.trace_writer.specs.Kept.{HasSameLines}
use Rattle.trace_writer.specs.Pages.{IsBelow, IsPage, IsPast, reached}
use Rattle.trace_writer.specs.Puts.{IsPartPut, IsCutOff}
use Rattle.trace_writer.specs.declared.pages.TheConstants.{PAGE}
use Rattle.trace_writer.specs.declared.texts.Texts.{Texts}
use Rattle.trace_writer.proofs.Marks.{E, mark_of_end, marks_longer, marks_more}
use Rattle.trace_writer.proofs.Puts.{cut_part, rest_cut, taken_none, taken_then}

-- ---- IsPutTo

-- nothing is put yet
pub put_none : (net : Net) (es : List E) (v : SinkView) → IsPutTo net es es v v
put_none net es v = record { done = []; parts = refl; taken = taken_none v }

module _ (net : Net) (limit : ℕ) (page : List ℕ) (es mid left : List E) (v u x : SinkView) (h : IsPutTo net es mid v u)
    (made : IsPage net limit page mid left) where
  -- the next page is put
  pub put_more : IsPartPut page u x → IsPutTo net es left v x
  put_more put = record {
    done = h.done ++ made.taken;
    parts = h.parts ∙ ap (λ l. h.done ++ l) made.parts ∙ sym (append_assoc h.done made.taken left);
    taken = subst (λ k. IsPartPut k v x)
        (ap (λ k. lines_text net h.done ++ k) made.lines ∙ sym (flat_map-append (entry_line net) h.done made.taken))
        (taken_then (lines_text net h.done) page v u x h.taken put);
  }

  -- the next page is cut off
  pub put_cut : IsCutOff page u x → IsCutOff (lines_text net es) v x
  put_cut cut =
      rest_cut (lines_text net h.done) (lines_text net mid) (lines_text net es)
      (sym (flat_map-append (entry_line net) h.done mid) ∙ ap (lines_text net) (sym h.parts)) v u x h.taken
      (cut_part page (lines_text net left) (lines_text net mid) u x
      (ap (λ k. k ++ lines_text net left) made.lines ∙ sym (flat_map-append (entry_line net) made.taken left)
      ∙ ap (lines_text net) (sym made.parts)) cut)

-- ---- IsPage

-- two pages, one after the other
pub page_join : (net : Net) (limit : ℕ) (a b : List ℕ) (es mid left : List E) → IsPage net limit a es mid
    → IsPage net limit b mid left → IsPage net limit (a ++ b) es left
page_join net limit a b es mid left h k = record {
  taken = h.taken ++ k.taken;
  parts = h.parts ∙ ap (λ l. h.taken ++ l) k.parts ∙ sym (append_assoc h.taken k.taken left);
  lines = ap₂ (λ x y. x ++ y) h.lines k.lines ∙ sym (flat_map-append (entry_line net) h.taken k.taken);
  below = all_append (IsBelow limit) h.taken k.taken h.below k.below;
}

-- ---- IsPast

-- the next entry is not both before a limit and past it
not_past : (limit w : ℕ) (es : List E) → IsNextWord w es → w < limit → limit % WORD_PLACES ≡ 0 → limit ≤ NO_WORD
    → IsPast limit es → ⊥
not_past limit w [] next l whole most past = let is = next.is in omega (arith, is, l, most)
not_past limit w (e ∷ es) next l whole most past =
    let is = next.is in
    let at = next.within in
    let on = past.past in
    let on_at = past.within in
    omega (arith, is, at, on, on_at, l, whole)

-- if the next entry is before the limit, the page has a line
pub fewer_left : (net : Net) (limit used w : ℕ) (page : List ℕ) (es left : List E)
    → IsPage net limit (take used page) es left → used ≤ length page → (used < PAGE → IsPast limit left)
    → IsNextWord w es → w < limit → limit % WORD_PLACES ≡ 0 → limit ≤ NO_WORD → length left < length es
fewer_left net limit used w page es left made within done next l whole most = by made.taken made.parts made.lines
  where
    by : (taken : List E) → es ≡ taken ++ left → take used page ≡ lines_text net taken → length left < length es
    by [] parts lines =
        let none = ap length lines in
        let size = length-take-le used page within in
        absurd (not_past limit w es next l whole most
        (subst (IsPast limit) (sym parts) (done (omega (arith, none, size)))))
    by (e ∷ taken) parts lines =
        let all = ap length parts in
        let joined = length-append (e ∷ taken) left in
        omega (arith, all, joined)

-- ---- Rise

-- an element between two lists is in the whole
pub in_middle : (fs : List E) (e : E) (es : List E) → In e (fs ++ e ∷ es)
in_middle [] e es = inl refl
in_middle (f ∷ fs) e es = inr (in_middle fs e es)

-- the entries before another one have words that are less
head_below : (fs : List E) (e : E) (es : List E) → Rise entry_word (fs ++ e ∷ es)
    → AllByRecursion (λ f. entry_word f < entry_word e) fs
head_below [] e es s = tt
head_below (f ∷ fs) e es s = (
  all_in (λ g. entry_word f < entry_word g) (fs ++ e ∷ es) e s.0 (in_middle fs e es),
  head_below fs e es s.1,
)

-- the words of the rest of a list rise
pub rise_rest : (fs es : List E) → Rise entry_word (fs ++ es) → Rise entry_word es
rise_rest [] es s = s
rise_rest (f ∷ fs) es s = rise_rest fs es s.1

-- if the next entry is before a limit, the entries so far are
below_limit : (limit w : ℕ) (head left : List E) → Rise entry_word (head ++ left) → IsNextWord w left → w < limit
    → limit ≤ NO_WORD → AllByRecursion (λ e. entry_word e < limit) head
below_limit limit w head [] s next l most = let is = next.is in absurd (omega (arith, is, l, most))
below_limit limit w head (e ∷ es) s next l most =
    let is = next.is in
    all_weaker (λ f. entry_word f < entry_word e) (λ f. entry_word f < limit) head
    (λ f m. omega (arith, m, is, l)) (head_below head e es s)

-- and so are those that a page takes
pub taken_below : (limit : ℕ) (es : List E) → AllByRecursion (IsBelow limit) es
    → AllByRecursion (λ e. entry_word e < limit) es
taken_below limit es h = all_weaker (IsBelow limit) (λ e. entry_word e < limit) es
    (λ e k. let below = k.below in omega (arith, below)) h

-- ---- reached

-- what is below two words is below the lesser one
all_min : (a b : ℕ) (es : List E) → AllByRecursion (λ e. entry_word e < a) es
    → AllByRecursion (λ e. entry_word e < b) es
    → AllByRecursion (λ e. entry_word e < min a b) es
all_min a b [] h k = tt
all_min a b (e ∷ es) h k = (let x = h.0 in let y = k.0 in omega (arith, x, y), all_min a b es h.1 k.1)

-- the entries so far are before the word that is reached
before_reached : (limit : ℕ) (head left : List E) → Rise entry_word (head ++ left)
    → AllByRecursion (λ e. entry_word e < limit) head → AllByRecursion (λ e. entry_word e < reached limit left) head
before_reached limit head [] s h = h
before_reached limit head (e ∷ es) s h = all_min (entry_word e) limit head (head_below head e es s) h

-- and the others are not
after_reached : (limit : ℕ) (left : List E) → Rise entry_word left
    → AllByRecursion (λ e. reached limit left ≤ entry_word e) left
after_reached limit [] s = tt
after_reached limit (e ∷ es) s = (
  omega arith,
  all_weaker (λ f. entry_word e < entry_word f) (λ f. min (entry_word e) limit ≤ entry_word f) es
      (λ f l. omega (arith, l)) s.0,
)

-- a first part is what comes before a word that is above its words, and not above those of the rest
pub before_part : (w : ℕ) (head left : List E) → AllByRecursion (λ e. entry_word e < w) head
    → AllByRecursion (λ e. w ≤ entry_word e) left → before entry_word w (head ++ left) ≡ head
before_part w head left h k =
    filter-append (λ e. nat_lt (entry_word e) w) head left
    ∙ ap₂ (λ x y. x ++ y)
    (filter_all (λ e. nat_lt (entry_word e) w) head
    (all_weaker (λ e. entry_word e < w) (λ e. nat_lt (entry_word e) w ≡ true) head
    (λ e l. lt-ltb (entry_word e) w l) h))
    (filter_none (λ e. nat_lt (entry_word e) w) left
    (all_weaker (λ e. w ≤ entry_word e) (λ e. nat_lt (entry_word e) w ≡ false) left
    (λ e l. le-ltb (entry_word e) w l) k))
    ∙ append-nil head

-- so the entries so far are those before the word that is reached
reached_is : (limit : ℕ) (tr head left : List E) → Rise entry_word tr → tr ≡ head ++ left
    → AllByRecursion (λ e. entry_word e < limit) head → before entry_word (reached limit left) tr ≡ head
reached_is limit tr head left s parts h =
    let rise : Rise entry_word (head ++ left) = subst (Rise entry_word) parts s in
    ap (before entry_word (reached limit left)) parts
    ∙ before_part (reached limit left) head left (before_reached limit head left rise h)
    (after_reached limit left (rise_rest head left rise))

-- ---- IsKept

module _ (net : Net) (limit w : ℕ) (page : List ℕ) (tr : List E) (old new : Texts) (rise : Rise entry_word tr)
    (lines : HasFirstLines net tr old) (marks : AreMarksOf net tr old.text.items old.marks.items)
    (made : IsPage net limit page old.merge.left new.merge.left)
    (next : IsNextWord w old.merge.left) (l : w < limit) (most : limit ≤ NO_WORD)
    (kept : IsPageKept page (reached limit new.merge.left) old.text.items old.marks.items new.text.items
    new.marks.items) where
  -- the entries whose lines the text has now
  abbrev head : List E
  head = lines.head ++ made.taken

  -- they are a first part of the trace
  parts : tr ≡ head ++ new.merge.left
  parts = lines.parts ∙ ap (λ k. lines.head ++ k) made.parts
      ∙ sym (append_assoc lines.head made.taken new.merge.left)

  -- their lines are the text
  text_is : new.text.items ≡ lines_text net head
  text_is = kept.text_is ∙ ap₂ (λ a b. a ++ b) lines.text_is made.lines
      ∙ sym (flat_map-append (entry_line net) lines.head made.taken)

  -- and they come before the word that is reached
  below : AllByRecursion (λ e. entry_word e < limit) head
  below = all_append (λ e. entry_word e < limit) lines.head made.taken
      (below_limit limit w lines.head old.merge.left (subst (Rise entry_word) lines.parts rise) next l most)
      (taken_below limit made.taken made.below)

  -- with a page more, the text has the first lines still
  pub first_more : HasFirstLines net tr new
  first_more = record { head = head; parts = parts; text_is = text_is }

  -- and its marks are right
  pub marks_of_page : AreMarksOf net tr new.text.items new.marks.items
  marks_of_page = marks_more net tr new.text.items old.marks.items new.marks.items
      (record { word = reached limit new.merge.left; size = length new.text.items }) kept.marked
      (subst (λ k. AreMarksOf net tr k old.marks.items) (sym kept.text_is)
      (marks_longer net tr old.text.items page old.marks.items marks))
      (mark_of_end net tr new.text.items
      (record { word = reached limit new.merge.left; size = length new.text.items }) refl
      (text_is ∙ ap (lines_text net) (sym (reached_is limit tr head new.merge.left rise parts below))))

-- marks are right still, if nothing is kept
pub marks_still : (net : Net) (tr : List E) (old new : Texts) → HasSameLines old new
    → AreMarksOf net tr old.text.items old.marks.items → AreMarksOf net tr new.text.items new.marks.items
marks_still net tr old new same h = subst (λ k. AreMarksOf net tr k new.marks.items) (sym same.text_is)
    (subst (λ k. AreMarksOf net tr old.text.items k) (sym same.marks_are) h)

-- the word of the next entry without its place, or the limit
pub reached_word : (limit w : ℕ) (left : List E) → IsNextWord w left → limit % WORD_PLACES ≡ 0 → limit ≤ NO_WORD
    → min (w / WORD_PLACES * WORD_PLACES) limit ≡ reached limit left
reached_word limit w [] next whole most = let is = next.is in omega (arith, is, whole, most)
reached_word limit w (e ∷ es) next whole most =
    let is = next.is in
    let at = next.within in
    let same : w / WORD_PLACES * WORD_PLACES ≡ entry_word e = omega (arith, is, at) in
    ap (λ n. min n limit) same
