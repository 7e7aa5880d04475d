-- Parts of a text: made, joined, and put.
use Rattle.std.proofs.Common.{◌≡◌, ◌⊎◌, ℕ, zero, suc, ◌+◌, ◌%◌, ◌<◌, ◌≤◌, nat_lt}
use Rattle.std.proofs.Common.{not, Bool, true, false, List, [], ◌∷◌, ◌++◌, inl, inr}
use Rattle.std.proofs.Common.{Result, Ok, Err, refl, sym, ap, ap₂, ◌∙◌, subst, arith, length, get_or, drop}
use Rattle.std.specs.List.{AllByRecursion}
use Rattle.std.proofs.lemmas.Bool.{cases_lt}
use Rattle.std.proofs.lemmas.Grind.{flat_map-append}
use Rattle.std.proofs.lemmas.List.{drop_more}
use Rattle.sim_base.specs.declared.message.TheConstants.{WORD_PLACES}
use Rattle.sim_base.proofs.ListLaws.{all_weaker}
use Rattle.sim_outer.specs.Views.{SinkView}
use Rattle.crew_pool.specs.Tasks.{EachAt}
use Rattle.run_laws.proofs.Lists.{filter_none, filter_swap, in_filter}
use Rattle.run_laws.proofs.Queue.{all_from}
use Rattle.net_model.specs.Net.{Net}
use Rattle.trace_report.specs.TraceText.{entry_line}
use Rattle.run_laws.specs.Beginnings.{before, from, Rise}
use Rattle.run_laws.proofs.BeginningParts.{before_before, before_from, from_from, parts_join, rise_filter}
use Rattle.trace_writer.specs.Words.{entry_word}
use Rattle.trace_writer.specs.Batches.{AreMade}
use Rattle.trace_writer.specs.Kept.{AreMarksOf, CanPut, HasSameLines, IsPageKept, lines_before, lines_text}
use Rattle.trace_writer.specs.Pages.{IsPast}
use Rattle.trace_writer.specs.Parts.{AreJoined, AreParts, IsPart, IsPutUpTo, part_lines}
use Rattle.trace_writer.specs.Puts.{IsCutOff, IsPartPut}
use Rattle.trace_writer.specs.Rests.{MayPut, PutsRest, rest_lines, trace_at}
use Rattle.trace_writer.specs.WorldTraces.{WorldTracesView}
use Rattle.trace_writer.specs.declared.making.MadePart.{MadePart}
use Rattle.trace_writer.specs.declared.making.TextPart.{TextPart}
use Rattle.trace_writer.specs.declared.text_rest.TextRest.{TextRest}
use Rattle.trace_writer.specs.declared.texts.Mark.{Mark}
use Rattle.trace_writer.specs.declared.texts.Texts.{Texts}
use Rattle.trace_writer.proofs.Marks.{E, mark_of_end, marks_longer, marks_more}
use Rattle.trace_writer.proofs.PageLines.{before_part, marks_still, rise_rest}
use Rattle.trace_writer.proofs.Puts.{cut_part, rest_cut, taken_then, taken_none}

-- ---- the lines of parts

module _ (net : Net) where
  -- the lines before a word, and then those from it up to a later one
  pub lines_split : (a b : ℕ) (es : List E) → a ≤ b → Rise entry_word es
      → lines_before net a es ++ lines_before net b (from entry_word a es) ≡ lines_before net b es
  lines_split a b es l s =
      let some : List E = before entry_word b es in
      let parts = before_from entry_word a some (rise_filter entry_word (λ e. nat_lt (entry_word e) b) es s) in
      let first = before_before entry_word a b l es in
      let last : from entry_word a some ≡ before entry_word b (from entry_word a es) =
      filter_swap (λ e. not (nat_lt (entry_word e) a)) (λ e. nat_lt (entry_word e) b) es in
      sym (ap (lines_text net) parts
      ∙ flat_map-append (entry_line net) (before entry_word a some) (from entry_word a some)
      ∙ ap₂ (λ x y. lines_text net x ++ lines_text net y) first last)

  -- a part, and then the lines up to a later word
  pub part_then : (a b d : ℕ) (es : List E) → a ≤ b → b ≤ d → Rise entry_word es
      → lines_before net b (from entry_word a es) ++ lines_before net d (from entry_word b es)
      ≡ lines_before net d (from entry_word a es)
  part_then a b d es l m s =
      ap (λ k. lines_before net b (from entry_word a es) ++ lines_before net d k) (sym (from_from entry_word a b l es))
      ∙ lines_split b d (from entry_word a es) m
      (rise_filter entry_word (λ e. not (nat_lt (entry_word e) a)) es s)

  -- a part, and then all others
  pub part_rest : (a b : ℕ) (es : List E) → a ≤ b → Rise entry_word es
      → lines_before net b (from entry_word a es) ++ lines_text net (from entry_word b es)
      ≡ lines_text net (from entry_word a es)
  part_rest a b es l s =
      sym (ap (lines_text net) (parts_join entry_word es a b l s)
      ∙ flat_map-append (entry_line net) (before entry_word b (from entry_word a es)) (from entry_word b es))

  -- a part that ends where it begins has no lines
  pub part_none : (a : ℕ) (es : List E) → lines_before net a (from entry_word a es) ≡ []
  part_none a es = ap (lines_text net) (filter_none (λ e. nat_lt (entry_word e) a) (from entry_word a es)
      (all_from (λ e. nat_lt (entry_word e) a ≡ false) (from entry_word a es) (λ e i.
      not_true (nat_lt (entry_word e) a) (in_filter (λ e. not (nat_lt (entry_word e) a)) es e i).1)))
    where
      not_true : (b : Bool) → not b ≡ true → b ≡ false
      not_true true h = sym h
      not_true false h = refl

-- ---- a part that is made page by page

-- the entries that are past a limit
late_of : (limit : ℕ) (left : List E) → Rise entry_word left → IsPast limit left → limit % WORD_PLACES ≡ 0
    → AllByRecursion (λ e. limit ≤ entry_word e) left
late_of limit [] s past whole = tt
late_of limit (e ∷ es) s past whole =
    let on = past.past in
    let at = past.within in
    let here : limit ≤ entry_word e = omega (arith, on, at, whole) in (
      here,
      all_weaker (λ f. entry_word e < entry_word f) (λ f. limit ≤ entry_word f) es
          (λ f l. omega (arith, l, here)) s.0,
    )

-- if what is left is past a limit, what was taken is what comes before it
pub made_all : (limit : ℕ) (es done left : List E) → Rise entry_word es → es ≡ done ++ left
    → AllByRecursion (λ e. entry_word e < limit) done → IsPast limit left → limit % WORD_PLACES ≡ 0
    → done ≡ before entry_word limit es
made_all limit es done left s parts below past whole =
    let rise : Rise entry_word (done ++ left) = subst (Rise entry_word) parts s in
    sym (ap (before entry_word limit) parts
    ∙ before_part limit done left below (late_of limit left (rise_rest done left rise) past whole))

-- ---- AreJoined, AreParts

-- one more part, which begins where they end
pub AreJoined-push : (c from : ℕ) (parts : List TextPart) (until : ℕ) (p : TextPart) → AreJoined c from parts until
    → p.c ≡ c → p.from ≡ until → until ≤ p.until → p.until % WORD_PLACES ≡ 0
    → AreJoined c from (parts ++ p ∷ []) p.until
AreJoined-push c from [] until p h is begins order whole =
    let e : p.from ≡ from = begins ∙ sym h in (is, e, omega (arith, h, order), whole, refl)
AreJoined-push c from (p1 ∷ parts) until p h is begins order whole =
    (h.0, h.1, h.2, h.3, AreJoined-push c p1.until parts until p h.4 is begins order whole)

-- each of them may be made
pub AreJoined-ready : (traces : WorldTracesView) (c from : ℕ) (parts : List TextPart) (until : ℕ)
    → c < length traces.clones → AreJoined c from parts until → EachAt (λ _ (p : TextPart). IsPart traces p) parts
AreJoined-ready traces c from [] until there h i d below = absurd (omega (arith, below))
AreJoined-ready traces c from (p ∷ parts) until there h zero d below =
    let is = h.0 in record { in_range = omega (arith, there, is); whole = h.3 }
AreJoined-ready traces c from (p ∷ parts) until there h (suc i) d below =
    AreJoined-ready traces c p.until parts until there h.4 i d (omega (arith, below))

-- made, they are consecutive parts of the text
pub AreMade-joined : (traces : WorldTracesView) (c from : ℕ) (parts : List TextPart) (until : ℕ) (made : List MadePart)
    → AreJoined c from parts until → AreMade traces parts made → AreParts traces c from made until
AreMade-joined traces c from [] until [] h made = h
AreMade-joined traces c from [] until (m ∷ ms) h made = let n = made.count in absurd (omega (arith, n))
AreMade-joined traces c from (p ∷ parts) until [] h made = let n = made.count in absurd (omega (arith, n))
AreMade-joined traces c from (p ∷ parts) until (m ∷ ms) h made =
    let first = made.each 0 m (omega arith) p in
    let end : m.until ≡ p.until = first.until_is in
    let order : from ≤ p.until = h.2 in
    let others = AreMade-joined traces c p.until parts until ms h.4
    (record {
      count = let n = made.count in omega (arith, n);
      each = λ i d below e. made.each (suc i) d (omega (arith, below)) e;
    }) in (
      omega (arith, end, order),
      first.bytes_are ∙ ap (λ k. part_lines traces k p.from p.until) h.0
          ∙ ap (λ k. part_lines traces c k p.until) h.1 ∙ ap (part_lines traces c from) (sym end),
      subst (λ k. AreParts traces c k ms until) (sym end) others,
    )

-- the next of them
pub parts_next : (traces : WorldTracesView) (c from : ℕ) (made : List MadePart) (until i : ℕ) (m : MadePart)
    → i < length made → m ≡ get_or made i m → AreParts traces c from (drop i made) until
    → AreParts traces c from (m ∷ drop (i + 1) made) until
parts_next traces c from made until i m below is h =
    subst (λ k. AreParts traces c from k until)
    (drop_more made i m below ∙ ap (λ k. k ∷ drop (i + 1) made) (sym is)) h

-- after the last one, none is left
pub drop_end : (n : ℕ) (made : List MadePart) → length made ≤ n → drop n made ≡ []
drop_end zero [] l = refl
drop_end zero (m ∷ ms) l = absurd (omega (arith, l))
drop_end (suc n) [] l = refl
drop_end (suc n) (m ∷ ms) l = drop_end n ms (omega (arith, l))

-- ---- IsPutUpTo

module _ (traces : WorldTracesView) (rest : TextRest) (rise : Rise entry_word (trace_at traces rest.c)) where
  -- nothing is put yet
  pub put_to_none : (texts : Texts) (v : SinkView) → MayPut traces rest texts
      → IsPutUpTo traces rest rest.from rest.kept_until texts v v
  put_to_none texts v may = record {
    order = omega arith;
    taken = subst (λ k. IsPartPut k v v) (sym (part_none traces.net rest.from (trace_at traces rest.c))) (taken_none v);
    may = may;
  }

  module _ (w kept : ℕ) (texts : Texts) (v u : SinkView) (h : IsPutUpTo traces rest w kept texts v u) where
    -- the lines so far, and then all others
    all_lines : part_lines traces rest.c rest.from w
        ++ lines_text traces.net (from entry_word w (trace_at traces rest.c)) ≡ rest_lines traces rest
    all_lines = part_rest traces.net rest.from w (trace_at traces rest.c) h.order rise

    -- the rest is put
    pub put_to_end : (x : SinkView)
        → IsPartPut (lines_text traces.net (from entry_word w (trace_at traces rest.c))) u x
        → IsPartPut (rest_lines traces rest) v x
    put_to_end x put = subst (λ k. IsPartPut k v x) all_lines (taken_then _ _ v u x h.taken put)

    -- the rest is cut off
    pub put_to_cut : (x : SinkView)
        → IsCutOff (lines_text traces.net (from entry_word w (trace_at traces rest.c))) u x
        → IsCutOff (rest_lines traces rest) v x
    put_to_cut x cut = rest_cut _ _ _ all_lines v u x h.taken cut

    -- more of it is put
    pub put_to_further : (until now : ℕ) (new : Texts) (x : SinkView)
        → IsPutUpTo traces (record rest { from = w; kept_until = kept }) until now new u x
        → IsPutUpTo traces rest until now new v x
    put_to_further until now new x put = record {
      order = let a = h.order in let b = put.order in omega (arith, a, b);
      taken = subst (λ k. IsPartPut k v x)
          (part_then traces.net rest.from w until (trace_at traces rest.c) h.order put.order rise)
          (taken_then _ _ v u x h.taken put.taken);
      may = put.may;
    }

    -- the next part is cut off
    pub part_cut : (bytes : List ℕ) (until : ℕ) (x : SinkView) → w ≤ until
        → bytes ≡ part_lines traces rest.c w until → IsCutOff bytes u x → IsCutOff (rest_lines traces rest) v x
    part_cut bytes until x order is cut = put_to_cut x (cut_part bytes
        (lines_text traces.net (from entry_word until (trace_at traces rest.c))) _ u x
        (ap (λ k. k ++ lines_text traces.net (from entry_word until (trace_at traces rest.c))) is
        ∙ part_rest traces.net w until (trace_at traces rest.c) order rise) cut)

    -- the result of putting the rest is that of putting all
    pub puts_then : {F : Type 0} (new : Texts) (x : SinkView) (r : Result (Unit {0}) F)
        → PutsRest traces (record rest { from = w; kept_until = kept }) new u x r → PutsRest traces rest new v x r
    puts_then new x (Ok y) put = record {
      ok = put_to_end x put.ok;
      err = tt;
      marks = put.marks;
      can = put.can;
    }
    puts_then new x (Err e) put = record { ok = tt; err = put_to_cut x put.err; marks = tt; can = put.can }

    module _ (bytes : List ℕ) (until now : ℕ) (new : Texts) (order : w ≤ until)
        (is : bytes ≡ part_lines traces rest.c w until) (either : (now ≡ kept) ⊎ (now ≡ 0))
        (page : 1 ≤ now → IsPageKept bytes until texts.text.items texts.marks.items new.text.items new.marks.items)
        (none : now ≡ 0 → HasSameLines texts new) (can : CanPut traces.net new) where
      -- the word before which lines are kept is whole
      now_whole : now % WORD_PLACES ≡ 0
      now_whole = elim either [
        | inl same ↦ ap (λ n. n % WORD_PLACES) same ∙ h.may.whole
        | inr zero_is ↦ let z = zero_is in omega (arith, z)
      ]

      -- the kept text has the part
      text_now : 1 ≤ now → new.text.items ≡ lines_before traces.net until (trace_at traces rest.c)
      text_now some =
          let was : 1 ≤ kept = elim either [
            | inl same ↦ omega (arith, same, some)
            | inr zero_is ↦ absurd (omega (arith, zero_is, some))
          ] in
          let k = page some in
          k.text_is ∙ ap₂ (λ a b. a ++ b) (h.may.text_is was) is
          ∙ lines_split traces.net w until (trace_at traces rest.c) order rise

      -- and its marks are right
      marks_now : AreMarksOf traces.net (trace_at traces rest.c) new.text.items new.marks.items
      marks_now = elim (cases_lt 0 now) [
        | inl some ↦
            let positive : 1 ≤ now = omega (arith, some) in
            let k = page positive in
            let mark : Mark = record { word = until; size = length new.text.items } in
            marks_more traces.net (trace_at traces rest.c) new.text.items texts.marks.items new.marks.items mark
            k.marked
            (subst (λ t. AreMarksOf traces.net (trace_at traces rest.c) t texts.marks.items) (sym k.text_is)
            (marks_longer traces.net (trace_at traces rest.c) texts.text.items bytes texts.marks.items h.may.marks))
            (mark_of_end traces.net (trace_at traces rest.c) new.text.items mark refl (text_now positive))
        | inr zero_is ↦ marks_still traces.net (trace_at traces rest.c) texts new (none (omega (arith, zero_is)))
            h.may.marks
      ]

      -- the next part is put
      pub put_to_next : (x : SinkView) → IsPartPut bytes u x → IsPutUpTo traces rest until now new v x
      put_to_next x put = record {
        order = let a = h.order in omega (arith, a, order);
        taken = subst (λ k. IsPartPut k v x)
            (ap (λ k. part_lines traces rest.c rest.from w ++ k) is
            ∙ part_then traces.net rest.from w until (trace_at traces rest.c) h.order order rise)
            (taken_then _ bytes v u x h.taken put);
        may = record {
          in_range = h.may.in_range;
          whole = now_whole;
          can = can;
          text_is = text_now;
          marks = marks_now;
        };
      }
