-- The beginning of a text that is kept for the next one, and the lines that are put after it.
use Rattle.std.specs.Prelude.{◌≡◌, ℕ, zero, suc, ◌+◌, ◌≤◌, ◌⊎◌, List, [], ◌∷◌, ◌++◌, length, take}
use Rattle.std.specs.List.{AllByRecursion, flat_map}
use Rattle.sim_base.specs.Clones.{Clone, clone_at}
use Rattle.sim_base.specs.declared.entry.Entry.{Entry}
use Rattle.sim_base.specs.declared.entry.Line.{Line}
use Rattle.sim_base.specs.declared.message.Msg.{Msg}
use Rattle.net_model.specs.Net.{Net}
use Rattle.sim_outer.specs.Views.{SinkView}
use Rattle.stations.specs.Runs.{trace_of}
use Rattle.run_laws.specs.Beginnings.{before}
use Rattle.trace_writer.specs.Words.{entry_word}
use Rattle.trace_report.specs.TraceText.{entry_line}
use Rattle.trace_report.specs.declared.line.TheConstants.{MAX_LINE}
use Rattle.trace_writer.specs.Puts.{IsPartPut}
use Rattle.trace_writer.specs.declared.pages.TheConstants.{PAGE}
use Rattle.trace_writer.specs.declared.texts.Mark.{Mark}
use Rattle.trace_writer.specs.declared.texts.Texts.{Texts}

-- the lines of entries
abbrev pub lines_text : Net → List (Entry Msg Line) → List ℕ
lines_text net es = flat_map (entry_line net) es

-- the lines of the entries before a word
abbrev pub lines_before : Net → ℕ → List (Entry Msg Line) → List ℕ
lines_before net w es = lines_text net (before entry_word w es)

-- the text begins with the lines before the word of a mark
pub record IsMarkOf (net : Net) (es : List (Entry Msg Line)) (text : List ℕ) (m : Mark) : Type 0 where
  pub within : m.size ≤ length text
  pub is : take m.size text ≡ lines_before net m.word es

-- and so it does for each mark
abbrev pub AreMarksOf : Net → List (Entry Msg Line) → List ℕ → List Mark → Type 0
AreMarksOf net es text marks = AllByRecursion (IsMarkOf net es text) marks

-- the trace of the clone before this one, if there is one
abbrev pub trace_before : Net → List Clone → ℕ → List (Entry Msg Line)
trace_before net cs zero = []
trace_before net cs (suc c) = trace_of net (clone_at cs c)

-- the text has a beginning of the text of the clone before this one
abbrev pub HasBeginning : Net → List Clone → ℕ → Texts → Type 0
HasBeginning net cs c texts = AreMarksOf net (trace_before net cs c) texts.text.items texts.marks.items

-- of a text with marks, the lines before a word are kept, which is not after another word, and the marks of words up
-- to it
pub record IsKeptTo (most word : ℕ) (text : List ℕ) (marks : List Mark) (text_now : List ℕ)
    (marks_now : List Mark) : Type 0 where
  pub at_most : word ≤ most
  pub text_is : (net : Net) (es : List (Entry Msg Line)) → AreMarksOf net es text marks
      → text_now ≡ lines_before net word es
  pub marks_are : (net : Net) (es : List (Entry Msg Line)) → AreMarksOf net es text marks
      → AreMarksOf net es text_now marks_now
  pub early : AllByRecursion (λ m. m.word ≤ most) marks_now

-- a mark is added, or there is no memory for it
abbrev pub IsMarked : List Mark → List Mark → Mark → Type 0
IsMarked old new m = (new ≡ old) ⊎ (new ≡ old ++ m ∷ [])

-- a page is appended to a text, and its end is marked as the place of a word
pub record IsPageKept (page : List ℕ) (word : ℕ) (text : List ℕ) (marks : List Mark) (text_now : List ℕ)
    (marks_now : List Mark) : Type 0 where
  pub text_is : text_now ≡ text ++ page
  pub marked : IsMarked marks marks_now (record { word = word; size = length text_now })

-- the text of a trace has begun: it has the lines before a word
pub record IsBegun (net : Net) (tr : List (Entry Msg Line)) (w : ℕ) (texts : Texts) : Type 0 where
  pub text_is : texts.text.items ≡ lines_before net w tr
  pub marks : AreMarksOf net tr texts.text.items texts.marks.items

-- the text has the lines of the first entries of a trace, and the others are left in the logs
pub record HasFirstLines (net : Net) (tr : List (Entry Msg Line)) (texts : Texts) : Type 0 where
  pub head : List (Entry Msg Line)
  pub parts : tr ≡ head ++ texts.merge.left
  pub text_is : texts.text.items ≡ lines_text net head

-- while lines are kept, the text has the first lines; its marks are always right
pub record IsKept (net : Net) (tr : List (Entry Msg Line)) (kept_until : ℕ) (texts : Texts) : Type 0 where
  pub first : 1 ≤ kept_until → HasFirstLines net tr texts
  pub marks : AreMarksOf net tr texts.text.items texts.marks.items

-- the kept lines and their marks do not change
pub record HasSameLines (old new : Texts) : Type 0 where
  pub text_is : new.text.items ≡ old.text.items
  pub marks_are : new.marks.items ≡ old.marks.items

-- the lines of the first of some entries are put, and the others are left
pub record IsPutTo (net : Net) (es left : List (Entry Msg Line)) (v w : SinkView) : Type 0 where
  pub done : List (Entry Msg Line)
  pub parts : es ≡ done ++ left
  pub taken : IsPartPut (lines_text net done) v w

-- the memory for the texts of a network's clones is allocated
pub record CanPut (net : Net) (texts : Texts) : Type 0 where
  pub most : texts.merge.most ≡ length net.sites
  pub page : PAGE + MAX_LINE ≤ length texts.page.items

-- no memory is lost
pub record KeepsMemory (old new : Texts) : Type 0 where
  pub most : new.merge.most ≡ old.merge.most
  pub page : length new.page.items ≡ length old.page.items
