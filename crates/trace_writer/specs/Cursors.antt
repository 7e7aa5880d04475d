-- Cursors: their view in contracts, and their storage.
use Rattle.std.specs.Prelude.{◌≡◌, ℕ, ◌<◌, ◌≤◌, List, [], length, get_or}
use Rattle.sim_base.specs.declared.entry.Entry.{Entry}
use Rattle.sim_base.specs.declared.entry.Line.{Line}
use Rattle.sim_base.specs.declared.message.Msg.{Msg}
use Rattle.sim_base.specs.declared.message.TheConstants.{WORD_PLACES}
use Rattle.trace_writer.specs.Words.{word_of, AllFitWords}

-- the view of a cursor in contracts
pub record CursorView : Type 0 where
  -- the remaining entries, in the order of their keys
  pub left : List (Entry Msg Line)
  -- the number of logs added, and the most that may be added
  pub logs : ℕ
  pub most : ℕ

-- the words are those of the lists, and NO_WORD for places without a list
abbrev pub AreWordsOf : List ℕ → List (List (Entry Msg Line)) → Type 0
AreWordsOf words ls = (j : ℕ) → j < length words → get_or words j 0 ≡ word_of j (get_or ls j [])

-- the remaining lists, the words of their keys, the number of lists that memory is reserved for, and the most that may
-- be added
pub record IsCursor (ls : List (List (Entry Msg Line))) (words : List ℕ) (reserved most : ℕ) : Type 0 where
  pub at_most : length words ≤ WORD_PLACES
  pub within : length ls ≤ most
  pub in_range : most ≤ length words
  pub enough : most ≤ reserved
  pub fit : AllFitWords ls
  pub words_are : AreWordsOf words ls

-- the word of the first of these entries, with the place of its log, or NO_WORD if there is none
pub record IsNextWord (word : ℕ) (left : List (Entry Msg Line)) : Type 0 where
  pub place : ℕ
  pub within : place < WORD_PLACES
  pub is : word ≡ word_of place left
