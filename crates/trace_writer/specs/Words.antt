-- The words of entries, and of lists: the key of the first entry, with the place of the list.
use Rattle.std.specs.Prelude.{◌≡◌, ℕ, ◌*◌, List, [], ◌∷◌, drop}
use Rattle.std.specs.List.{AllByRecursion}
pub use Rattle.sim_base.specs.Entries.{by_key}
use Rattle.sim_base.specs.KeyWords.{key_word}
use Rattle.sim_base.specs.declared.entry.Entry.{Entry}
use Rattle.sim_base.specs.declared.entry.Line.{Line}
use Rattle.sim_base.specs.declared.message.Msg.{Msg}
use Rattle.sim_base.specs.declared.message.TheConstants.{WORDS_OF_TIME}
use Rattle.run_laws.specs.Merges.{merge}
use Rattle.run_laws.specs.Beginnings.{Rise}
use Rattle.log_chain.specs.Packing.{FitWords}
use Rattle.trace_writer.specs.declared.tree.TheConstants.{NO_WORD}

-- the word of an entry: its key in 64 bits
abbrev pub entry_word : Entry Msg Line → ℕ
entry_word e = key_word 0 e.msg.key

-- the least word of a time: the words of earlier entries are less, those of others are not
abbrev pub first_word : ℕ → ℕ
first_word t = t * WORDS_OF_TIME

-- the keys of a log fit words that rise
pub record IsInOrder (log : List (Entry Msg Line)) : Type 0 where
  pub fit : FitWords log
  pub rise : Rise entry_word log

-- a list goes on at a place with an entry that has this word
pub record HasWordAt (word place : ℕ) (es : List (Entry Msg Line)) : Type 0 where
  pub entry : Entry Msg Line
  pub rest : List (Entry Msg Line)
  pub is : drop place es ≡ entry ∷ rest
  pub word_is : word ≡ entry_word entry

-- the word of the first remaining entry, or NO_WORD if there is none
abbrev pub word_of : ℕ → List (Entry Msg Line) → ℕ
word_of place [] = NO_WORD
word_of place (e ∷ es) = key_word place e.msg.key

-- lists merged onto one, one after another
abbrev pub merge_onto : List (Entry Msg Line) → List (List (Entry Msg Line)) → List (Entry Msg Line)
merge_onto all [] = all
merge_onto all (l ∷ ls) = merge_onto (merge by_key all l) ls

-- lists merged, one after another
abbrev pub merge_all : List (List (Entry Msg Line)) → List (Entry Msg Line)
merge_all ls = merge_onto [] ls

-- the key of each entry of each list fits a word
abbrev pub AllFitWords : List (List (Entry Msg Line)) → Type 0
AllFitWords ls = AllByRecursion FitWords ls
