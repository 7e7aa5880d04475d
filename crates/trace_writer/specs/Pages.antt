-- Pages of lines: the lines of the next entries, up to a word.
use Rattle.std.specs.Prelude.{◌≡◌, ℕ, ◌<◌, ◌≤◌, List, [], ◌∷◌, ◌++◌, min}
use Rattle.std.specs.List.{flat_map, AllByRecursion}
use Rattle.sim_base.specs.KeyWords.{key_word}
use Rattle.sim_base.specs.declared.entry.Entry.{Entry}
use Rattle.sim_base.specs.declared.entry.Line.{Line}
use Rattle.sim_base.specs.declared.message.Msg.{Msg}
use Rattle.sim_base.specs.declared.message.TheConstants.{WORD_PLACES}
use Rattle.net_model.specs.Net.{Net}
use Rattle.trace_writer.specs.Words.{entry_word, word_of}
use Rattle.trace_report.specs.TraceText.{entry_line}

-- an entry whose word is below a limit, at the place of its log
pub record IsBelow (limit : ℕ) (e : Entry Msg Line) : Type 0 where
  pub place : ℕ
  pub within : place < WORD_PLACES
  pub below : key_word place e.msg.key < limit

-- the first of these entries has no word below a limit, at the place of its log
pub record IsPast (limit : ℕ) (left : List (Entry Msg Line)) : Type 0 where
  pub place : ℕ
  pub within : place < WORD_PLACES
  pub past : limit ≤ word_of place left

-- a text with the lines of the first of these entries, all below a limit; the others are left
pub record IsPage (net : Net) (limit : ℕ) (text : List ℕ) (entries left : List (Entry Msg Line)) : Type 0 where
  pub taken : List (Entry Msg Line)
  pub parts : entries ≡ taken ++ left
  pub lines : text ≡ flat_map (entry_line net) taken
  pub below : AllByRecursion (IsBelow limit) taken

-- the word of the next entry, or a limit, if no entry before it is left
abbrev pub reached : ℕ → List (Entry Msg Line) → ℕ
reached limit [] = limit
reached limit (e ∷ es) = min (entry_word e) limit
