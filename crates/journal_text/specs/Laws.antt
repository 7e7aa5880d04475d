-- A law of a journal's text; `src/laws.rt` proves it.
use Rattle.std.specs.Prelude.{◌≡◌, ℕ, ◌<◌, not, List, length, map, filter, Ok, None}
use Rattle.std.specs.List.{AllByRecursion, join_with_byte, slice_split}
use Rattle.net_model.specs.Net.{Net}
use Rattle.decision_script.specs.declared.item.Act.{Act}
use Rattle.decision_script.specs.declared.item.Act.TheVariants.{Decide}
use Rattle.decision_script.specs.declared.item.Item.{Item}
use Rattle.decision_script.specs.Lines.{is_newline}
use Rattle.decision_script.specs.Sentences.{begins_comment}
use Rattle.decision_script.specs.Stating.{Fits32, ScriptView, IsAnalyst, IsScript, IsDecision, analyst_name}
use Rattle.decision_script.specs.Reading.{script}
use Rattle.decision_script.specs.Alone.{decisions}
use Rattle.decision_book.specs.declared.call.Call.{Call}
use Rattle.decision_book.specs.Journal.{Event, after, calls_of}
use Rattle.decision_book.specs.Right.{IsRight}
use Rattle.decision_book.specs.Scripts.{accepted_of, first_refusal, lists_of}
use Rattle.journal_text.specs.JournalText.{events_text}

-- a text without the lines that begin with '#'
abbrev pub without_comments : List ℕ → List ℕ
without_comments text = join_with_byte 10 (filter (λ line. not (begins_comment line)) (slice_split is_newline text))

-- an item of a script: the name of its analyst, and its act
abbrev pub who_does : List (List ℕ) → Item → List ℕ × Act
who_does analysts item = (analyst_name analysts item.analyst, item.act)

-- the same for a call
abbrev pub who_decided : List (List ℕ) → Call → List ℕ × Act
who_decided analysts call = (analyst_name analysts call.caller, Decide call.decision)

-- a call of one of the analysts, with a decision that a script can express
pub record IsCallOf (analysts : ℕ) (call : Call) : Type 0 where
  pub analyst : IsAnalyst analysts call.caller
  pub decision : IsDecision call.decision

-- the lines of a journal's events, without comments, are a script
pub record IsScriptOf (net : Net) (analysts : List (List ℕ)) (events : List Event) : Type 0 where
  pub again : ScriptView
  pub read : script (without_comments (events_text analysts events)) ≡ Ok again
  -- its items are the accepted decisions, in order, each by the analyst who made it
  pub items : map (who_does again.analysts) again.items ≡ map (who_decided analysts) (accepted_of (calls_of events))
  -- all are accepted before the simulation begins
  pub accepted : first_refusal net (decisions again.items) ≡ None
  -- and lead to the same clones as the journal
  pub clones : lists_of net (decisions again.items) ≡ (after net events).clones

-- this holds for each right journal whose callers are analysts of a script
abbrev pub JournalReadsAsScript : Net → Type 0
JournalReadsAsScript net = (s : ScriptView) (events : List Event) → IsScript s → IsRight net events → 0 < net.horizon
    → Fits32 net.horizon
    → AllByRecursion (IsCallOf (length s.analysts)) (calls_of events) → IsScriptOf net s.analysts events
