-- `run` with the journal of a live study writes what the study wrote.
use Rattle.std.specs.Prelude.{◌≡◌, Ok}
use Rattle.net_model.specs.Net.{Net}
use Rattle.net_model.specs.Rules.{IsNet}
use Rattle.decision_script.specs.Reading.{script}
use Rattle.decision_script.specs.Stating.{ScriptView, IsScript}
use Rattle.decision_book.specs.Books.{BookView}
use Rattle.decision_book.specs.Journal.{after}
use Rattle.world_core.specs.Worlds.{total_handled}
use Rattle.journal_text.specs.JournalText.{events_text}
use Rattle.journal_text.specs.Laws.{without_comments}
use Rattle.study_run.specs.Limits.{AreWithin}
use Rattle.live_study.specs.Scripts.{IsJournalOf}
use Rattle.command_words.specs.declared.request.Mode.TheVariants.{Run}
use Rattle.cloner_top.specs.Endings.{MayEnd, run_texts, whole_output}

-- the lines of a journal's calls and fronts, without comments, are read as a script; `run` with it may end by writing
-- the texts of the journal's clones
pub record IsRunAgain (net : Net) (s : ScriptView) (book : BookView) : Type 0 where
  pub again : ScriptView
  pub read : script (without_comments (events_text s.analysts book.events)) ≡ Ok again
  pub may : MayEnd Run net again
      (whole_output (run_texts net (after net book.events).clones)
      (total_handled net (after net book.events).clones net.horizon))

-- this holds for each journal of a script over a network, if no log is beyond the limit
abbrev pub JournalRunsTheSame : Type 0
JournalRunsTheSame = (net : Net) (s : ScriptView) (book : BookView) → IsNet net → IsScript s
    → IsJournalOf net s book → AreWithin net (after net book.events).clones → IsRunAgain net s book
