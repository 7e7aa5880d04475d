-- What `save` writes of a clone of a script is resumed.
use Rattle.std.specs.Prelude.{ℕ, ◌<◌, List, length}
use Rattle.sim_base.specs.Clones.{Clone, clone_at}
use Rattle.net_model.specs.Net.{Net}
use Rattle.net_model.specs.Rules.{IsNet}
use Rattle.decision_script.specs.Alone.{decisions}
use Rattle.decision_script.specs.Stating.{IsScript, ScriptView}
use Rattle.decision_book.specs.Plans.{ArePlanned}
use Rattle.decision_book.specs.Scripts.{lists_of}
use Rattle.study_run.specs.Limits.{last_time}
use Rattle.snapshot_text.specs.Laws.{IsReadFrom}
use Rattle.study_run.specs.SavedRunLaws.{IsResumed}
use Rattle.study_run.specs.Saving.{IsSaved}

-- the clones after the decisions of a script; a refused decision changes none of them
abbrev pub clones_of : Net → ScriptView → List Clone
clones_of net s = lists_of net (decisions s.items)

-- a book may have these clones
abbrev pub ScriptsArePlanned : Type 0
ScriptsArePlanned = (net : Net) (s : ScriptView) → ArePlanned net (clones_of net s)

-- a text that was saved of a clone at a time is read back as the clone's snapshot, and the run from it is the rest of
-- the clone's run
pub record TextIsResumed (net : Net) (time : ℕ) (c : Clone) (text : List ℕ) : Type 0 where
  pub back : IsReadFrom net c (last_time net time c) text
  pub resumed : IsResumed net time c

-- this holds for each clone of each script of a network, and for each text that was saved of it
abbrev pub SavedScriptsAreResumed : Type 0
SavedScriptsAreResumed = (net : Net) (s : ScriptView) (k time old_steps new_steps : ℕ) (text : List ℕ) → IsNet net
    → IsScript s → k < length (clones_of net s)
    → IsSaved net time (clone_at (clones_of net s) k) old_steps new_steps text
    → TextIsResumed net time (clone_at (clones_of net s) k) text
