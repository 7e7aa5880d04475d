-- What `save` writes of a clone, `resume` turns into what `solo` writes of it.
use Rattle.std.specs.Prelude.{ℕ, ◌+◌, List, [], ◌∷◌}
use Rattle.sim_base.specs.Clones.{Clone}
use Rattle.net_model.specs.Net.{Net}
use Rattle.net_model.specs.Rules.{IsNet}
use Rattle.decision_book.specs.Plans.{ArePlanned}
use Rattle.study_run.specs.SayableRuns.{AreSayable}
use Rattle.command_words.specs.declared.request.Mode.TheVariants.{Save, Solo}
use Rattle.cloner_top.specs.Endings.{Ending, MayResume, MaySimulate, early_stop, overrun, whole_output}

-- the ending with this number of handled messages more, if the output is written
abbrev pub after : ℕ → Ending → Ending
after work (whole_output texts more) = whole_output texts (work + more)
after work (early_stop stop) = early_stop stop
after work (overrun told excess most) = overrun told excess most

-- `resume` with a text that `save` wrote after this number of handled messages ends only as `solo` may: it writes the
-- same output, or it meets the limit at the same station; it never refuses the text
abbrev pub GoesOn : Net → List Clone → List ℕ → List ℕ → ℕ → Type 0
GoesOn net clones name text work =
    (end : Ending) → MayResume text net end → MaySimulate (Solo name) net clones (after work end)

-- this holds for each clone that a book may have and that words can say
abbrev pub SavedRunsGoOn : Type 0
SavedRunsGoOn = (net : Net) (clones : List Clone) (name text : List ℕ) (time work : ℕ) → IsNet net
    → ArePlanned net clones → AreSayable clones
    → MaySimulate (Save name time) net clones (whole_output (text ∷ []) work) → GoesOn net clones name text work
