-- What a line says, by its words: a watch, or nothing.
use Rattle.std.specs.Prelude.{◌&&◌, ℕ, Bool, codes, if◌then◌else◌, List, [], ◌∷◌, length, Result, Ok, Err}
use Rattle.std.specs.Prelude.{Option, Some, None}
use Rattle.std.specs.Str.{bytes_eq}
use Rattle.sim_base.specs.Chain.{◌>>=◌}
use Rattle.sim_base.specs.Names.{is_name}
use Rattle.sim_base.specs.declared.message.Change.{Change}
use Rattle.decision_script.specs.declared.fault.LineFault.{LineFault}
use Rattle.decision_script.specs.declared.fault.LineFault.TheVariants.{NotAscii, BadLine}
use Rattle.decision_script.specs.Lines.{words, is_ascii}
use Rattle.decision_script.specs.Sentences.{begins_comment, change_of, param_of, where_form, word_number}
use Rattle.watch_points.specs.declared.watch.Watch.{Watch}

-- the three keywords of a watch
abbrev pub are_keywords : List ℕ → List ℕ → List ℕ → Bool
are_keywords wait fork set = (bytes_eq wait (codes "wait") && bytes_eq fork (codes "fork")) && bytes_eq set
    (codes "set")

-- the four names of a watch
abbrev pub are_names : List ℕ → List ℕ → List ℕ → List ℕ → Bool
are_names who station new target = ((is_name who && is_name station) && is_name new) && is_name target

-- the least number of waiting jobs, and the change by its parameter and its values
unfoldable pub least_and_change : List ℕ → List (List ℕ) → Result (ℕ × Change) LineFault
least_and_change least [] = Err BadLine
least_and_change least (param ∷ values) = do
  p ← param_of param (length values)
  k ← word_number least
  change ← change_of p values
  Ok (k, change)

-- a watch, by the words that its keywords do not fix: names, the number, and the words of the change
unfoldable pub named_watch : ℕ → List ℕ → List ℕ → List ℕ → List ℕ → List ℕ → List (List ℕ) → Result Watch LineFault
named_watch line who station least new target change =
    where_form (are_names who station new target) (do
      values ← least_and_change least change
      Ok (record {
        line = line;
        who = who;
        station = station;
        least = values.0;
        new = new;
        target = target;
        change = values.1;
      }))

-- watch CLONE STATION wait K fork NEW set TARGET PARAMETER VALUES, by the words after the first one
abbrev pub watch_of : ℕ → List (List ℕ) → Result Watch LineFault
watch_of line (who ∷ station ∷ wait ∷ least ∷ fork ∷ new ∷ set ∷ target ∷ change) =
    where_form (are_keywords wait fork set) (named_watch line who station least new target change)
watch_of line _ = Err BadLine

-- there is one form
abbrev pub sentence : ℕ → List ℕ → List (List ℕ) → Result (Option Watch) LineFault
sentence line verb rest =
    if bytes_eq verb (codes "watch") then (watch_of line rest >>= λ w. Ok (Some w)) else Err BadLine

-- a line without words says nothing, nor does a comment
abbrev pub saying : ℕ → List (List ℕ) → Result (Option Watch) LineFault
saying line [] = Ok None
saying line (w ∷ ws) = if begins_comment w then Ok None else sentence line w ws

-- what a line says, or the first rule that it breaks
abbrev pub line_saying : ℕ → List ℕ → Result (Option Watch) LineFault
line_saying line text = if is_ascii text then saying line (words text) else Err NotAscii
