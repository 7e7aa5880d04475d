-- The text of a clone: its name line, the lines before a time, and those from then on.
use Rattle.std.proofs.Common.{◌≡◌, ℕ, ap, List, ◌++◌, codes, get_or}
use Rattle.std.proofs.lemmas.Option.{unwrap_or-slice_get}
use Rattle.std.specs.List.{flat_map}
use Rattle.sim_base.specs.Clones.{Clone, clone_at, nobody}
use Rattle.net_model.specs.Net.{Net}
use Rattle.stations.specs.Runs.{trace_of}
use Rattle.trace_report.specs.Outputs.{clone_text}
use Rattle.trace_report.specs.TraceText.{entry_line}
use Rattle.trace_writer.specs.Texts.{body}

-- ---- clone_text

-- a name line and the lines are the text
pub text_is : (net : Net) (k : Clone) (name : List ℕ) → name ≡ k.name
    → (codes "clone " ++ name ++ codes "\n") ++ body net k ≡ clone_text net k
unfolding body
text_is net k name e = ap (λ n. (codes "clone " ++ n ++ codes "\n") ++ flat_map (entry_line net) (trace_of net k)) e

-- the clone at a place, in terms of lists of pieces
pub clone_text-clone_at : (net : Net) (cs : List Clone) (c : ℕ)
    → clone_text net (clone_at cs c) ≡ clone_text net (get_or cs c nobody)
clone_text-clone_at net cs c = ap (clone_text net) (unwrap_or-slice_get cs c nobody)
