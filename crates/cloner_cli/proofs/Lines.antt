-- A line that is put.
use Rattle.std.proofs.Common.{inl, inr, List, ℕ, [], ◌∷◌, Result, Ok, Err, OnOk, OnErr}
use Rattle.sim_outer.specs.Bytes.{IsAppended, IsPrefixAppended}
use Rattle.sim_outer.specs.Counts.{IsCounted, HasRisen}
use Rattle.sim_outer.specs.Views.{SinkView}
use Rattle.cloner_top.specs.Outsides.{ArePutOrCut}
use Rattle.cloner_top.proofs.Puts.{cut_one, put_one}

-- whatever the result of the call, the line was put or cut off
pub told_one : {T X : Type 0} (r : Result T X) (line : List ℕ) (old new : SinkView)
    → OnOk r (IsAppended old.bytes line new.bytes) → OnErr r (IsPrefixAppended old.bytes line new.bytes)
    → OnErr r (HasRisen old.faults new.faults) → IsCounted old.calls new.calls → ArePutOrCut (line ∷ []) old new
told_one (Ok t) line old new ok part cause counted = inl (put_one line old new ok counted)
told_one (Err x) line old new ok part cause counted = inr (cut_one line old new part cause counted)
