-- Sinks as contracts see them, and what was put into them.
use Rattle.std.specs.Prelude.{◌≡◌, ◌⊎◌, ℕ, List, [], ◌∷◌, length, Result, Ok, Err}
use Rattle.std.specs.List.{concat}
use Rattle.sim_outer.specs.Bytes.{IsAppended}
use Rattle.sim_outer.specs.Counts.{AreCounted}
use Rattle.sim_outer.specs.Views.{SinkView}
use Rattle.trace_writer.specs.Puts.{AreCut}
use Rattle.cloner_top.specs.declared.halt.Halt.{Halt}
use Rattle.cloner_top.specs.declared.halt.Halt.TheVariants.{Refused, Overrun}
use Rattle.cloner_top.specs.declared.refusal.Refusal.{Refusal}
use Rattle.cloner_top.specs.declared.refusal.Refusal.TheVariants.{OutOfMemory, Stopped, Exceeded, CannotWrite}
use Rattle.cloner_top.specs.Endings.{Ending, HasWritten, IsExcessOf, early_stop}

-- each text was put, in one call
pub record ArePut (texts : List (List ℕ)) (old new : SinkView) : Type 0 where
  pub bytes : IsAppended old.bytes (concat texts) new.bytes
  pub calls : AreCounted (length texts) old.calls new.calls

-- each text was put, in one call, or they were cut off: after some whole texts the sink took a prefix of the next one,
-- in a call that failed and was the last
abbrev pub ArePutOrCut : List (List ℕ) → SinkView → SinkView → Type 0
ArePutOrCut texts old new = ArePut texts old new ⊎ AreCut texts old new

-- a study with an allowed ending was written
pub record IsStudyPut (P : Ending → Type 0) (old_steps new_steps : ℕ) (old new : SinkView) : Type 0 where
  pub texts : List (List ℕ)
  pub wrote : HasWritten P old_steps new_steps texts
  pub put : ArePut texts old new

-- a study with an allowed ending was cut off
pub record IsStudyCut (P : Ending → Type 0) (old_steps new_steps : ℕ) (old new : SinkView) : Type 0 where
  pub texts : List (List ℕ)
  pub wrote : HasWritten P old_steps new_steps texts
  pub cut : AreCut texts old new

-- why it was not written, if only an error line is put
abbrev pub IsFailed : (Ending → Type 0) → ℕ → ℕ → SinkView → SinkView → Refusal → Type 0
IsFailed P old_steps new_steps old new OutOfMemory = new ≡ old
IsFailed P old_steps new_steps old new (Stopped stop) = P (early_stop stop) × (new_steps ≡ old_steps) × (new ≡ old)
IsFailed P old_steps new_steps old new (Exceeded excess) = IsExcessOf P old_steps new_steps [] excess × (new ≡ old)
IsFailed P old_steps new_steps old new CannotWrite = IsStudyCut P old_steps new_steps old new
IsFailed P old_steps new_steps old new refusal = ⊥

-- why it was not written, and what is put before the error line
abbrev pub IsHalted : (Ending → Type 0) → ℕ → ℕ → SinkView → SinkView → Halt → Type 0
IsHalted P old_steps new_steps old new (Refused refusal) = IsFailed P old_steps new_steps old new refusal
IsHalted P old_steps new_steps old new (Overrun journal excess) =
    IsExcessOf P old_steps new_steps (journal.items ∷ []) excess × (new ≡ old)

-- the result of a call that writes: the texts of an allowed ending, or why not
abbrev pub IsDone : {T : Type 0} → (Ending → Type 0) → ℕ → ℕ → SinkView → SinkView → Result T Refusal → Type 0
IsDone P old_steps new_steps old new (Ok t) = IsStudyPut P old_steps new_steps old new
IsDone P old_steps new_steps old new (Err r) = IsFailed P old_steps new_steps old new r

-- why texts were not put
abbrev pub IsNotPut : List (List ℕ) → SinkView → SinkView → Refusal → Type 0
IsNotPut texts old new OutOfMemory = new ≡ old
IsNotPut texts old new CannotWrite = AreCut texts old new
IsNotPut texts old new refusal = ⊥

-- the result of a call that puts texts
abbrev pub AreDone : {T : Type 0} → List (List ℕ) → SinkView → SinkView → Result T Refusal → Type 0
AreDone texts old new (Ok t) = ArePut texts old new
AreDone texts old new (Err r) = IsNotPut texts old new r

-- why a run has nothing to write: out of memory, or a limit was exceeded
abbrev pub IsNoRun : (Ending → Type 0) → ℕ → ℕ → Refusal → Type 0
IsNoRun P old_steps new_steps OutOfMemory = Unit {0}
IsNoRun P old_steps new_steps (Exceeded excess) = IsExcessOf P old_steps new_steps [] excess
IsNoRun P old_steps new_steps refusal = ⊥
