-- Parts of a text that a crew makes in batches.
use Rattle.std.specs.Prelude.{◌≡◌, ℕ, ◌<◌, ◌≤◌, List, length, Option, IfSome}
use Rattle.crew_pool.specs.Calls.{CallView}
use Rattle.crew_pool.specs.Tasks.{AnswersTo, EachAt}
use Rattle.crew_pool.specs.declared.crew.TheConstants.{MAX_TASKS}
use Rattle.trace_writer.specs.Parts.{AreJoined, AreParts, IsMade}
use Rattle.trace_writer.specs.WorldTraces.{WorldTracesView}
use Rattle.trace_writer.specs.declared.making.MadePart.{MadePart}
use Rattle.trace_writer.specs.declared.making.TextPart.{TextPart}
use Rattle.trace_writer.specs.declared.text_rest.TextRest.{TextRest}

-- each answer has the lines of the part at its place
pub record AreMade (traces : WorldTracesView) (parts : List TextPart) (made : List MadePart) : Type 0 where
  pub count : length made ≡ length parts
  pub each : EachAt (AnswersTo (λ _ part m. IsMade traces part m) parts) made

-- what contracts see of a batch
pub record BatchView : Type 0 where
  pub traces : WorldTracesView
  pub c : ℕ
  pub from : ℕ
  pub until : ℕ

-- the batch is of these traces, and covers a beginning of the rest
pub record IsBatchOf (traces : WorldTracesView) (rest : TextRest) (end : ℕ) (b : BatchView) : Type 0 where
  pub traces_are : b.traces ≡ traces
  pub clone : b.c ≡ rest.c
  pub begin : b.from ≡ rest.from
  pub further : rest.from < b.until
  pub within : b.until ≤ end

-- these parts are made of a beginning of the rest
pub record IsMadeUpTo (traces : WorldTracesView) (rest : TextRest) (parts : List MadePart) (until : ℕ) : Type 0 where
  pub parts_are : AreParts traces rest.c rest.from parts until
  pub further : rest.from < until

-- the makers, if any, make the lines of these traces
abbrev pub MakeFor : WorldTracesView → Option WorldTracesView → Type 0
MakeFor traces makers = IfSome makers (λ m. m ≡ traces)

-- a call of the crew for this work has consecutive parts of this clone, and the next may have at most `most`
pub record IsUnderWay (traces : WorldTracesView) (call : CallView WorldTracesView TextPart) (c from until most : ℕ) :
    Type 0 where
  pub work_is : call.work ≡ traces
  pub joined : AreJoined c from call.items until
  pub at_least : 1 ≤ most
  pub at_most : most ≤ MAX_TASKS
