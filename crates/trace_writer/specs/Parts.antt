-- Parts of a clone's text: its lines from one word up to another.
use Rattle.std.specs.Prelude.{◌≡◌, ℕ, ◌%◌, ◌<◌, ◌≤◌, List, [], ◌∷◌, length}
use Rattle.sim_base.specs.declared.message.TheConstants.{WORD_PLACES}
use Rattle.sim_outer.specs.Views.{SinkView}
use Rattle.run_laws.specs.Beginnings.{before, from}
use Rattle.trace_writer.specs.Words.{entry_word}
use Rattle.trace_writer.specs.Kept.{lines_text}
use Rattle.trace_writer.specs.Puts.{IsPartPut}
use Rattle.trace_writer.specs.Rests.{MayPut, trace_at}
use Rattle.trace_writer.specs.WorldTraces.{WorldTracesView}
use Rattle.trace_writer.specs.declared.making.MadePart.{MadePart}
use Rattle.trace_writer.specs.declared.making.TextPart.{TextPart}
use Rattle.trace_writer.specs.declared.text_rest.TextRest.{TextRest}
use Rattle.trace_writer.specs.declared.texts.Texts.{Texts}

-- the lines of a clone from one word up to another
abbrev pub part_lines : WorldTracesView → ℕ → ℕ → ℕ → List ℕ
part_lines traces c a b = lines_text traces.net (before entry_word b (from entry_word a (trace_at traces c)))

-- a part of one of these clones, which may be made
pub record IsPart (traces : WorldTracesView) (part : TextPart) : Type 0 where
  pub in_range : part.c < length traces.clones
  pub whole : part.until % WORD_PLACES ≡ 0

-- the part is made
pub record IsMade (traces : WorldTracesView) (part : TextPart) (made : MadePart) : Type 0 where
  pub until_is : made.until ≡ part.until
  pub bytes_are : made.bytes.items ≡ part_lines traces part.c part.from part.until

-- consecutive parts of this clone: the first begins at one word, and the last ends at the other
abbrev pub AreJoined : ℕ → ℕ → List TextPart → ℕ → Type 0
AreJoined c from [] until = from ≡ until
AreJoined c from (p ∷ ps) until =
    (p.c ≡ c) × (p.from ≡ from) × (from ≤ p.until) × (p.until % WORD_PLACES ≡ 0) × AreJoined c p.until ps until

-- the lines of consecutive parts of this clone, from one word up to another
abbrev pub AreParts : WorldTracesView → ℕ → ℕ → List MadePart → ℕ → Type 0
AreParts traces c from [] until = from ≡ until
AreParts traces c from (m ∷ ms) until =
    (from ≤ m.until) × (m.bytes.items ≡ part_lines traces c from m.until) × AreParts traces c m.until ms until

-- of a rest, the lines up to a word are put, and the others may be
pub record IsPutUpTo (traces : WorldTracesView) (rest : TextRest) (until kept : ℕ) (texts : Texts)
    (old new : SinkView) : Type 0 where
  pub order : rest.from ≤ until
  pub taken : IsPartPut (part_lines traces rest.c rest.from until) old new
  pub may : MayPut traces (record rest { from = until; kept_until = kept }) texts

-- of a rest, the lines up to some word are put, and these parts are still to be put, which end at another word
pub record HasPutParts (traces : WorldTracesView) (rest : TextRest) (parts : List MadePart) (until kept : ℕ)
    (texts : Texts) (old new : SinkView) : Type 0 where
  pub word : ℕ
  pub left : AreParts traces rest.c word parts until
  pub put : IsPutUpTo traces rest word kept texts old new
