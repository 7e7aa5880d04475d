use Rattle.std.proofs.Common.{◌∙◌, subst, IsUtf8}
use Rattle.std.proofs.lemmas.Str.{is_utf8-from_IsUtf8}
use Rattle.command_words.proofs.given.recall_text.Goals as goal

pub returns : goal.returns
returns c = record {
  text = is_utf8-from_IsUtf8 c.args.word.now
      (subst IsUtf8 (c.as_bytes-bytes.ensures.value ∙ c.text.ensures.value) c.as_bytes-bytes.ensures.utf8);
}
