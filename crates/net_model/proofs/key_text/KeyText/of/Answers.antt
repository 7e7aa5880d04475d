use Rattle.std.proofs.Common.{ap, ◌∙◌}
use Rattle.net_model.specs.KeyTexts.{key_text}
use Rattle.net_model.proofs.KeyBytes.{key_text_bytes, key_text_padded}
use Rattle.net_model.proofs.key_text.KeyText.of.Goals as goal

pub invariant_of-result : goal.invariant_of-result
invariant_of-result c =
    key_text_padded c.as_bytes-text.result.now c.min-len.result c.copy_from_slice.new.self c.show.new.bytes
    c.min-len.ensures c.copy_from_slice.ensures.after c.show.ensures

pub returns : goal.returns
returns c =
    key_text_bytes c.as_bytes-text.result.now c.min-len.result c.copy_from_slice.new.self c.show.new.bytes
    c.min-len.ensures c.copy_from_slice.ensures.after c.show.ensures
    ∙ ap key_text c.as_bytes-text.ensures.value
