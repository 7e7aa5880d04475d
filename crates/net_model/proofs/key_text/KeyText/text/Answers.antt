use Rattle.net_model.proofs.KeyBytes.{is_shown-IsUtf8}
use Rattle.net_model.proofs.key_text.KeyText.text.Goals as goal

pub unreachable-requires : goal.unreachable-requires
unreachable-requires c = c.in-Err.ensures.cases.0 (is_shown-IsUtf8 c.as_bytes.result.now c.as_bytes.ensures.shown)
