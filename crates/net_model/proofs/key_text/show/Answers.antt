use Rattle.std.proofs.Common.{sym, ap, ◌∙◌, ◌<◌, length, arith, slice_set}
use Rattle.std.proofs.lemmas.Grind.{get_or_default_zero}
use Rattle.std.proofs.lemmas.List.Edits.{map_over_more}
use Rattle.net_model.specs.KeyTexts.{shown_byte}
use Rattle.net_model.proofs.key_text.show.Goals as goal

pub loop-byte-preserved : goal.loop-byte-preserved
loop-byte-preserved c =
    let within : c.loop-byte.byte-index < length c.args.bytes.now = c.loop-byte-test.true in
    ap (slice_set c.loop-byte.bytes c.loop-byte.byte-index) c.shown_byte.ensures
    ∙ map_over_more shown_byte c.args.bytes.now c.loop-byte.bytes c.loop-byte.byte-index _ within
    c.loop-byte.invariant (sym (get_or_default_zero c.loop-byte.bytes c.loop-byte.byte-index _
    (omega (arith, c.loop-byte.auto.bytes, within))))
