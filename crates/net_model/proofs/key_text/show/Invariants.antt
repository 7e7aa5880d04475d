use Rattle.std.proofs.Common.{◌≡◌, ◌++◌, map, take, drop}
use Rattle.net_model.specs.KeyTexts.{shown_byte}
use Rattle.net_model.proofs.key_text.show.Given as goal

abbrev pub invariant-loop-byte : goal.invariant-loop-byte
invariant-loop-byte l = l.bytes ≡ map shown_byte (take l.byte-index l.fn.bytes) ++ drop l.byte-index l.fn.bytes
