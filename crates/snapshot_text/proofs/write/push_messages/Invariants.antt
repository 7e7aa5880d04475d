use Rattle.std.proofs.Common.{◌≡◌, ◌++◌, drop, map}
use Rattle.std.specs.List.{flat_map}
use Rattle.snapshot_lines.specs.Forms.{line_of}
use Rattle.snapshot_lines.specs.Texts.{ended}
use Rattle.snapshot_lines.specs.Grammar.{message_line}
use Rattle.snapshot_text.proofs.write.push_messages.Given as goal

abbrev pub invariant-loop-message : goal.invariant-loop-message
invariant-loop-message l = l.out.items ++ flat_map ended (map (line_of message_line) (drop l.message-index l.due))
    ≡ l.fn.out.items ++ flat_map ended (map (line_of message_line) l.due)
