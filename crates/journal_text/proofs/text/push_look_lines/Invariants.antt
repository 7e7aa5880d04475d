use Rattle.std.proofs.Common.{◌≡◌, ◌++◌, drop}
use Rattle.std.specs.List.{flat_map}
use Rattle.journal_text.specs.JournalText.{look_line}
use Rattle.journal_text.proofs.text.push_look_lines.Given as goal

abbrev pub invariant-looks : goal.invariant-looks
invariant-looks l = l.out.items ++ flat_map (look_line l.script.analysts) (drop l.look-index l.looks) ≡ l.fn.out.items
    ++ flat_map (look_line l.script.analysts) l.looks
