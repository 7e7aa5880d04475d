use Rattle.std.proofs.Common.{◌≡◌, ◌++◌, drop, length}
use Rattle.std.specs.List.{flat_map}
use Rattle.decision_script.specs.Printing.{item_lines, line_text}
use Rattle.decision_script.proofs.print.push_items.Given as goal

abbrev pub invariant-items : goal.invariant-items
invariant-items l = l.out.items ++ flat_map line_text (item_lines l.analysts l.force (drop l.item-index l.items))
    ≡ l.fn.out.items ++ flat_map line_text (item_lines l.analysts (length l.analysts) l.items)
