use Rattle.std.proofs.Common.{◌≡◌, ◌++◌, drop, map}
use Rattle.std.specs.List.{flat_map}
use Rattle.decision_script.specs.Printing.{line_text, words_of_section}
use Rattle.decision_script.proofs.print.push_sections.Given as goal

abbrev pub invariant-names : goal.invariant-names
invariant-names l = l.out.items ++ flat_map line_text (map words_of_section (drop l.name-index l.names))
    ≡ l.fn.out.items ++ flat_map line_text (map words_of_section l.names)
