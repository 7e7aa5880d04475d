-- The two parts of the canonical text.
use Rattle.std.proofs.Common.{◌≡◌, sym, length, drop, map, ◌++◌}
use Rattle.std.specs.List.{flat_map}
use Rattle.std.proofs.lemmas.List.Concat.{flat_map-append}
use Rattle.decision_script.specs.Stating.{ScriptView}
use Rattle.decision_script.specs.Printing.{canonical_text, item_lines, line_text, words_of_section}

-- the text of the section lines at the top and the text of the items are together the canonical text
pub text_in_parts : (s : ScriptView) → flat_map line_text (map words_of_section (drop 1 s.analysts))
    ++ flat_map line_text (item_lines s.analysts (length s.analysts) s.items) ≡ canonical_text s
unfolding canonical_text
text_in_parts s = sym (flat_map-append line_text (map words_of_section (drop 1 s.analysts))
    (item_lines s.analysts (length s.analysts) s.items))
