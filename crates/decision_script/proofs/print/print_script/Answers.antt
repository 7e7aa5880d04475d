use Rattle.std.proofs.Common.{ap, ◌∙◌}
use Rattle.decision_script.specs.Stating.{ScriptView}
use Rattle.decision_script.specs.Printing.{canonical_text}
use Rattle.decision_script.proofs.TextParts.{text_in_parts}
use Rattle.decision_script.proofs.print.print_script.Goals as goal

pub returns : goal.returns
returns c =
    let whole : ScriptView = record {
      analysts = c.script.inside.analysts.items;
      items = c.script.inside.items.items;
    } in
    record {
      value = rw (
        c.in_ok-push_items.ensures.value,
        c.in_ok-push_sections.ensures.value,
        c.new-out.ensures.items,
        c.other_analysts.ensures.value,
        c.as_slice-analysts.ensures.value,
        c.as_slice.ensures.value,
      )
          (text_in_parts whole ∙ ap canonical_text c.script.view_is);
    }
