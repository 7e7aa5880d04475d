use Rattle.std.proofs.Common.{◌≡◌, ◌+◌, ◌-◌, ◌∙◌, append_assoc, arith}
use Rattle.std.specs.List.{flat_map, range_with_len}
use Rattle.decision_script.specs.Printing.{line_text, words_of_decision}
use Rattle.study_generator.specs.declared.script.TheConstants.{PLANS}
use Rattle.study_generator.specs.Scripts.{fork_of_plan, set_of_plan}
use Rattle.study_generator.proofs.Plans.{plan_text, plans_are_canonical}
use Rattle.study_generator.proofs.Ranges.{texts-more}
use Rattle.study_generator.proofs.script.script_text.Goals as goal

pub plans-preserved : goal.plans-preserved
plans-preserved c =
    let before = flat_map plan_text (range_with_len 1 (c.plans.j - 1)) in
    let fork = line_text (words_of_decision (fork_of_plan c.plans.j)) in
    let set = line_text (words_of_decision (set_of_plan c.plans.j)) in
    rw (
      c.in_ok-write_set.ensures.value,
      c.in_ok-write_fork.ensures.value,
      c.plans.invariant,
      texts-more plan_text 1 c.plans.j (omega arith),
    ) (append_assoc before fork set)

pub returns : goal.returns
returns c =
    let e : c.plans.j ≡ PLANS + 1 = omega arith in
    record { value = rw c.into_bytes.ensures.value (c.plans.invariant ∙ rw e plans_are_canonical) }
