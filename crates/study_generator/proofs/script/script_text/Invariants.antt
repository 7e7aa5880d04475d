use Rattle.std.proofs.Common.{◌≡◌, ◌-◌, string_bytes}
use Rattle.std.specs.List.{flat_map, range_with_len}
use Rattle.study_generator.proofs.Plans.{plan_text}
use Rattle.study_generator.proofs.script.script_text.Given as goal

abbrev pub invariant-plans : goal.invariant-plans
invariant-plans l = string_bytes l.text ≡ flat_map plan_text (range_with_len 1 (l.j - 1))
