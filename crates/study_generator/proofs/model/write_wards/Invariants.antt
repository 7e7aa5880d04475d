use Rattle.std.proofs.Common.{◌≡◌, ◌-◌, ◌++◌, string_bytes}
use Rattle.std.specs.List.{flat_map, range_with_len}
use Rattle.study_generator.specs.Texts.{ward_text}
use Rattle.study_generator.proofs.model.write_wards.Given as goal

abbrev pub invariant-wards : goal.invariant-wards
invariant-wards l = string_bytes l.text ≡ string_bytes l.fn.text ++ flat_map ward_text (range_with_len 1 (l.i - 1))
