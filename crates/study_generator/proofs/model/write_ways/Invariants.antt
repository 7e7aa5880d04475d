use Rattle.std.proofs.Common.{◌≡◌, ◌-◌, ◌++◌, codes, string_bytes}
use Rattle.std.specs.List.{flat_map, range_with_len}
use Rattle.study_generator.specs.Texts.{way_text}
use Rattle.study_generator.proofs.model.write_ways.Given as goal

abbrev pub invariant-further : goal.invariant-further
invariant-further l =
    string_bytes l.text
    ≡ string_bytes l.fn.text ++ way_text 1 ++ flat_map (λ i. codes ", " ++ way_text i) (range_with_len 2 (l.i - 2))
