use Rattle.std.proofs.Common.{refl, append_assoc, codes, ◌++◌, ◌≡◌, ◌+◌, ◌-◌, arith, string_bytes}
use Rattle.std.specs.List.{flat_map, range_with_len}
use Rattle.study_generator.specs.Texts.{way_text}
use Rattle.study_generator.proofs.Ranges.{join_by-range, texts-more}
use Rattle.study_generator.proofs.model.write_ways.Goals as goal

pub further-preserved : goal.further-preserved
further-preserved c = rw (
  c.in_ok-write_way-2.ensures.value,
  c.in_ok-push_str.ensures.bytes,
  c.further.invariant,
  texts-more (λ i. codes ", " ++ way_text i) 2 c.further.i (omega arith),
) (simp append_assoc refl)

pub returns : goal.returns
returns c =
    let e : c.further.i ≡ c.args.wards + 1 = omega arith in
    let further = flat_map (λ i. codes ", " ++ way_text i) (range_with_len 2 (c.args.wards + 1 - 2)) in
    record {
      value = rw (join_by-range way_text (codes ", ") c.args.wards c.requires.at_least, c.further.invariant, e)
          (append_assoc (string_bytes c.args.text.now) (way_text 1) further);
    }
