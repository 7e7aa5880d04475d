use Rattle.std.proofs.Common.{refl, append_assoc, arith}
use Rattle.study_generator.specs.Texts.{ward_text}
use Rattle.study_generator.proofs.Ranges.{texts-more}
use Rattle.study_generator.proofs.model.write_wards.Goals as goal

pub wards-preserved : goal.wards-preserved
wards-preserved c =
    let more = texts-more ward_text 1 c.wards.i (omega arith) in
    rw (c.in_ok-write_ward.ensures.value, c.wards.invariant, more) (simp append_assoc refl)
