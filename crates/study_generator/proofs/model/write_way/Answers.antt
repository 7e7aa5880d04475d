use Rattle.std.proofs.Common.{refl, append_assoc}
use Rattle.study_generator.proofs.model.write_way.Goals as goal

pub returns : goal.returns
returns c = record { value = rw c.in_ok-write.ensures.bytes (simp append_assoc refl) }
