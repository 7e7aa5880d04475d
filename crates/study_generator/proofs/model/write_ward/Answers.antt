use Rattle.std.proofs.Common.{refl, append_assoc}
use Rattle.study_generator.proofs.model.write_ward.Goals as goal

pub returns : goal.returns
returns c = record {
  value = rw (c.in_ok-push_str.ensures.bytes, c.in_ok-write-2.ensures.bytes, c.in_ok-write.ensures.bytes)
      (simp append_assoc refl);
}
