use Rattle.std.proofs.Common.{ap, sym, ◌++◌, string_bytes}
use Rattle.study_generator.proofs.Plans.{set_of_plan-line}
use Rattle.study_generator.proofs.script.write_set.Goals as goal

pub returns : goal.returns
returns c = record {
  value = rw c.in_ok-write.ensures.bytes
      (ap (λ x. string_bytes c.args.text.now ++ x) (sym (set_of_plan-line c.args.j)));
}
