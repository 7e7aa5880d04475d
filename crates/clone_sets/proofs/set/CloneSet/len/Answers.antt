use Rattle.std.proofs.Common.{◌∙◌, ap, sym, subst, ◌<◌, ◌^◌}
use Rattle.sim_base.specs.declared.lists.TheConstants.{MAX_CLONES}
use Rattle.clone_sets.specs.Sets.{size}
use Rattle.clone_sets.proofs.SetLaws.{below_limit}
use Rattle.clone_sets.proofs.MemberLaws.{length-members}
use Rattle.clone_sets.proofs.WordLaws.{set_of-size, set_of-lt}
use Rattle.clone_sets.proofs.set.CloneSet.len.Goals as goal

pub returns : goal.returns
returns c =
    let value = set_of-size _ _ _ _ c.self.invariant ∙ ap size c.self.view_is in
    let below = subst (λ s. s < 2 ^ MAX_CLONES) c.self.view_is (set_of-lt _ _ _ _ c.self.invariant) in
    record {
      value = value;
      members = value ∙ sym (length-members c.args.self below);
      limit = λ d h.
          below_limit c.args.self MAX_CLONES d below h;
    }
