use Rattle.std.proofs.Common.{◌≡◌, ◌∙◌, ap, length, sym, subst}
use Rattle.net_model.specs.Net.{Net}
use Rattle.world_core.specs.Worlds.{WorldView, opening_world}
use Rattle.live_study.specs.Opening.{AreOpeningRacks}
use Rattle.live_study.proofs.study.open_world_and_racks.Goals as goal

pub returns : goal.returns
returns c =
    let racks = c.in_ok-racks.racks.items in
    let same = c.opening_racks.ensures.same in
    let world : c.opening_racks.new.world ≡ opening_world c.args.model.now.value = same ∙ c.in_ok-world.ensures.begins
    ∙ ap opening_world c.in_ok-try_clone.ensures in
    record {
      world = world;
      racks = subst (λ (n : Net). AreOpeningRacks c.opening_racks.new.world (length n.sites) racks)
          (ap (λ (w : WorldView). w.net) world)
          (subst (λ (w : WorldView). AreOpeningRacks w (length w.net.sites) racks) (sym same)
          c.in_ok-racks.ensures.opening);
    }
