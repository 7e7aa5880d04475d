use Rattle.live_study.proofs.study.prepare.Goals as goal

pub returns : goal.returns
returns c = record {
  value = record {
    world = c.in_ok-world.ensures.world;
    racks = c.in_ok-world.ensures.racks;
    passes = c.in_ok-desk.ensures.passes;
    helm = c.in_ok-desk.ensures.helm;
    reserve = c.in_ok-reserve.ensures.value;
  };
}
