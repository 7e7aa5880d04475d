use Rattle.std.proofs.Common.{length, ap, sym, ◌∙◌, arith, length-drop}
use Rattle.log_chain.proofs.log.Log.get.Goals as goal

pub unreachable-requires : goal.unreachable-requires
unreachable-requires c =
    omega (
      arith,
      ap length (sym c.in-None.ensures.none.0 ∙ c.walk_from-walk.ensures.value),
      length-drop c.args.i c.args.self.now,
      c.requires.in_range,
    )
