use Rattle.std.proofs.Common.{◌∙◌}
use Rattle.engine_tests.proofs.shelf_looks.three_windows.Goals as goal

pub returns : goal.returns
returns c = record { net = c.in_ok-third.ensures.net ∙ c.in_ok-second.ensures.net ∙ c.in_ok-first.ensures.net }
