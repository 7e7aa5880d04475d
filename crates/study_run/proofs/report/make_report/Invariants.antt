use Rattle.std.proofs.Common.{◌≡◌}
use Rattle.trace_report.specs.Outputs.{figures_to}
use Rattle.study_run.proofs.report.make_report.Given as goal

abbrev pub invariant-loop-s : goal.invariant-loop-s
invariant-loop-s l = l.figures.items ≡ figures_to l.model l.world.clones l.s
