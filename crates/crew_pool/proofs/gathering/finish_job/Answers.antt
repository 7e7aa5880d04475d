use Rattle.std.proofs.Common.{◌∙◌}
use Rattle.crew_pool.proofs.gathering.finish_job.Goals as goal

pub collect-requires-clause-given : goal.collect-requires-clause-given
collect-requires-clause-given g c κs within =
    (c.requires.given.0, c.in-None.ensures.value ∙ c.requires.given.1)

pub returns-in-None-clause-end : goal.returns-in-None-clause-end
returns-in-None-clause-end g c job e = c.collect.ensures.answer job (c.in-None.ensures.value ∙ e)
