use Rattle.cloner_top.proofs.Preparing.{fetched_then}
use Rattle.cloner_top.proofs.prepare.prepare.Goals as goal

pub returns-in-Study-clause-fetched : goal.returns-in-Study-clause-fetched
returns-in-Study-clause-fetched g c =
    fetched_then _ _ _ _ _ _ c.fetch_model.ensures.fetched c.prepare_study.ensures.fetched

pub returns-in-Live-clause-fetched : goal.returns-in-Live-clause-fetched
returns-in-Live-clause-fetched g c =
    fetched_then _ _ _ _ _ _ c.fetch_model.ensures.fetched c.prepare_live.ensures.fetched

pub returns-in-Watch-clause-fetched : goal.returns-in-Watch-clause-fetched
returns-in-Watch-clause-fetched g c =
    fetched_then _ _ _ _ _ _ c.fetch_model.ensures.fetched c.prepare_watch.ensures.fetched

pub returns-in-Resume-clause-fetched : goal.returns-in-Resume-clause-fetched
returns-in-Resume-clause-fetched g c =
    fetched_then _ _ _ _ _ _ c.fetch_model.ensures.fetched c.prepare_resume.ensures.fetched
