-- When the texts of a run may be put, and what they are once all memory is allocated.
use Rattle.std.specs.Prelude.{◌≡◌, List}
use Rattle.sim_base.specs.Clones.{Clone}
use Rattle.net_model.specs.Net.{Net}
use Rattle.trace_report.specs.Outputs.{report}
use Rattle.world_core.specs.Worlds.{WorldView}
use Rattle.study_run.specs.Reports.{MayReport}
use Rattle.trace_writer.specs.Texts.{AreTextsReady}
use Rattle.trace_writer.specs.WorldTraces.{AreShort}
use Rattle.cloner_top.specs.declared.putting.RunTexts.{RunTexts}

-- the report of a world may be made, and its clones have few enough decisions for their traces
pub record MayPutRun (net : Net) (world : WorldView) : Type 0 where
  pub may_report : MayReport net world
  pub length_max : AreShort world.clones

-- the prepared texts are those of these clones, and their report
pub record IsReadyRun (net : Net) (clones : List Clone) (run : RunTexts) : Type 0 where
  pub net_is : run.traces.net ≡ net
  pub clones_are : run.traces.clones ≡ clones
  pub ready : AreTextsReady run.traces.net run.traces.clones run.texts
  pub report_is : run.report.items ≡ report net clones
