use Rattle.std.proofs.Common.{◌≡◌, ◌≤◌, length}
use Rattle.sim_base.specs.Clones.{clone_at}
use Rattle.stations.specs.Good.{sender_of, number_of}
use Rattle.stations.specs.Runs.{simulation}
use Rattle.run_laws.specs.Beginnings.{merge_from}
use Rattle.trace_writer.specs.Words.{entry_word}
use Rattle.trace_writer.proofs.text_rest.fill_merge.Given as goal

abbrev pub invariant-loop-s : goal.invariant-loop-s
invariant-loop-s l = record {
  left : l.merge.left ≡ merge_from (simulation l.traces-inside.world.now.net) sender_of number_of entry_word
      (clone_at l.traces-inside.world.now.clones l.place) l.word l.s;
  logs : l.merge.logs ≡ l.s;
  within : l.s ≤ length l.traces.net.sites;
  most : l.merge.most ≡ l.fn.merge.most;
}
