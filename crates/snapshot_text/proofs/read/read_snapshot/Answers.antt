use Rattle.std.proofs.Common.{sym, subst}
use Rattle.checkpoint.specs.Snapshots.{SnapshotView}
use Rattle.snapshot_text.specs.SnapshotTexts.{IsSayable}
use Rattle.snapshot_text.proofs.TextLaws.{read-sayable}
use Rattle.snapshot_text.proofs.read.read_snapshot.Goals as goal

pub if_good-requires : goal.if_good-requires
if_good-requires c = record {
  sayable = λ valid. subst (λ (x : SnapshotView). IsSayable c.args.model.now x) (sym c.snapshot.ensures.value)
      (read-sayable c.args.model.now valid c.args.text.now c.in-Ok.reader c.in-Ok.ensures.ok).1;
}
