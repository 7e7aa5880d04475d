use Rattle.std.proofs.Common.{◌≡◌, refl, take, arith}
use Rattle.std.specs.List.{zip}
use Rattle.std.proofs.lemmas.List.{take_all}
use Rattle.std.proofs.lemmas.Slice.Zip.{length-zip}
use Rattle.net_model.specs.Sites.{as_site}
use Rattle.trace_report.proofs.StationLines.{station_lines_more}
use Rattle.trace_report.proofs.report.write_stations.Goals as goal

pub loop-s-preserved : goal.loop-s-preserved
loop-s-preserved c =
    let more = station_lines_more c.args.model.now c.args.figures.now c.loop-s.s (as_site c.station.result.now)
    (record { copies = 0; handled = 0; alone = 0 }) (take c.args.start c.args.bytes.now) (omega arith)
    (omega arith) c.station.ensures.value in (
      cc (more, c.write_figures-at.ensures.written.text, c.loop-s.invariant.0),
      omega (arith, c.write_figures-at.ensures.written.end_max, c.loop-s.invariant.1),
    )

pub returns : goal.returns
returns c =
    let sites = c.args.model.now.sites in
    let whole : take c.loop-s.s (zip sites c.args.figures.now) ≡ zip sites c.args.figures.now =
    take_all c.loop-s.s _ (omega (arith, length-zip sites c.args.figures.now)) in
    record {
      written = record {
        text = rw (c.loop-s.invariant.0, whole) refl;
        size = omega arith;
        end_max = omega arith;
      };
    }
