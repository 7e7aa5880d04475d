use Rattle.std.proofs.Common.{◌≡◌, ◌≤◌, ◌++◌, arith, length, take}
use Rattle.trace_report.specs.TraceText.{entry_line}
use Rattle.trace_report.proofs.Lines.{line_of_parts, place_behind}
use Rattle.trace_report.proofs.line.write_line.Goals as goal

pub returns : goal.returns
returns c =
    let entry = c.args.entry.now in
    let text : take c.put_end.result c.put_end.new.bytes ≡ take c.args.at c.args.bytes.now
    ++ entry_line c.args.model.now c.args.entry.now
    = rw (
      c.put_end.ensures.written.text,
      c.put-at.ensures.written.text,
      c.put_payload-at.ensures.written.text,
      c.put_key-at.ensures.written.text,
    ) (line_of_parts c.args.model.now entry.msg.key entry.msg.to entry.msg.payload entry.line
    (take c.args.at c.args.bytes.now)) in
    let size : length c.put_end.new.bytes ≡ length c.args.bytes.now
    = omega (
      arith,
      c.put_end.ensures.written.size,
      c.put-at.ensures.written.size,
      c.put_payload-at.ensures.written.size,
      c.put_key-at.ensures.written.size,
    ) in
    let within : c.put_end.result ≤ length c.put_end.new.bytes
    = omega (
      arith,
      size,
      c.requires.free,
      c.put_end.ensures.written.end_max,
      c.put-at.ensures.written.place,
      c.put_payload-at.ensures.written.end_max,
      c.put_key-at.ensures.written.end_max,
    ) in
    record {
      written = record {
        text = text;
        size = size;
        place = place_behind c.args.at c.put_end.result c.args.bytes.now c.put_end.new.bytes _ text
            (omega (arith, c.requires.free)) within;
      };
    }
