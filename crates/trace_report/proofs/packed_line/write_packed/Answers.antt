use Rattle.std.proofs.Common.{◌≡◌, ◌≤◌, ◌+◌, ◌∙◌, ◌++◌, arith, take}
use Rattle.log_chain.specs.Packing.{unpacked_entry}
use Rattle.trace_report.specs.TraceText.{entry_line}
use Rattle.trace_report.proofs.Lines.{line_of_pieces, place_behind}
use Rattle.trace_report.proofs.packed_line.write_packed.Goals as goal

pub returns : goal.returns
returns c =
    let entry = unpacked_entry c.args.packed.now in
    let first = c.put_start-at.ensures.written in
    let second = c.put_payload-at.ensures.written in
    let third = c.put_counts-at.ensures.written in
    let last = c.put1.ensures.written in
    let text : take c.put1.result c.put1.new.bytes
    ≡ take c.args.at c.args.bytes.now ++ entry_line c.args.model.now (unpacked_entry c.args.packed.now)
    = last.text
    ∙ rw (third.text, c.word.ensures.value, second.text, first.text)
    (line_of_pieces c.args.model.now entry.msg.key entry.msg.to entry.msg.payload entry.line
    (take c.args.at c.args.bytes.now)) in
    let size = last.size ∙ third.size ∙ second.size ∙ first.size in
    let most : c.put1.result ≤ c.args.at + 173
    = omega (arith, last.end_max, third.end_max, second.end_max, first.end_max) in
    record {
      written = record {
        text = text;
        size = size;
        place = place_behind c.args.at c.put1.result c.args.bytes.now c.put1.new.bytes _ text
            (omega (arith, c.requires.free)) (omega (arith, size, most, c.requires.free));
      };
      at_most = most;
    }
