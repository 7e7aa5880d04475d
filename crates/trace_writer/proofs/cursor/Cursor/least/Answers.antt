use Rattle.std.proofs.Common.{◌∙◌, ◌%◌, ap, arith}
use Rattle.sim_base.specs.declared.message.TheConstants.{WORD_PLACES}
use Rattle.trace_writer.specs.Cursors.{CursorView}
use Rattle.trace_writer.specs.Words.{word_of}
use Rattle.trace_writer.proofs.Popping.{next_word}
use Rattle.trace_writer.proofs.cursor.Cursor.least.Goals as goal

pub returns : goal.returns
returns g c =
    let w = c.least.result in
    record {
      next = record {
        place = w % WORD_PLACES;
        within = omega arith;
        is = next_word w c.self.inside.tree c.self.inside.walks.items _ _ c.self.invariant c.least.ensures.value
            ∙ ap (λ (v : CursorView). word_of (w % WORD_PLACES) v.left) c.self.view_is;
      };
    }
