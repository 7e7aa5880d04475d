use Rattle.std.proofs.Common.{ap, sym, ◌∙◌, arith, length, refl}
use Rattle.std.specs.Prelude.{slice_get}
use Rattle.std.proofs.lemmas.Option.{slice_get_read, slice_get_past}
use Rattle.sim_base.specs.Blocks.{is_there}
use Rattle.sim_base.specs.Order.{msg_cmp}
use Rattle.sim_base.proofs.pending.block.Block.has_at.Goals as goal

pub returns-then-place-len : goal.returns-then-place-len
returns-then-place-len g c =
    let past = slice_get_past c.self.inside.items.items c.args.place (omega arith) in
    record {
      value = ap (is_there msg_cmp c.args.msg.now) (sym past)
          ∙ ap (λ xs. is_there msg_cmp c.args.msg.now (slice_get xs c.args.place)) c.self.view_is;
    }

pub returns : goal.returns
returns g c =
    let there = slice_get_read c.self.inside.items.items (length c.self.inside.items.items) c.args.place
    c.index.result.now refl (omega arith) c.index.ensures in
    record {
      value =
          c.is_same.ensures.value ∙ ap (is_there msg_cmp c.args.msg.now) (sym there)
          ∙ ap (λ xs. is_there msg_cmp c.args.msg.now (slice_get xs c.args.place)) c.self.view_is;
    }
