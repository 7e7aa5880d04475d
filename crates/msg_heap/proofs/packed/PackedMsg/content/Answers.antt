use Rattle.std.proofs.Common.{◌≡◌, IfSome, IfNone, subst}
use Rattle.sim_base.specs.Order.{payload_index}
use Rattle.sim_base.specs.declared.message.Msg.{Msg}
use Rattle.msg_heap.specs.Contents.{as_payload}
use Rattle.msg_heap.specs.Packing.{unpacked}
use Rattle.msg_heap.proofs.packed.PackedMsg.content.Goals as goal

pub returns : goal.returns
unfolding unpacked
returns c = record {
  value = subst (λ (m : Msg). IfSome c.content_of_word.result (λ q. as_payload q ≡ m.payload)) c.self.view_is
      c.content_of_word.ensures.value;
  none = subst (λ (m : Msg). IfNone c.content_of_word.result (payload_index m.payload ≡ 3)) c.self.view_is
      c.content_of_word.ensures.none;
}
