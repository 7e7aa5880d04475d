-- A run that is resumed from the states and the pending messages of another continues after the trace of that run.
use Rattle.std.proofs.Common.{◌≡◌, inl, inr, refl, ap, sym, subst, ◌∙◌, List, [], length, append-nil}
use Rattle.sim_base.specs.Order.{msg_cmp}
use Rattle.sim_base.specs.declared.message.Msg.{Msg}
use Rattle.run_laws.specs.Queue.{insert_all, Sorted}
use Rattle.run_laws.proofs.MessageOrder.{messages_ordered}
use Rattle.run_laws.proofs.Queue.{in_insert_all, insert_all_new, same_elements, sorted_insert_all}
use Rattle.net_model.specs.Net.{Net}
use Rattle.stations.specs.Handling.{StateView}
use Rattle.solo_run.specs.SoloView.{Entries, IsSolo, IsSoloAfter, IsStateAfter, SoloView}

-- ---- insert_all

-- messages in their order make the same list when they are inserted
pub insert_all-sorted : (ms : List Msg) → Sorted msg_cmp ms → insert_all msg_cmp ms [] ≡ ms
insert_all-sorted ms sorted = same_elements messages_ordered.total (insert_all msg_cmp ms []) ms
    (sorted_insert_all messages_ordered ms [] tt) sorted
    (λ z i. elim (in_insert_all messages_ordered ms [] z i) [ inl old ↦ old | inr none ↦ absurd none ])
    (λ z i. insert_all_new messages_ordered ms [] z i)

-- ---- IsSoloAfter

module _ (net : Net) (v : SoloView) (solo : IsSolo net v) where
  -- the same run with nothing in its trace
  abbrev cut : SoloView
  cut = record { states = v.states; pending = v.pending; trace = [] }

  -- continues after the trace
  IsSoloAfter-cut : IsSoloAfter net v.trace cut
  IsSoloAfter-cut =
      let whole = append-nil v.trace in
      record {
        valid = solo.valid;
        count = solo.count;
        states = λ i st at. subst (λ (t : Entries). IsStateAfter net t i st) (sym whole) (solo.states i st at);
        sorted = solo.sorted;
        targets = solo.targets;
        total = ap (λ (t : Entries). length t) whole ∙ solo.total;
        below = refl;
      }

  -- and so does the run that is resumed from its states and its pending messages
  pub IsSoloAfter-resumed : (states : List StateView) (due : List Msg) (w : SoloView) → states ≡ v.states
      → due ≡ v.pending → w ≡ record { states = states; pending = insert_all msg_cmp due []; trace = [] }
      → IsSoloAfter net v.trace w
  IsSoloAfter-resumed states due w same_states same_due is =
      let same_pending = ap (λ (ms : List Msg). insert_all msg_cmp ms []) same_due
      ∙ insert_all-sorted v.pending solo.sorted in
      let same : w ≡ cut = is ∙ (λ i. record { states = same_states i; pending = same_pending i; trace = [] }) in
      subst (λ (u : SoloView). IsSoloAfter net v.trace u) (sym same) IsSoloAfter-cut
