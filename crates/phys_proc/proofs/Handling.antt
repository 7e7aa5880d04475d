-- A copy that has handled its least message.
use Rattle.std.proofs.Common.{◌≡◌, ℕ, ◌+◌, ◌<◌, List, [], ◌∷◌, ◌++◌}
use Rattle.std.proofs.Common.{refl, sym, ap, ◌∙◌, subst, arith, length, length-append}
use Rattle.std.specs.List.{AllByRecursion}
use Rattle.sim_base.specs.Order.{msg_cmp}
use Rattle.sim_base.specs.declared.message.Msg.{Msg}
use Rattle.sim_base.specs.declared.entry.Line.{Line}
use Rattle.sim_base.specs.declared.entry.Entry.{Entry}
use Rattle.clone_sets.specs.Sets.{has, union}
use Rattle.clone_sets.specs.declared.set.CloneSet.{CloneSet}
use Rattle.clone_sets.proofs.SetLaws.{has-union}
use Rattle.net_model.specs.Net.{Net}
use Rattle.stations.specs.Fits.{FitsState, SuitsNet}
use Rattle.stations.specs.Handling.{StateView, handle}
use Rattle.run_laws.specs.Simulation.{Outcome}
use Rattle.run_laws.specs.World.{to_it}
use Rattle.sim_base.specs.Marked.{SortedMarked}
use Rattle.run_laws.specs.Copies.{insert_marked_all}
use Rattle.run_laws.proofs.Queue.{all_from}
use Rattle.run_laws.proofs.Lists.{in_own}
use Rattle.run_laws.proofs.Parts.{sorted_insert_marked_all}
use Rattle.stations.specs.Opening.{setup}
use Rattle.stations.specs.Runs.{replay}
use Rattle.run_laws.specs.World as world
use Rattle.run_laws.proofs.MessageOrder.{messages_ordered}
use Rattle.phys_proc.specs.Own.{StationCopy, MarkedMessages, AreMarks, IsCopy, IsHandled, pending_after, sent_after}
use Rattle.phys_proc.specs.Events.{HasTaken}
use Rattle.phys_proc.proofs.Halves.{tail_of}
use Rattle.phys_proc.proofs.Sends.{all_inserted_all, marks_inserted_all, marks_join, whole_marks}

-- ---- head_msg

-- the first of some messages, or the default if there are none
abbrev pub head_msg : MarkedMessages → Msg → Msg
head_msg [] d = d
head_msg (x ∷ xs) d = x.0

-- ---- IsHandled

module _ (net : Net) (s : ℕ) (a : StationCopy) (m0 : Msg) (k0 : CloneSet) (q0 : MarkedMessages) (st : StateView)
    (line : Line)
    (out : List Msg) (log : List (Entry Msg Line)) (pending before after : MarkedMessages)
    (there : a.pending ≡ (m0, k0) ∷ q0) (fits : IsCopy net s a) (below : length a.log < net.limit)
    (gives : handle net a.state m0 ≡ record { state = st; sends = out; line = line }) (fits_new : FitsState st)
    (suits_new : SuitsNet net st) (own : st.sender.station ≡ a.state.sender.station)
    (more : st.handled ≡ a.state.handled + 1)
    (log_is : log ≡ a.log ++ record { msg = m0; line = line } ∷ [])
    (pending_is : pending ≡ pending_after s a.set out q0)
    (aside : after ≡ sent_after s a.set out before) where
  -- the copy after the outcome of its first message
  abbrev made : Outcome StateView Msg Line → Msg → MarkedMessages → StationCopy
  made h m q = record {
    set = a.set;
    state = h.state;
    log = a.log ++ record { msg = m; line = h.line } ∷ [];
    pending = insert_marked_all union msg_cmp (to_it (λ (m : Msg). m.to) s h.sends) a.set q;
  }

  -- the copy with the new state, log and pending messages
  abbrev new : StationCopy
  new = record { set = a.set; state = st; log = log; pending = pending }

  -- without the first, the pending messages are in order,
  rest_sorted : SortedMarked msg_cmp q0
  rest_sorted = (subst (SortedMarked msg_cmp) there fits.sorted).1

  -- for this station
  rest_targets : AllByRecursion (λ x. x.0.to ≡ s) q0
  rest_targets = (subst (AllByRecursion (λ x. x.0.to ≡ s)) there fits.targets).1

  -- and marked with clones of the copy
  rest_marks : AllByRecursion (λ x. AreMarks a.set x.1) q0
  rest_marks = (subst (AllByRecursion (λ x. AreMarks a.set x.1)) there fits.marks).1

  -- a log with one entry more is replayed by one message more
  replay_more : (st : StateView) (es : List (Entry Msg Line)) (e : Entry Msg Line)
      → world.replay (λ (m : Msg). m.to) (λ (r : ℕ). handle net) s st (es ++ e ∷ [])
      ≡ (handle net (world.replay (λ (m : Msg). m.to) (λ (r : ℕ). handle net) s st es) e.msg).state
  replay_more st [] e = refl
  replay_more st (x ∷ es) e = replay_more (handle net st x.msg).state es e

  -- with the new state, log and pending messages it is a copy of the station
  new_copy : IsCopy net s new
  new_copy =
      let long : length log ≡ length a.log + 1 =
      ap length log_is ∙ length-append a.log (record { msg = m0; line = line } ∷ []) in
      let h = fits.handled in
      record {
        valid = fits.valid;
        inhabited = fits.inhabited;
        fits = fits_new;
        suits = suits_new;
        station = own ∙ fits.station;
        handled = omega (arith, more, h, long);
        length_max = omega (arith, long, below);
        sorted = subst (SortedMarked msg_cmp) (sym pending_is)
            (sorted_insert_marked_all (λ m k c. has k c) union (λ m x y c. has-union x y c)
            messages_ordered (to_it (λ (m : Msg). m.to) s out) a.set q0 rest_sorted);
        targets = subst (AllByRecursion (λ x. x.0.to ≡ s)) (sym pending_is)
            (all_inserted_all (λ m. m.to ≡ s) a.set (to_it (λ (m : Msg). m.to) s out) q0
            (all_from (λ m. m.to ≡ s) (to_it (λ (m : Msg). m.to) s out)
            (λ z i. (in_own (λ (m : Msg). m.to) s out z i).1)) rest_targets);
        replays = sym (ap (λ (l : List (Entry Msg Line)). replay net s l) log_is
            ∙ (replay_more (setup net s).state a.log (record { msg = m0; line = line })
            ∙ (ap (λ (u : StateView). (handle net u m0).state) (sym fits.replays) ∙ ap (λ h. h.state) gives)));
        marks = subst (AllByRecursion (λ x. AreMarks a.set x.1)) (sym pending_is)
            (marks_inserted_all (AreMarks a.set) (marks_join a.set) a.set
            (whole_marks a.set fits.inhabited.0 fits.inhabited.1) (to_it (λ (m : Msg). m.to) s out) q0 rest_marks);
      }

  -- and it is the old copy with its least message handled
  pub is_handled : IsHandled net s a new before after
  is_handled m k q p =
      let both : (m0, k0) ∷ q0 ≡ (m, k) ∷ q = sym there ∙ p in
      let same : m0 ≡ m = ap (λ l. head_msg l m0) both in
      let tail : q0 ≡ q = ap tail_of both in
      let one : new ≡ made (record { state = st; sends = out; line = line }) m0 q0 =
      λ i. record { set = a.set; state = st; log = log_is i; pending = pending_is i } in
      let two : made (record { state = st; sends = out; line = line }) m0 q0 ≡ made (handle net a.state m0) m0 q0 =
      ap (λ h. made h m0 q0) (sym gives) in
      let three : made (handle net a.state m0) m0 q0 ≡ made (handle net a.state m) m q =
      λ i. made (handle net a.state (same i)) (same i) (tail i) in
      let sent : sent_after s a.set out before ≡ sent_after s a.set (handle net a.state m).sends before =
      ap (λ h. sent_after s a.set h.sends before) (sym gives)
      ∙ ap (λ z. sent_after s a.set (handle net a.state z).sends before) same in
      (one ∙ two ∙ three, aside ∙ sent, new_copy)

-- so it is if it has taken its least message
pub taken_is_handled : (net : Net) (s : ℕ) (a new : StationCopy) (m : Msg) (k : CloneSet)
    (q before after : MarkedMessages) → a.pending ≡ (m, k) ∷ q → IsCopy net s a → length a.log < net.limit
    → HasTaken net s m (record a { pending = q }) new before after → IsHandled net s a new before after
taken_is_handled net s a new m k q before after there fits below t =
    subst (λ (set : CloneSet). IsHandled net s a
    (record { set = set; state = new.state; log = new.log; pending = new.pending }) before after) (sym t.set)
    (is_handled net s a m k q new.state t.line t.sends new.log new.pending before after there fits below t.handles
    t.fits t.suits t.station t.handled t.log t.pending t.aside)
