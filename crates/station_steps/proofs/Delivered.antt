-- After delivery of what the stations sent, each clone takes its own messages from those to its station.
use Rattle.std.proofs.Common.{◌≡◌, ℕ, zero, suc, ◌+◌, ◌==◌, Bool, true, false, cond, List, [], ◌∷◌, ◌++◌}
use Rattle.std.proofs.Common.{inl, inr, sym, ap, ◌∙◌, subst, map, append_assoc, append-nil}
use Rattle.std.proofs.Common.{eqb-true, eq-eqb}
use Rattle.std.proofs.lemmas.Bool.{cases_Bool}
use Rattle.sim_base.specs.Order.{msg_cmp}
use Rattle.sim_base.specs.Marked.{SortedMarked}
use Rattle.sim_base.specs.Clones.{Clone}
use Rattle.sim_base.specs.declared.message.Msg.{Msg}
use Rattle.clone_sets.specs.Sets.{has}
use Rattle.net_model.specs.Net.{Net}
use Rattle.stations.specs.Runs.{simulation}
use Rattle.run_laws.specs.Queue.{In}
use Rattle.run_laws.specs.Copies.{SoFarGiven, takes, messages_taken, ends_of, IsDelivered, Disjoint}
use Rattle.run_laws.proofs.Queue.{all_from}
use Rattle.run_laws.proofs.Lists.{in_append, append_old, append_new}
use Rattle.run_laws.proofs.Parts.{part_yes, part_no, part-append}
use Rattle.run_laws.proofs.Delivery.{given_none, given_more, IsDelivered-SoFarGiven}
use Rattle.run_laws.proofs.MessageOrder.{messages_ordered}
use Rattle.phys_proc.specs.Own.{StationCopy, MarkedMessages, with_message}
use Rattle.phys_proc.proofs.Delivery.{all_given}
use Rattle.station_steps.specs.declared.station_step.StationStep.{StationStep}
use Rattle.station_steps.specs.Windows.{with_mail, sent_to, all_sent, done_at, sent_at, after_window}
use Rattle.station_steps.proofs.Places.{by_number}

-- ---- sent_to and with_mail

module _ (net : Net) (ends : ℕ → ℕ) where
  -- messages delivered one after the other
  pub given_so_far : (ms msgs : MarkedMessages) (new done : List StationCopy)
      → SoFarGiven (simulation net) has ends msgs new done
      → SoFarGiven (simulation net) has ends (msgs ++ ms) new (with_mail ms done)
  given_so_far [] msgs new done f = subst (λ l. SoFarGiven (simulation net) has ends l new done)
      (sym (append-nil msgs)) f
  given_so_far (x ∷ ms) msgs new done f =
      subst (λ l. SoFarGiven (simulation net) has ends l new (with_mail (x ∷ ms) done)) (append_assoc msgs (x ∷ []) ms)
      (given_so_far ms (msgs ++ x ∷ []) new (map (with_message x.0 x.1) done)
      (given_more (simulation net) has ends messages_ordered msgs new done (map (with_message x.0 x.1) done) x.0 x.1 f
      (all_given net ends x.0 x.1 done (all_from (λ a. SortedMarked msg_cmp a.pending) done f.clones.sorted))))

  -- what a clone takes of the messages to a station
  taken_to : (i c : ℕ) (ms : MarkedMessages) (z : Msg)
      → In z (messages_taken (simulation net) has ends c (sent_to i ms))
      → In z (messages_taken (simulation net) has ends c ms) × (z.to ≡ i + 1)
  taken_to i c [] z h = absurd h
  taken_to i c (x ∷ ms) z h = elim (cases_Bool (x.0.to == i + 1)) [
    | inl y ↦
        let k : In z (messages_taken (simulation net) has ends c (x ∷ sent_to i ms)) =
        subst (λ b. In z (messages_taken (simulation net) has ends c (cond b (x ∷ sent_to i ms) (sent_to i ms)))) y h in
        elim (cases_Bool (takes (simulation net) has ends x.0 x.1 c)) [
          | inl t ↦ elim (subst (In z) (part_yes (takes (simulation net) has ends) c x (sent_to i ms) t) k) [
            | inl e ↦ (
              subst (In z) (sym (part_yes (takes (simulation net) has ends) c x ms t)) (inl e),
              ap (λ (m : Msg). m.to) e ∙ eqb-true x.0.to (i + 1) y,
            )
            | inr j ↦ let r = taken_to i c ms z j in
                (subst (In z) (sym (part_yes (takes (simulation net) has ends) c x ms t)) (inr r.0), r.1)
          ]
          | inr t ↦ let r = taken_to i c ms z
              (subst (In z) (part_no (takes (simulation net) has ends) c x (sent_to i ms) t) k) in
              (subst (In z) (sym (part_no (takes (simulation net) has ends) c x ms t)) r.0, r.1)
        ]
    | inr f ↦
        let r = taken_to i c ms z (subst (λ b.
        In z (messages_taken (simulation net) has ends c (cond b (x ∷ sent_to i ms) (sent_to i ms)))) f h) in
        elim (cases_Bool (takes (simulation net) has ends x.0 x.1 c)) [
          | inl t ↦ (subst (In z) (sym (part_yes (takes (simulation net) has ends) c x ms t)) (inr r.0), r.1)
          | inr t ↦ (subst (In z) (sym (part_no (takes (simulation net) has ends) c x ms t)) r.0, r.1)
        ]
  ]

  -- of all messages, a clone takes those to its station
  to_taken : (i c : ℕ) (ms : MarkedMessages) (z : Msg) → In z (messages_taken (simulation net) has ends c ms)
      → z.to ≡ i + 1
      → In z (messages_taken (simulation net) has ends c (sent_to i ms))
  to_taken i c [] z h e = absurd h
  to_taken i c (x ∷ ms) z h e = elim (cases_Bool (takes (simulation net) has ends x.0 x.1 c)) [
    | inl t ↦ elim (subst (In z) (part_yes (takes (simulation net) has ends) c x ms t) h) [
      | inl p ↦
          let y : (x.0.to == i + 1) ≡ true = eq-eqb x.0.to (i + 1) (sym (ap (λ (m : Msg). m.to) p) ∙ e) in
          subst (λ b. In z (messages_taken (simulation net) has ends c (cond b (x ∷ sent_to i ms) (sent_to i ms))))
          (sym y)
          (subst (In z) (sym (part_yes (takes (simulation net) has ends) c x (sent_to i ms) t)) (inl p))
      | inr j ↦ later t (to_taken i c ms z j e)
    ]
    | inr t ↦ not_taken t (to_taken i c ms z (subst (In z) (part_no (takes (simulation net) has ends) c x ms t) h) e)
  ]
    where
      both : (b : Bool) → In z (messages_taken (simulation net) has ends c (x ∷ sent_to i ms))
          → In z (messages_taken (simulation net) has ends c (sent_to i ms))
          → In z (messages_taken (simulation net) has ends c (cond b (x ∷ sent_to i ms) (sent_to i ms)))
      both true p q = p
      both false p q = q

      later : takes (simulation net) has ends x.0 x.1 c ≡ true
          → In z (messages_taken (simulation net) has ends c (sent_to i ms))
          → In z (messages_taken (simulation net) has ends c (sent_to i (x ∷ ms)))
      later t j = both (x.0.to == i + 1)
          (subst (In z) (sym (part_yes (takes (simulation net) has ends) c x (sent_to i ms) t)) (inr j)) j

      not_taken : takes (simulation net) has ends x.0 x.1 c ≡ false
          → In z (messages_taken (simulation net) has ends c (sent_to i ms))
          → In z (messages_taken (simulation net) has ends c (sent_to i (x ∷ ms)))
      not_taken t j = both (x.0.to == i + 1)
          (subst (In z) (sym (part_no (takes (simulation net) has ends) c x (sent_to i ms) t)) j) j

-- ---- all_sent

module _ (net : Net) (ends : ℕ → ℕ) (c : ℕ) (z : Msg) where
  -- what some station sent is among all that was sent
  from_all : (flows : List StationStep) → In z (messages_taken (simulation net) has ends c (all_sent flows))
      → (j : ℕ) × In z (messages_taken (simulation net) has ends c (sent_at flows j))
  from_all [] h = absurd h
  from_all (f ∷ fs) h = elim (in_append (messages_taken (simulation net) has ends c f.sent.items)
      (messages_taken (simulation net) has ends c (all_sent fs)) z
      (subst (In z) (part-append (takes (simulation net) has ends) c f.sent.items (all_sent fs)) h)) [
        | inl a ↦ (0, a)
        | inr a ↦ let r = from_all fs a in (suc r.0, r.1)
      ]

  -- and what a station sent is among it
  in_all : (flows : List StationStep) (j : ℕ) → In z (messages_taken (simulation net) has ends c (sent_at flows j))
      → In z (messages_taken (simulation net) has ends c (all_sent flows))
  in_all [] j h = absurd h
  in_all (f ∷ fs) zero h = subst (In z)
      (sym (part-append (takes (simulation net) has ends) c f.sent.items (all_sent fs)))
      (append_old (messages_taken (simulation net) has ends c f.sent.items)
      (messages_taken (simulation net) has ends c (all_sent fs)) z
      h)
  in_all (f ∷ fs) (suc j) h = subst (In z)
      (sym (part-append (takes (simulation net) has ends) c f.sent.items (all_sent fs)))
      (append_new (messages_taken (simulation net) has ends c f.sent.items)
      (messages_taken (simulation net) has ends c (all_sent fs)) z
      (in_all fs j h))

-- ---- IsDelivered

-- what was sent to the station at a place is delivered to its copies
pub IsDelivered-after_window : (net : Net) (cs : List Clone) (flows : List StationStep) (i : ℕ)
    → Disjoint has (done_at flows i)
    → ((a : StationCopy) → In a (done_at flows i) → SortedMarked msg_cmp a.pending)
    → IsDelivered (simulation net) has cs (i + 1) (by_number [] (sent_at flows)) (done_at flows i)
    (after_window flows i)
IsDelivered-after_window net cs flows i disjoint sorted =
    IsDelivered-SoFarGiven (simulation net) has cs (i + 1) (by_number [] (sent_at flows))
    (sent_to i (all_sent flows)) (done_at flows i) (after_window flows i)
    (λ c z h. let t = taken_to net (ends_of (simulation net) cs) i c (all_sent flows) z h in let r =
    from_all net (ends_of (simulation net) cs) c z flows t.0 in (suc r.0, r.1, t.1))
    (λ c r z h e. to_all c r z h e)
    (given_so_far net (ends_of (simulation net) cs) (sent_to i (all_sent flows)) [] (done_at flows i) (done_at flows i)
    (given_none (simulation net) has (ends_of (simulation net) cs) (done_at flows i) disjoint sorted))
  where
    to_all : (c r : ℕ) (z : Msg) → In z
        (messages_taken (simulation net) has (ends_of (simulation net) cs) c (by_number [] (sent_at flows) r))
        → z.to ≡ i + 1 → In z (messages_taken (simulation net) has (ends_of (simulation net) cs) c
        (sent_to i (all_sent flows)))
    to_all c zero z h e = absurd h
    to_all c (suc j) z h e = to_taken net (ends_of (simulation net) cs) i c (all_sent flows) z
        (in_all net (ends_of (simulation net) cs) c z flows j h) e
