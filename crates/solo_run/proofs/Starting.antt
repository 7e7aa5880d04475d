-- A run starts as its definition says.
use Rattle.std.proofs.Common.{◌≡◌, inl, inr, ℕ, zero, suc, ◌+◌, refl, ap, sym, subst, ◌∙◌, List, [], ◌∷◌, ◌++◌}
use Rattle.std.proofs.Common.{length, length-append, Option, Some, None, unwrap_or, arith}
use Rattle.std.proofs.Math.Path.{fun_ext}
use Rattle.std.specs.List.{AllByRecursion}
use Rattle.std.proofs.lemmas.Option.{slice_get_cases}
use Rattle.sim_base.specs.Order.{msg_cmp}
use Rattle.sim_base.specs.declared.message.Msg.{Msg}
use Rattle.sim_base.specs.declared.decision.Planned.{Planned}
use Rattle.run_laws.specs.Queue.{insert, insert_all, Sorted}
use Rattle.run_laws.specs.Machine.{run_to}
use Rattle.run_laws.specs.World.{first_messages, first_world, set_messages, and_first}
use Rattle.run_laws.specs.Handlers.{AreForStations}
use Rattle.run_laws.proofs.Queue.{all_from, sorted_insert_all, insert_all-push}
use Rattle.run_laws.proofs.ForStations.{pending_for_stations}
use Rattle.run_laws.proofs.Lists.{slice_get-push}
use Rattle.net_model.specs.Net.{Net}
use Rattle.net_model.specs.Rules.{IsNet}
use Rattle.stations.specs.Fits.{FitsState, SuitsNet}
use Rattle.stations.specs.Handling.{StateView}
use Rattle.stations.specs.Opening.{setup}
use Rattle.stations.specs.Runs.{simulation}
use Rattle.stations.proofs.GoodLaws.{lawful-stations, stations-to_stations}
use Rattle.solo_run.specs.Beginning.{AreOpeningStates, with_first}
use Rattle.solo_run.specs.EventLists.{IsForStation}
use Rattle.solo_run.specs.SoloView.{IsSolo, config_of, state_of}
use Rattle.solo_run.proofs.OneTurn.{sum_most}

-- ---- AreOpeningStates

-- one station more is open
pub opening_states-push : (net : Net) (n : ℕ) (states : List StateView) (st : StateView) → AreOpeningStates net n states
    → (setup net (n + 1)).state ≡ st → FitsState st → SuitsNet net st → AreOpeningStates net (n + 1) (states ++ st ∷ [])
opening_states-push net n states st before is fits suits =
    let longer = length-append states (st ∷ []) in
    let count = before.count in
    record {
      count = omega (arith, longer, count);
      each = λ i x at. elim (slice_get-push states st x i at) [
        | inl old ↦ before.each i x old
        | inr new ↦ rw new.1 record {
          is = sym is ∙ ap (λ k. (setup net (k + 1)).state) (sym (new.0 ∙ count));
          fits = fits;
          suits = suits;
        }
      ];
    }

-- a station's first message becomes pending as if it were one of those before
put_after : (net : Net) (ms q : List Msg) (o : Option Msg) → insert_all msg_cmp (and_first (simulation net) ms o) q
    ≡ with_first o (insert_all msg_cmp ms q)
put_after net ms q None = refl
put_after net ms q (Some m) = insert_all-push msg_cmp ms m q

-- and its first message is pending
pub first_more : (net : Net) (n : ℕ) (q p : List Msg) (first : Option Msg)
    → p ≡ insert_all msg_cmp (first_messages (simulation net) n) q → (setup net (n + 1)).first ≡ first
    → with_first first p ≡ insert_all msg_cmp (first_messages (simulation net) (n + 1)) q
first_more net n q p first is sends =
    let number : suc n ≡ n + 1 = omega arith in
    ap (with_first first) is
    ∙ (sym (put_after net (first_messages (simulation net) n) q first)
    ∙ (ap (λ o. insert_all msg_cmp (and_first (simulation net) (first_messages (simulation net) n) o) q)
    (sym sends ∙ ap (λ k. (setup net k).first) (sym number))
    ∙ ap (λ k. insert_all msg_cmp (first_messages (simulation net) k) q) number))

-- messages of two lists are inserted one list after the other
insert_all-append : (xs ys q : List Msg)
    → insert_all msg_cmp (xs ++ ys) q ≡ insert_all msg_cmp ys (insert_all msg_cmp xs q)
insert_all-append [] ys q = refl
insert_all-append (x ∷ xs) ys q = insert_all-append xs ys (insert msg_cmp x q)

-- each number has its opening state
state_of-opening : (net : Net) (states : List StateView) → AreOpeningStates net (length net.sites) states → (s : ℕ)
    → state_of net states s ≡ (setup net s).state
state_of-opening net states opened zero = refl
state_of-opening net states opened (suc i) = elim (slice_get_cases states i).1 [
  | inl found ↦
      let number : i + 1 ≡ suc i = omega arith in
      ap (λ o. unwrap_or o (setup net (suc i)).state) found.2
      ∙ ((opened.each i found.0 found.2).is ∙ ap (λ k. (setup net k).state) number)
  | inr past ↦ ap (λ o. unwrap_or o (setup net (suc i)).state) past.1
]

module _ (net : Net) (valid : IsNet net) (list : List Planned) (states : List StateView) (p : List Msg)
    (firsts : List Msg)
    (opened : AreOpeningStates net (length net.sites) states)
    (first : firsts ≡ insert_all msg_cmp (first_messages (simulation net) (length net.sites)) [])
    (then_all : p ≡ insert_all msg_cmp (set_messages (simulation net) 0 list) firsts) where
  -- the pending messages are the first messages and the decisions
  pending_is : p ≡ (first_world (simulation net) list).pending
  pending_is = then_all ∙ (ap (insert_all msg_cmp (set_messages (simulation net) 0 list)) first
      ∙ sym (insert_all-append (first_messages (simulation net) (length net.sites))
      (set_messages (simulation net) 0 list)
      []))

  -- with the opening states and these messages, the run is at the start of the clone's world
  pub config_of-start : config_of net (record { states = states; pending = p; trace = [] })
      ≡ first_world (simulation net) list
  config_of-start =
      ap (λ f. record { at = record { states = f; trace = [] }; pending = p })
      (fun_ext (state_of-opening net states opened))
      ∙ ap (λ q. record { at = record { states = λ s. (setup net s).state; trace = [] }; pending = q }) pending_is

  -- and if the decisions are for stations, it is a run of the network with no log beyond the limit
  pub IsSolo-start : AreForStations (simulation net) list
      → IsSolo net (record { states = states; pending = p; trace = [] })
  unfolding run_to
  IsSolo-start there =
      let law = lawful-stations net valid in
      let none = sum_most (λ st. st.handled) 0 states
      (λ i st at. let h = ap (λ d. d.handled) (opened.each i st at).is in omega (arith, h)) in
      let limit = valid.limit in
      record {
        valid = valid;
        count = opened.count;
        states = λ i st at.
            let o = opened.each i st at in
            let handled : st.handled ≡ 0 = ap (λ d. d.handled) o.is in
            record {
              fits = o.fits;
              suits = o.suits;
              station = ap (λ d. d.sender.station) o.is
                  ∙ (law.opens (i + 1)).station;
              within = omega (arith, handled, limit);
              log = handled;
            };
        sorted = subst (λ q. Sorted msg_cmp q) (sym pending_is)
            (sorted_insert_all law.order.order
            (first_messages (simulation net) (length net.sites) ++ set_messages (simulation net) 0 list) [] tt);
        targets = subst (AllByRecursion (IsForStation (length net.sites))) (sym pending_is)
            (all_from (IsForStation (length net.sites)) (first_world (simulation net) list).pending
            (λ z i. pending_for_stations law (stations-to_stations net valid) list 0 there z i));
        total = omega (arith, none);
        below = refl;
      }
