-- The opening of a station.
use Rattle.std.proofs.Common.{◌≡◌, ℕ, [], Option, Some, None, refl, sym, ap, ◌∙◌, subst, arith}
use Rattle.std.specs.List.{AllByRecursion}
use Rattle.sim_base.specs.Order.{msg_cmp}
use Rattle.sim_base.specs.declared.message.Msg.{Msg}
use Rattle.clone_sets.specs.Sets.{has, one}
use Rattle.clone_sets.specs.declared.set.CloneSet.{CloneSet}
use Rattle.clone_sets.proofs.SetLaws.{has-one}
use Rattle.net_model.specs.Net.{Net, HasStation}
use Rattle.net_model.specs.Rules.{IsNet}
use Rattle.stations.specs.Fits.{FitsState, SuitsNet}
use Rattle.stations.specs.Handling.{StateView}
use Rattle.stations.specs.Opening.{setup}
use Rattle.stations.proofs.GoodLaws.{stations-to_stations}
use Rattle.sim_base.specs.Marked.{SortedMarked}
use Rattle.run_laws.specs.Copies.{first_pending}
use Rattle.phys_proc.specs.Own.{MarkedMessages, IsCopy, AreMarks}
use Rattle.phys_proc.proofs.Sends.{whole_marks}

-- ---- IsCopy

module _ (net : Net) (valid : IsNet net) (s : ℕ) (is_station : HasStation net s) (st : StateView)
    (first : Option Msg) (opened : setup net s ≡ record { state = st; first = first }) where
  -- the first message is for the station
  for_station : (f : Option Msg) → f ≡ first
      → AllByRecursion (λ (x : Msg × CloneSet). x.0.to ≡ s) (first_pending (one 0) f)
  for_station None e = tt
  for_station (Some m) e = (
    (stations-to_stations net valid).first s m (omega (arith, is_station.low), is_station.high)
        (ap (λ o. o.first) opened ∙ sym e),
    tt,
  )

  -- one message is in order
  in_order : (f : Option Msg) → SortedMarked msg_cmp (first_pending (one 0) f)
  in_order None = tt
  in_order (Some m) = (tt, tt)

  -- marked with the first clone alone
  own_marks : (f : Option Msg) → AllByRecursion (λ (x : Msg × CloneSet). AreMarks (one 0) x.1) (first_pending (one 0) f)
  own_marks None = tt
  own_marks (Some m) = (whole_marks (one 0) 0 (has-one 0 0), tt)

  -- the opening of a station is a copy of it
  pub first_fits : (set : CloneSet) (pending : MarkedMessages) → set ≡ one 0 → pending ≡ first_pending set first
      → FitsState st
      → SuitsNet net st → st.sender.station ≡ s → st.handled ≡ 0
      → IsCopy net s (record { set = set; state = st; log = []; pending = pending })
  first_fits set pending e p fits suits own none =
      let q : pending ≡ first_pending (one 0) first = p ∙ ap (λ k. first_pending k first) e in record {
        valid = valid;
        inhabited = (0, ap (λ k. has k 0) e ∙ has-one 0 0);
        fits = fits;
        suits = suits;
        station = own;
        handled = none;
        length_max = omega arith;
        sorted = subst (SortedMarked msg_cmp) (sym q) (in_order first);
        targets = subst (AllByRecursion (λ (x : Msg × CloneSet). x.0.to ≡ s)) (sym q) (for_station first refl);
        replays = ap (λ o. o.state) (sym opened);
        marks = subst (λ k. AllByRecursion (λ (x : Msg × CloneSet). AreMarks k x.1) pending) (sym e)
            (subst (AllByRecursion (λ (x : Msg × CloneSet). AreMarks (one 0) x.1)) (sym q) (own_marks first));
      }
