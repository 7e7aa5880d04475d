-- The run from a snapshot in code is the run that the snapshot opens.
use Rattle.std.proofs.Common.{◌≡◌, ℕ, List, [], length, sym, ap, ◌∙◌, subst, arith}
use Rattle.std.proofs.Common.{Option, min, unwrap_or}
use Rattle.sim_base.specs.Order.{msg_cmp}
use Rattle.sim_base.specs.declared.entry.Line.{Line}
use Rattle.sim_base.specs.declared.message.Msg.{Msg}
use Rattle.run_laws.specs.Machine.{Config}
use Rattle.run_laws.specs.Queue.{insert_all}
use Rattle.run_laws.specs.World.{World}
use Rattle.net_model.specs.Net.{Net}
use Rattle.net_model.specs.Rules.{IsNet}
use Rattle.stations.specs.Handling.{StateView}
use Rattle.solo_run.specs.Limit.{first_beyond}
use Rattle.solo_run.specs.SoloView.{Entries, IsSoloAfter, SoloView, config_of}
use Rattle.solo_run.specs.Turns.{StopsAfter, run_from}
use Rattle.solo_run.specs.declared.turn.SoloFault.{SoloFault}
use Rattle.solo_run.specs.declared.turn.SoloFault.TheVariants.{NoMemory, Limit}
use Rattle.solo_run.proofs.Resuming.{insert_all-sorted}
use Rattle.checkpoint.specs.Accepted.{IsAccepted}
use Rattle.checkpoint.specs.Laws.{IsPastOf, StaysOnward, StopsOnward}
use Rattle.checkpoint.specs.Snapshots.{SnapshotView, last_of, onward, opened, restored_from}
use Rattle.checkpoint.proofs.AcceptedStarts.{accepted_may_go_on}
use Rattle.checkpoint.proofs.Earlier.{first_beyond-same, ticks_of_all, ticks_of_all-handled}

module _ (net : Net) (valid : IsNet net) (x : SnapshotView) (ok : IsAccepted net x) where
  abbrev pub states : List StateView
  states = restored_from net 1 x.saved

  -- the run that a snapshot opens may go on, after entries that its states count
  pub opened-may_go_on : IsSoloAfter net (ticks_of_all 1 states) (opened net x)
  opened-may_go_on = accepted_may_go_on net valid x (ticks_of_all 1 states) ok (ticks_of_all-handled states)

  -- the resumed run is the run that the snapshot opens
  pub resumed-opened : (restored : List StateView) (due : List Msg) (solo : SoloView) → restored ≡ states →
      due ≡ x.due → solo ≡ record { states = restored; pending = insert_all msg_cmp due []; trace = [] } →
      solo ≡ opened net x
  resumed-opened restored due solo same_states same_due is =
      let same_pending = ap (λ (ms : List Msg). insert_all msg_cmp ms []) same_due
      ∙ insert_all-sorted x.due opened-may_go_on.sorted in
      is ∙ (λ i. record { states = same_states i; pending = same_pending i; trace = [] })

  -- the resumed run ends where the run from the snapshot does
  pub last_of-end : (end : Option ℕ) (last : ℕ) → last ≡ min net.horizon (unwrap_or end net.horizon) → end ≡ x.end →
      last ≡ last_of net x
  last_of-end end last is same = is ∙ ap (λ (o : Option ℕ). min net.horizon (unwrap_or o net.horizon)) same

  module _ (solo : SoloView) (is : solo ≡ opened net x) (last : ℕ) (same : last ≡ last_of net x) where
    pub resumed-may_go_on : IsSoloAfter net (ticks_of_all 1 solo.states) solo
    resumed-may_go_on = subst (λ (v : SoloView). IsSoloAfter net (ticks_of_all 1 v.states) v) (sym is) opened-may_go_on

    -- its trace
    run_from-opened : (run_from net solo last).at.trace ≡ onward net x
    run_from-opened = ap (λ (v : SoloView). (run_from net v last).at.trace) is
        ∙ ap (λ (n : ℕ). (run_from net (opened net x) n).at.trace) same

    -- the limit, after any past entries that the states count
    first_beyond-past : (past trace : Entries) → IsPastOf net x past → trace ≡ onward net x →
        first_beyond net.limit past (onward net x) ≡ first_beyond net.limit (ticks_of_all 1 solo.states) trace
    first_beyond-past past trace handled run =
        let all = ap (λ (v : SoloView). v.states) is in
        first_beyond-same net.limit states past (ticks_of_all 1 states) (onward net x) handled
        (ticks_of_all-handled states)
        ∙ sym (ap (λ (l : List StateView). first_beyond net.limit (ticks_of_all 1 l) trace) all
        ∙ ap (first_beyond net.limit (ticks_of_all 1 states)) run)

    -- a run that goes on to its end
    module _ (after : SoloView) (end : config_of net after ≡ run_from net solo last) where
      pub resumed-trace : after.trace ≡ onward net x
      resumed-trace = ap (λ (k : Config (World StateView Msg Line) Msg). k.at.trace) end ∙ run_from-opened

      pub resumed-stays : IsSoloAfter net (ticks_of_all 1 solo.states) after → StaysOnward net x
      resumed-stays h past handled = first_beyond-past past after.trace handled resumed-trace ∙ h.below

    -- a run that stops
    pub resumed-stops : (old new : ℕ) (fault : SoloFault) →
        StopsAfter net (ticks_of_all 1 solo.states) solo last old new fault → StopsOnward net x old new fault
    resumed-stops old new NoMemory h = tt
    resumed-stops old new (Limit station kept) h =
        let none : length solo.trace ≡ 0 = ap (λ (v : SoloView). length v.trace) is in
        let steps = h.steps in
        let most = h.bounded in (
          h.keeps,
          h.is_station,
          omega (arith, none, steps, most),
          λ past handled. first_beyond-past past (run_from net solo last).at.trace handled run_from-opened ∙ h.first,
        )
