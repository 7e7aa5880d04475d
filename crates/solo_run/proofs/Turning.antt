-- The first message of a one-thread run is handled.
use Rattle.std.proofs.Common.{◌≡◌, sym, Result, Ok, Err, ℕ, ◌+◌, ◌-◌, ◌<◌, subst, List, [], ◌∷◌, ◌++◌, length-append}
use Rattle.std.specs.Prelude.{IfErr, IsErrAnd}
use Rattle.sim_base.specs.Order.{msg_cmp}
use Rattle.sim_base.specs.declared.message.Msg.{Msg}
use Rattle.sim_base.specs.declared.entry.Line.{Line}
use Rattle.run_laws.specs.Queue.{insert_all}
use Rattle.net_model.specs.Net.{Net}
use Rattle.stations.specs.Handling.{StateView}
use Rattle.stations.specs.declared.sender.TheConstants.{MAX_EVENT_TIMES}
use Rattle.solo_run.specs.SoloView.{Entries, SoloView, IsSoloAfter, with_due}
use Rattle.solo_run.specs.Turns.{HandlesAt, HasTurnedBefore, StopsAt, StopsBefore}
use Rattle.solo_run.specs.declared.turn.SoloFault.{SoloFault}
use Rattle.solo_run.specs.declared.turn.SoloFault.TheVariants.{NoMemory, Limit}
use Rattle.solo_run.proofs.OneTurn.{has_turned, is_solo}

-- ---- Result

-- what holds of an error holds if there is one
pub if_err : {A E : Type 0} (r : Result A E) (e : E) (P : E → Type 0) → P e → IsErrAnd r (λ x. x ≡ e) → IfErr r P
if_err (Ok a) e P p is = tt
if_err (Err x) e P p is = subst P (sym is) p

-- ---- a turn

module _ (net : Net) (past : Entries) (v : SoloView) (m : Msg) (rest : List Msg) (is : v.pending ≡ m ∷ rest) where
  -- the run without its first message
  abbrev pub taken : SoloView
  taken = record { states = v.states; pending = rest; trace = v.trace }

  -- with the message put back it is the run
  pub solo_taken : IsSoloAfter net past v → IsSoloAfter net past (with_due m taken)
  solo_taken solo = subst (λ q. IsSoloAfter net past (record { states = v.states; pending = q; trace = v.trace })) is solo

  -- its station handles the message, and the sends become pending
  pub turned : (new : List StateView) (next sends : List Msg) (line : Line) (front old_steps new_steps : ℕ)
      → IsSoloAfter net past v → m.key.time < front → m.key.time < MAX_EVENT_TIMES
      → HandlesAt net (m.to - 1) m v.states new sends line → next ≡ insert_all msg_cmp sends rest
      → new_steps ≡ old_steps + 1
      → HasTurnedBefore net past front v
      (record { states = new; pending = next; trace = v.trace ++ record { msg = m; line = line } ∷ [] })
      old_steps new_steps
  turned new next sends line front old_steps new_steps solo early soon h next_is counted =
      let here = solo_taken solo in
      record {
        next = record {
          m = m;
          q = rest;
          pending = is;
          time_max = early;
          is = has_turned net solo.valid past taken m new next sends line soon here h next_is;
        };
        solo = is_solo net solo.valid past taken m new next sends line soon here h next_is;
        counted = counted;
        longer = length-append v.trace (record { msg = m; line = line } ∷ []);
      }

  -- why its station does not handle it
  pub StopsBefore-StopsAt : (front old_steps new_steps : ℕ) (fault : SoloFault) → m.key.time < front
      → StopsAt net (m.to - 1) v.states old_steps new_steps fault → StopsBefore net front v old_steps new_steps fault
  StopsBefore-StopsAt front old_steps new_steps NoMemory early at = tt
  StopsBefore-StopsAt front old_steps new_steps (Limit station kept) early at =
      record { message = m; rest = rest; is = is; time_max = early; full = at }
