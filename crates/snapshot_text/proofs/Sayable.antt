-- A snapshot that was read and passes the tests is one from which a run may go on.
use Rattle.std.proofs.Common.{◌≡◌, ℕ, true, false, nat_le, []}
use Rattle.std.proofs.Common.{refl, ◌∙◌, Some, None, Ok, Err}
use Rattle.std.proofs.lemmas.Bool.{and_parts}
use Rattle.sim_base.specs.Names.{is_name}
use Rattle.sim_base.specs.declared.message.Msg.{Msg}
use Rattle.sim_base.specs.declared.message.Param.{Param}
use Rattle.sim_base.specs.declared.message.Param.TheVariants.{Every, Service, Hold, Servers, Room, Weight}
use Rattle.sim_base.specs.declared.message.Payload.{Payload}
use Rattle.sim_base.specs.declared.message.Payload.TheVariants.{Tick, Job, Done, Set}
use Rattle.sim_base.proofs.ListLaws.{list_all-weaker}
use Rattle.decision_script.specs.declared.number.TheConstants.{MAX_NUMBER}
use Rattle.net_model.specs.Net.{Net}
use Rattle.snapshot_lines.specs.Grammar.{message_line, payload_form, values_form}
use Rattle.checkpoint.specs.Accepted.{IsAccepted, first_unfit, fits_front}
use Rattle.checkpoint.specs.Due.{first_bad, is_sayable, is_sayable_payload}
use Rattle.checkpoint.specs.Snapshots.{SnapshotView}
use Rattle.snapshot_text.specs.SnapshotTexts.{IsSayable}
use Rattle.snapshot_text.specs.Reading.{if_accepted}
use Rattle.snapshot_text.specs.declared.fault.SnapshotFault.TheVariants.{BadFront, BadPending, Unfit}

-- words can say a change exactly if its values have the form of its parameter's
pub change-sayable : (p : Param) (a b : ℕ)
    → is_sayable (record { param = p; a = a; b = b }) ≡ (values_form p).has (a, b)
change-sayable Every a b = refl
change-sayable Service a b = refl
change-sayable Hold a b = refl
change-sayable Servers a b = refl
change-sayable Room a b = refl
change-sayable Weight a b = refl

payload-sayable : (p : Payload) → payload_form.has p ≡ true → is_sayable_payload p ≡ true
payload-sayable Tick e = refl
payload-sayable (Job j) e = refl
payload-sayable (Done j) e = refl
payload-sayable (Set c) e = change-sayable c.param c.a c.b ∙ e

message-sayable : (m : Msg) → message_line.has m ≡ true → is_sayable_payload m.payload ≡ true
message-sayable m e =
    let time = and_parts (nat_le m.key.time MAX_NUMBER) _ e in
    let sender = and_parts (nat_le m.key.sender MAX_NUMBER) _ time.1 in
    let number = and_parts (nat_le m.key.number MAX_NUMBER) _ sender.1 in
    let to = and_parts (nat_le m.to MAX_NUMBER) (payload_form.has m.payload) number.1 in
    payload-sayable m.payload to.1

module _ (net : Net) (x : SnapshotView) where
  -- the tests, one after the other
  module _ (front : fits_front net x.front x.end ≡ true) where
    pub unfit_accepted : (s : ℕ) → first_unfit net 1 x.saved ≡ Some s → if_accepted net x ≡ Err (Unfit s)
    unfit_accepted s unfit = rw (front, unfit) refl

    module _ (fit : first_unfit net 1 x.saved ≡ None) where
      pub bad_accepted : (i : ℕ) → first_bad net x.front x.saved [] None x.due ≡ Some i
          → if_accepted net x ≡ Err (BadPending i)
      bad_accepted i bad = rw (front, fit, bad) refl

      pub good_accepted : first_bad net x.front x.saved [] None x.due ≡ None → if_accepted net x ≡ Ok x
      good_accepted good = rw (front, fit, good) refl

  pub front_accepted : fits_front net x.front x.end ≡ false → if_accepted net x ≡ Err BadFront
  front_accepted late = rw late refl

  -- a run may go on from a snapshot that lines can say and that passes the tests
  pub sayable_accepted : IsSayable net x → fits_front net x.front x.end ≡ true → first_unfit net 1 x.saved ≡ None
      → first_bad net x.front x.saved [] None x.due ≡ None → IsAccepted net x
  sayable_accepted say front fit good = record {
    name = (and_parts (is_name x.who) _ say.head).0;
    front = front;
    count = say.count;
    fit = fit;
    due = good;
    sayable = list_all-weaker message_line.has (λ (m : Msg). is_sayable_payload m.payload) message-sayable x.due
        say.messages;
    lines = say.lines;
  }
