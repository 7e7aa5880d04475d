-- The mail of a window. At its next step each station takes its messages from it.
use Rattle.std.specs.Prelude.{◌≡◌, ◌⊎◌, ℕ, ◌<◌, ◌≤◌, ◌==◌, List, [], ◌∷◌, map, Option}
use Rattle.std.specs.Prelude.{Some, None, true, IfSome, slice_index}
use Rattle.std.specs.List.{AllByRecursion, filter}
use Rattle.std.specs.declared.sync.Arc.{Arc}
use Rattle.sim_base.specs.declared.message.Msg.{Msg}
use Rattle.clone_sets.specs.Sets.{has}
use Rattle.clone_sets.specs.declared.set.CloneSet.{CloneSet}
use Rattle.net_model.specs.Net.{Net}
use Rattle.run_laws.specs.Queue.{In}
use Rattle.phys_proc.specs.Own.{StationCopy, MarkedMessages, IsLowerBoundOfAll, with_message}
use Rattle.phys_proc.specs.Procs.{ProcView, IsProc}
use Rattle.station_steps.specs.declared.sent_list.TheConstants.{NO_MAIL}

-- the messages for station s
abbrev pub mail_for : ℕ → MarkedMessages → MarkedMessages
mail_for s ms = filter (λ x. x.0.to == s) ms

-- copies after messages were delivered to them, one after the other
abbrev pub with_mail : MarkedMessages → List StationCopy → List StationCopy
with_mail [] xs = xs
with_mail (x ∷ ms) xs = with_mail ms (map (with_message x.0 x.1) xs)

-- what a station sent in a window, each message with the clones that send it
pub record SentView : Type 0 where
  pub items : MarkedMessages

-- the first time of a message's station is not after the message's time
pub record IsNoted (firsts : List ℕ) (x : Msg × CloneSet) : Type 0 where
  pub first : slice_index firsts x.0.to ≤ x.0.key.time
  pub has_mail : slice_index firsts x.0.to < NO_MAIL

-- no message for station s comes before the time, and there is none if the time is `NO_MAIL`
pub record IsFirstFor (s : ℕ) (ms : MarkedMessages) (t : ℕ) : Type 0 where
  pub first : AllByRecursion (λ x. t ≤ x.0.key.time) (mail_for s ms)
  pub none : NO_MAIL ≤ t → mail_for s ms ≡ []

-- a clone of these takes the message: the message is marked with it, and comes before the clone's end
pub record IsMailTaken (ends : ℕ → ℕ) (clones : CloneSet) (ms : MarkedMessages) (m : Msg) : Type 0 where
  pub clone : ℕ
  pub is_in : has clones clone ≡ true
  pub marks : CloneSet
  pub is_mail : In (m, marks) ms
  pub is_marked : has marks clone ≡ true
  pub in_time : m.key.time < ends clone

-- t is the earlier of a previous result and the least time of the messages with property Q
abbrev pub IsEarliest : Option ℕ → (Msg → Type 0) → Option ℕ → Type 0
IsEarliest before Q None = (before ≡ None) × ((m : Msg) → Q m → ⊥)
IsEarliest before Q (Some t) = ((before ≡ Some t) ⊎ ((m : Msg) × Q m × (m.key.time ≡ t)))
    × IfSome before (λ b. t ≤ b) × ((m : Msg) → Q m → t ≤ m.key.time)

-- the messages of the mail, if there is any
abbrev pub mail_in : {Z : Type 0} → Option (Arc MarkedMessages Z) → MarkedMessages
mail_in None = []
mail_in (Some mail) = mail.value

-- a station after it took its messages from the mail
abbrev pub with_own_mail : MarkedMessages → ProcView → ProcView
with_own_mail ms p = record p { copies = with_mail (mail_for p.station ms) p.copies }

-- a station with mail that its copies have not taken: with the mail no message is pending before the bound; if the
-- copies with the mail are those of a network's station, so are the copies without it
pub record KeepsMail (bound : ℕ) (ms : MarkedMessages) (p : ProcView) : Type 0 where
  pub lower : IsLowerBoundOfAll bound (with_own_mail ms p).copies
  pub proc : (net : Net) → IsProc net (with_own_mail ms p) → IsProc net p
