-- The first station, message and entry that break a rule: each breaks it, and none before it does.
use Rattle.std.specs.Prelude.{◌≡◌, ℕ, zero, suc, ◌-◌, ◌<◌, ◌≤◌, List, [], ◌++◌, length, take, false}
use Rattle.std.specs.Prelude.{slice_get, Option, Some, None}
use Rattle.std.specs.List.{filter}
use Rattle.std.specs.declared.cmp.Ordering.TheVariants.{Less}
use Rattle.sim_base.specs.Order.{key_cmp}
use Rattle.sim_base.specs.declared.entry.Entry.{Entry}
use Rattle.sim_base.specs.declared.entry.Line.{Line}
use Rattle.sim_base.specs.declared.message.Key.{Key}
use Rattle.sim_base.specs.declared.message.Msg.{Msg}
use Rattle.run_laws.specs.Queue.{In}
use Rattle.run_laws.specs.World.{log_of}
use Rattle.net_model.specs.Net.{Net}
use Rattle.solo_run.specs.Limit.{first_beyond, receiver}
use Rattle.solo_run.specs.SoloView.{Entries}
use Rattle.stations.specs.Fitting.{fits_saved}
use Rattle.stations.specs.declared.saved.Saved.{Saved}
use Rattle.checkpoint.specs.RunKeeps.{completions_to}
use Rattle.checkpoint.specs.Tally.{tally}
use Rattle.checkpoint.specs.Accepted.{IsAccepted, first_unfit}
use Rattle.checkpoint.specs.Due.{first_bad, is_less, may_be_due}
use Rattle.checkpoint.specs.Snapshots.{SnapshotView, onward}

-- ---- the first number at which something holds

-- it holds at this number, and at no number below
pub record IsFirst (Holds : ℕ → Type 0) (i : ℕ) : Type 0 where
  pub holds : Holds i
  pub none_before : (j : ℕ) → j < i → ¬ Holds j

-- the first such number was found, or there is none
abbrev pub FindsFirst : (ℕ → Type 0) → Option ℕ → Type 0
FindsFirst Holds None = (i : ℕ) → ¬ Holds i
FindsFirst Holds (Some i) = IsFirst Holds i

-- ---- stations and messages

-- the saved data of a station does not fit it; stations count from 1
pub record IsUnfit (net : Net) (saved : List Saved) (station : ℕ) : Type 0 where
  pub contents : Saved
  pub low : 1 ≤ station
  pub is_its : slice_get saved (station - 1) ≡ Some contents
  pub unfit : fits_saved net station contents ≡ false

-- the message before this place, if there is one
abbrev pub message_before : List Msg → ℕ → Option Msg
message_before due zero = None
message_before due (suc i) = slice_get due i

-- the message at this place, from 0, may not be pending after those before it
pub record IsBad (net : Net) (front : ℕ) (saved : List Saved) (due : List Msg) (i : ℕ) : Type 0 where
  pub message : Msg
  pub is_there : slice_get due i ≡ Some message
  pub bad : may_be_due net front saved (tally (completions_to message.to) (take i due)) (message_before due i) message
      ≡ false

-- the tests of a snapshot find the first station whose data does not fit, and the first bad message
abbrev pub FirstUnfitIsFirst : Net → Type 0
FirstUnfitIsFirst net = (saved : List Saved) → FindsFirst (IsUnfit net saved) (first_unfit net 1 saved)

abbrev pub FirstBadIsFirst : Net → Type 0
FirstBadIsFirst net = (front : ℕ) (saved : List Saved) (due : List Msg) →
    FindsFirst (IsBad net front saved due) (first_bad net front saved [] None due)

-- ---- the limit

-- the entries with lower keys
abbrev pub entries_below : Key → Entries → Entries
entries_below key es = filter (λ e. is_less (key_cmp e.msg.key key)) es

-- an entry finds the log of its station full: the past and the entries with lower keys have as many entries of the
-- station as the limit allows
pub record FindsFull (limit : ℕ) (past es : Entries) (e : Entry Msg Line) : Type 0 where
  pub is_one : In e es
  pub full : limit ≤ length (log_of receiver e.msg.to (past ++ entries_below e.msg.key es))

-- the station of the first entry, in the order of keys, that finds the log full
pub record IsFirstFull (limit : ℕ) (past es : Entries) (station : ℕ) : Type 0 where
  pub entry : Entry Msg Line
  pub is_for : entry.msg.to ≡ station
  pub finds_full : FindsFull limit past es entry
  pub none_before : (e : Entry Msg Line) → key_cmp e.msg.key entry.msg.key ≡ Less → ¬ FindsFull limit past es e

-- this station was found, or there is no such entry
abbrev pub FindsFirstFull : ℕ → Entries → Entries → Option ℕ → Type 0
FindsFirstFull limit past es None = (e : Entry Msg Line) → ¬ FindsFull limit past es e
FindsFirstFull limit past es (Some station) = IsFirstFull limit past es station

-- of the run from an accepted snapshot that station is found, whatever past counts
abbrev pub FirstBeyondIsFirst : Net → Type 0
FirstBeyondIsFirst net = (x : SnapshotView) (past : Entries) → IsAccepted net x →
    FindsFirstFull net.limit past (onward net x) (first_beyond net.limit past (onward net x))
