-- The rule of a mailbox: the values of its word, its slot and its seats in each of its states.
use Rattle.std.specs.Prelude.{◌≡◌, ℕ, List, [], ◌∷◌, nat_eq, MatchBool, Some, None}
use Rattle.std.specs.declared.option.Option.{Option as Option'}
use mathlib.Core.Option.{Option, some, none}
use Rattle.atomic_table.specs.Table.{State, Me, rest}
use Rattle.atomic_table.specs.Seated.{TableId}
use Rattle.crew_pool.specs.declared.mail.TheConstants.{EMPTY, WAITS, TAKEN, ANSWERED}
use Rattle.crew_pool.specs.declared.mail.Letter.{Letter}
use Rattle.crew_pool.specs.declared.mail.Letter.TheVariants.{Task, Answer}
use Rattle.crew_pool.specs.declared.mail.MailView.{MailView}
use Rattle.crew_pool.specs.declared.mail.MailView.TheVariants.{Alone, Opening, Holding, Sent, Idle, Working}

-- the contents of the slot
abbrev pub Slot : Type 0 → Type 0 → Type 0
Slot T A = Option' (Letter T A)

-- the hand of a seat: its view, and the slots that it has out
abbrev pub Hand : Type 0 → Type 0 → Type 0
Hand T A = Me (Slot T A) (MailView T)

-- the states of a mailbox; in the first there is no worker yet, in the second the caller has not taken the slot
pub data Mail (T A : Type 0) : Type 0 where
  unshared : Mail T A
  unopened : Mail T A
  empty : Mail T A
  waits : T → Mail T A
  taken : T → Mail T A
  answered : T → A → Mail T A

module _ {T A : Type 0} where
  -- the word
  abbrev pub stage_of : Mail T A → ℕ
  stage_of unshared = EMPTY
  stage_of unopened = EMPTY
  stage_of empty = EMPTY
  stage_of (waits t) = WAITS
  stage_of (taken t) = TAKEN
  stage_of (answered t a) = ANSWERED

  -- the contents of the slot, unless a seat has it
  abbrev pub home_of : Mail T A → Option (Slot T A)
  home_of unshared = some None
  home_of unopened = some None
  home_of empty = none
  home_of (waits t) = some (Some (Task t))
  home_of (taken t) = none
  home_of (answered t a) = some (Some (Answer a))

  -- what the caller knows
  abbrev pub caller_of : Mail T A → MailView T
  caller_of unshared = Alone
  caller_of unopened = Opening
  caller_of empty = Holding
  caller_of (waits t) = Sent t
  caller_of (taken t) = Sent t
  caller_of (answered t a) = Sent t

  -- what the worker knows, once there is one
  abbrev pub worker_of : Mail T A → List (MailView T)
  worker_of unshared = []
  worker_of unopened = Idle ∷ []
  worker_of empty = Idle ∷ []
  worker_of (waits t) = Idle ∷ []
  worker_of (taken t) = Working t ∷ []
  worker_of (answered t a) = Idle ∷ []

  -- the word, the slot and the seats together
  abbrev pub state_of : Mail T A → State (Slot T A) (MailView T)
  state_of mail = record {
    words = stage_of mail ∷ [];
    homes = home_of mail ∷ [];
    views = caller_of mail ∷ worker_of mail;
  }

  -- an answer in the mailbox is one to its task
  abbrev pub HasRightAnswer : (T → A → Type 0) → Mail T A → Type 0
  HasRightAnswer answers (answered t a) = answers t a
  HasRightAnswer answers _ = Unit {0}

-- the rule: the mailbox is in one of its states, and an answer in it is one to its task
pub record IsMailbox {T A : Type 0} (answers : T → A → Type 0) (s : State (Slot T A) (MailView T)) : Type 0 where
  pub mail : Mail T A
  pub is : s ≡ state_of mail
  pub right : HasRightAnswer answers mail

-- the seat is at this table, which has one word
abbrev pub IsSeatOf : TableId → TableId → Type 0
IsSeatOf table seat = (seat ≡ table) × (table.words ≡ 1)

-- the task that is out, as the caller or the worker knows it
abbrev pub task_of : {T : Type 0} → MailView T → Option' T
task_of (Sent t) = Some t
task_of (Working t) = Some t
task_of _ = None

module _ {T A : Type 0} where
  -- ---- the hands of the two seats between two calls

  -- the caller has nothing out, and holds the slot, which is empty
  abbrev pub IsHolding : Hand T A → Type 0
  IsHolding m = m ≡ (Holding, (0, None) ∷ [])

  -- the caller has this task out
  abbrev pub IsSent : T → Hand T A → Type 0
  IsSent t m = m ≡ (Sent t, [])

  -- the caller has a task out
  abbrev pub HasTaskOut : Hand T A → Type 0
  HasTaskOut m = (t : T) × IsSent t m

  -- the worker has nothing to do
  abbrev pub IsIdle : Hand T A → Type 0
  IsIdle m = m ≡ (Idle, [])

  -- the worker has this task, and holds the slot, which is empty
  abbrev pub IsWorking : T → Hand T A → Type 0
  IsWorking t m = m ≡ (Working t, (0, None) ∷ [])

  -- it is the caller's seat
  abbrev pub IsCaller : Hand T A → Type 0
  IsCaller (Holding, slots) = slots ≡ (0, None) ∷ []
  IsCaller (Sent t, slots) = slots ≡ []
  IsCaller _ = ⊥

  -- it is the worker's seat
  abbrev pub IsWorker : Hand T A → Type 0
  IsWorker (Idle, slots) = slots ≡ []
  IsWorker (Working t, slots) = slots ≡ (0, None) ∷ []
  IsWorker _ = ⊥

  -- ---- the effect of each step: the seat's hand before, the word that was found, and the hand after

  -- the caller has the slot
  abbrev pub HasOpened : Hand T A → Hand T A → Type 0
  HasOpened m m' = m' ≡ (Holding, (0, None) ∷ m.1)

  -- what the caller knows once it has given this letter
  abbrev pub sent_with : List (ℕ × Slot T A) → MailView T
  sent_with ((k, Some (Task t)) ∷ slots) = Sent t
  sent_with _ = Holding

  -- the caller gave the letter that it had in the slot
  abbrev pub HasGiven : Hand T A → Hand T A → Type 0
  HasGiven m m' = m' ≡ (sent_with m.1, rest m.1)

  -- the letter of the task that is out
  abbrev pub letter_of : MailView T → Slot T A
  letter_of (Sent t) = Some (Task t)
  letter_of _ = None

  -- if the letter still waited, the caller has it back
  abbrev pub HasUndone : Hand T A → ℕ → Hand T A → Type 0
  HasUndone m n m' = MatchBool (nat_eq n WAITS) (m' ≡ (Holding, (0, letter_of m.0) ∷ m.1)) (m' ≡ m)

  -- it is an answer to the task that is out
  abbrev pub Answers : (T → A → Type 0) → MailView T → A → Type 0
  Answers answers (Sent t) a = answers t a
  Answers answers _ a = Unit {0}

  -- if there was an answer, the caller has it
  abbrev pub HasCollected : (T → A → Type 0) → Hand T A → ℕ → Hand T A → Type 0
  HasCollected answers m n m' = MatchBool (nat_eq n ANSWERED)
      ((a : A) × Answers answers m.0 a × (m' ≡ (Holding, (0, Some (Answer a)) ∷ m.1))) (m' ≡ m)

  -- if a letter waited, the worker has it
  abbrev pub HasTaken : Hand T A → ℕ → Hand T A → Type 0
  HasTaken m n m' = MatchBool (nat_eq n WAITS) ((t : T) × (m' ≡ (Working t, (0, Some (Task t)) ∷ m.1))) (m' ≡ m)

  -- the worker gave the contents of its slot
  abbrev pub HasGivenAnswer : Hand T A → Hand T A → Type 0
  HasGivenAnswer m m' = m' ≡ (Idle, rest m.1)
