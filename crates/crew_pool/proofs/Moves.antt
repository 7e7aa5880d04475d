-- Each step of a seat keeps the rule of the mailbox.
use Rattle.std.proofs.Common.{◌≡◌, ℕ, zero, suc, Bool, true, false, true≢false, List, [], ◌∷◌}
use Rattle.std.proofs.Common.{sym, refl, ap, ◌∙◌, subst, slice_index, Some, nat_eq}
use Rattle.std.specs.Prelude.{None}
use mathlib.Core.Option.{some, some-ne-none, some-injective}
use prog.Atomic.{either}
use lib.ListN.{get_elem?}
use Rattle.atomic_table.specs.Table.{State, Allows, Act, Valid, stepped, carried_after, keeps, takes, gives}
use Rattle.crew_pool.specs.declared.mail.TheConstants.{EMPTY, WAITS, TAKEN, ANSWERED}
use Rattle.crew_pool.specs.declared.mail.Letter.TheVariants.{Task, Answer}
use Rattle.crew_pool.specs.declared.mail.MailView.{MailView}
use Rattle.crew_pool.specs.declared.mail.MailView.TheVariants.{Alone, Opening, Holding, Sent, Idle, Working}
use Rattle.crew_pool.specs.Mail.{Slot, Hand, Mail, unshared, unopened, empty, waits, taken, answered}
use Rattle.crew_pool.specs.Mail.{caller_of, worker_of, state_of, HasRightAnswer, IsMailbox}
use Rattle.crew_pool.specs.Mail.{HasOpened, HasGiven, HasUndone, HasCollected, HasTaken, HasGivenAnswer}

-- whether a seat with this view is the caller's
abbrev is_caller : {T : Type 0} → MailView T → Bool
is_caller Idle = false
is_caller (Working t) = false
is_caller _ = true

-- the task that a seat has out, or the other if it has none
abbrev task_or : {T : Type 0} → T → MailView T → T
task_or d (Sent t) = t
task_or d (Working t) = t
task_or d _ = d

-- the first of a list of views
abbrev first_or : {T : Type 0} → MailView T → List (MailView T) → MailView T
first_or d [] = d
first_or d (v ∷ vs) = v

module _ {T A : Type 0} where
  -- ---- whose seat it is

  -- only the caller, whose seat is the first, has a view of a caller
  caller_of-is : (mail : Mail T A) (id : ℕ) (v : MailView T) → is_caller v ≡ true
      → get_elem? (caller_of mail ∷ worker_of mail) id ≡ some v → (id ≡ 0) × (caller_of mail ≡ v)
  caller_of-is mail zero v c e = (refl, some-injective _ _ e)
  caller_of-is unshared (suc n) v c e = absurd (some-ne-none v (sym e))
  caller_of-is unopened (suc zero) v c e = absurd (true≢false (sym c ∙ sym (ap is_caller (some-injective Idle v e))))
  caller_of-is empty (suc zero) v c e = absurd (true≢false (sym c ∙ sym (ap is_caller (some-injective Idle v e))))
  caller_of-is (waits t) (suc zero) v c e = absurd (true≢false (sym c ∙ sym (ap is_caller (some-injective Idle v e))))
  caller_of-is (taken t) (suc zero) v c e =
      absurd (true≢false (sym c ∙ sym (ap is_caller (some-injective (Working t) v e))))
  caller_of-is (answered t a) (suc zero) v c e =
      absurd (true≢false (sym c ∙ sym (ap is_caller (some-injective Idle v e))))
  caller_of-is unopened (suc (suc n)) v c e = absurd (some-ne-none v (sym e))
  caller_of-is empty (suc (suc n)) v c e = absurd (some-ne-none v (sym e))
  caller_of-is (waits t) (suc (suc n)) v c e = absurd (some-ne-none v (sym e))
  caller_of-is (taken t) (suc (suc n)) v c e = absurd (some-ne-none v (sym e))
  caller_of-is (answered t a) (suc (suc n)) v c e = absurd (some-ne-none v (sym e))

  -- and only the worker, whose seat is the second, one of a worker
  worker_of-is : (mail : Mail T A) (id : ℕ) (v : MailView T) → is_caller v ≡ false
      → get_elem? (caller_of mail ∷ worker_of mail) id ≡ some v → (id ≡ 1) × (worker_of mail ≡ v ∷ [])
  worker_of-is unshared zero v c e = absurd (true≢false (ap is_caller (some-injective Alone v e) ∙ c))
  worker_of-is unopened zero v c e = absurd (true≢false (ap is_caller (some-injective Opening v e) ∙ c))
  worker_of-is empty zero v c e = absurd (true≢false (ap is_caller (some-injective Holding v e) ∙ c))
  worker_of-is (waits t) zero v c e = absurd (true≢false (ap is_caller (some-injective (Sent t) v e) ∙ c))
  worker_of-is (taken t) zero v c e = absurd (true≢false (ap is_caller (some-injective (Sent t) v e) ∙ c))
  worker_of-is (answered t a) zero v c e = absurd (true≢false (ap is_caller (some-injective (Sent t) v e) ∙ c))
  worker_of-is unshared (suc n) v c e = absurd (some-ne-none v (sym e))
  worker_of-is unopened (suc zero) v c e = (refl, ap (λ u. u ∷ []) (some-injective _ _ e))
  worker_of-is empty (suc zero) v c e = (refl, ap (λ u. u ∷ []) (some-injective _ _ e))
  worker_of-is (waits t) (suc zero) v c e = (refl, ap (λ u. u ∷ []) (some-injective _ _ e))
  worker_of-is (taken t) (suc zero) v c e = (refl, ap (λ u. u ∷ []) (some-injective _ _ e))
  worker_of-is (answered t a) (suc zero) v c e = (refl, ap (λ u. u ∷ []) (some-injective _ _ e))
  worker_of-is unopened (suc (suc n)) v c e = absurd (some-ne-none v (sym e))
  worker_of-is empty (suc (suc n)) v c e = absurd (some-ne-none v (sym e))
  worker_of-is (waits t) (suc (suc n)) v c e = absurd (some-ne-none v (sym e))
  worker_of-is (taken t) (suc (suc n)) v c e = absurd (some-ne-none v (sym e))
  worker_of-is (answered t a) (suc (suc n)) v c e = absurd (some-ne-none v (sym e))

  -- ---- steps of one seat, by the states of the mailbox

  -- a view and an act that keep the rule, and the effect of the step
  abbrev Shows : (T → A → Type 0) → Hand T A → (ℕ → ℕ) → (Hand T A → ℕ → Hand T A → Type 0)
      → State (Slot T A) (MailView T) → ℕ → Type 0
  Shows answers m f tells s id = (w : MailView T) × (a : Act (Slot T A)) × Valid s.homes m.1 a
      × IsMailbox answers (stepped s 0 (f (slice_index s.words 0)) id m.1 w a)
      × tells m (slice_index s.words 0) (w, carried_after m.1 a)

  -- a step of the caller is allowed if it is shown in each state in which the caller knows as much
  Allows-caller : (answers : T → A → Type 0) (slots id : ℕ) (m k : Hand T A) (f : ℕ → ℕ)
      (tells : Hand T A → ℕ → Hand T A → Type 0) → m ≡ k → is_caller k.0 ≡ true
      → ((mail : Mail T A) → HasRightAnswer answers mail → caller_of mail ≡ k.0
      → Shows answers k f tells (state_of mail) 0)
      → Allows (IsMailbox answers) slots id m 0 f (tells m)
  Allows-caller answers slots id m k f tells has role shows s held one at small =
      let At : State (Slot T A) (MailView T) → Hand T A → Type 0 = λ u h. get_elem? u.views id ≡ some h.0 in
      let is = caller_of-is held.mail id k.0 role (subst (λ h. At (state_of held.mail) h) has
      (subst (λ u. At u m) held.is at)) in
      subst (λ u. Shows answers m f tells u id) (sym held.is)
      (subst (λ h. Shows answers h f tells (state_of held.mail) id) (sym has)
      (subst (λ (i : ℕ). Shows answers k f tells (state_of held.mail) i) (sym is.0) (shows held.mail held.right is.1)))

  -- the same of the worker
  Allows-worker : (answers : T → A → Type 0) (slots id : ℕ) (m k : Hand T A) (f : ℕ → ℕ)
      (tells : Hand T A → ℕ → Hand T A → Type 0) → m ≡ k → is_caller k.0 ≡ false
      → ((mail : Mail T A) → HasRightAnswer answers mail → worker_of mail ≡ k.0 ∷ []
      → Shows answers k f tells (state_of mail) 1)
      → Allows (IsMailbox answers) slots id m 0 f (tells m)
  Allows-worker answers slots id m k f tells has role shows s held one at small =
      let At : State (Slot T A) (MailView T) → Hand T A → Type 0 = λ u h. get_elem? u.views id ≡ some h.0 in
      let is = worker_of-is held.mail id k.0 role (subst (λ h. At (state_of held.mail) h) has
      (subst (λ u. At u m) held.is at)) in
      subst (λ u. Shows answers m f tells u id) (sym held.is)
      (subst (λ h. Shows answers h f tells (state_of held.mail) id) (sym has)
      (subst (λ (i : ℕ). Shows answers k f tells (state_of held.mail) i) (sym is.0) (shows held.mail held.right is.1)))

  -- ---- the caller takes the slot

  -- in the one state in which the caller opens, its step keeps the rule
  Shows-opens : (answers : T → A → Type 0) (mail : Mail T A) → HasRightAnswer answers mail → caller_of mail ≡ Opening
      → Shows answers (Opening, []) (λ n. n) (λ m _ w. HasOpened m w) (state_of mail) 0
  Shows-opens answers unshared r e = absurd cc
  Shows-opens answers unopened r e = (Holding, takes 0 None, refl, record { mail = empty; is = refl; right = tt }, refl)
  Shows-opens answers empty r e = absurd cc
  Shows-opens answers (waits t) r e = absurd cc
  Shows-opens answers (taken t) r e = absurd cc
  Shows-opens answers (answered t a) r e = absurd cc

  -- the caller may take the slot
  pub IsMailbox-opens : (answers : T → A → Type 0) (slots id : ℕ) (m : Hand T A) → m ≡ (Opening, [])
      → Allows (IsMailbox answers) slots id m 0 (λ n. n) (λ _ w. HasOpened m w)
  IsMailbox-opens answers slots id m is =
      Allows-caller answers slots id m (Opening, []) (λ n. n) (λ m _ w. HasOpened m w) is refl (Shows-opens answers)

  -- ---- a task is given

  -- in the one state in which the caller holds the slot, giving keeps the rule
  Shows-gives : (answers : T → A → Type 0) (x : T) (mail : Mail T A) → HasRightAnswer answers mail
      → caller_of mail ≡ Holding
      → Shows answers (Holding, (0, Some (Task x)) ∷ []) (λ _. WAITS) (λ m _ w. HasGiven m w) (state_of mail) 0
  Shows-gives answers x unshared r e = absurd cc
  Shows-gives answers x unopened r e = absurd cc
  Shows-gives answers x empty r e = (Sent x, gives, tt, record { mail = waits x; is = refl; right = tt }, refl)
  Shows-gives answers x (waits t) r e = absurd cc
  Shows-gives answers x (taken t) r e = absurd cc
  Shows-gives answers x (answered t a) r e = absurd cc

  -- the caller may give a task
  pub IsMailbox-gives : (answers : T → A → Type 0) (x : T) (slots id : ℕ) (m : Hand T A)
      → m ≡ (Holding, (0, Some (Task x)) ∷ [])
      → Allows (IsMailbox answers) slots id m 0 (λ _. WAITS) (λ _ w. HasGiven m w)
  IsMailbox-gives answers x slots id m is =
      Allows-caller answers slots id m (Holding, (0, Some (Task x)) ∷ []) (λ _. WAITS)
      (λ m _ w. HasGiven m w) is refl (Shows-gives answers x)

  -- ---- it is taken back

  -- in each state in which a task is out, the caller takes it back, or finds that it no longer waits
  Shows-undoes : (answers : T → A → Type 0) (x : T) (mail : Mail T A) → HasRightAnswer answers mail
      → caller_of mail ≡ Sent x
      → Shows answers (Sent x, []) (λ n. either (nat_eq n WAITS) EMPTY n) HasUndone (state_of mail) 0
  Shows-undoes answers x unshared r e = absurd cc
  Shows-undoes answers x unopened r e = absurd cc
  Shows-undoes answers x empty r e = absurd cc
  Shows-undoes answers x (waits t) r e = (
    Holding,
    takes 0 (Some (Task x)),
    ap (λ v. some (some (Some (Task (task_or x v))))) e,
    record { mail = empty; is = refl; right = tt },
    refl,
  )
  Shows-undoes answers x (taken t) r e =
      (Sent t, keeps, tt, record { mail = taken t; is = refl; right = tt }, ap (λ v. (v, [])) e)
  Shows-undoes answers x (answered t a) r e =
      (Sent t, keeps, tt, record { mail = answered t a; is = refl; right = r }, ap (λ v. (v, [])) e)

  -- the caller may take a task back that waits
  pub IsMailbox-undoes : (answers : T → A → Type 0) (x : T) (slots id : ℕ) (m : Hand T A) → m ≡ (Sent x, [])
      → Allows (IsMailbox answers) slots id m 0 (λ n. either (nat_eq n WAITS) EMPTY n) (HasUndone m)
  IsMailbox-undoes answers x slots id m is =
      Allows-caller answers slots id m (Sent x, []) (λ n. either (nat_eq n WAITS) EMPTY n) HasUndone is refl
      (Shows-undoes answers x)

  -- ---- the worker takes it

  -- in each state in which the worker is idle, it takes the task that waits, or finds none
  Shows-takes : (answers : T → A → Type 0) (mail : Mail T A) → HasRightAnswer answers mail → worker_of mail ≡ Idle ∷ []
      → Shows answers (Idle, []) (λ n. either (nat_eq n WAITS) TAKEN n) HasTaken (state_of mail) 1
  Shows-takes answers unshared r e = absurd cc
  Shows-takes answers unopened r e = (Idle, keeps, tt, record { mail = unopened; is = refl; right = tt }, refl)
  Shows-takes answers empty r e = (Idle, keeps, tt, record { mail = empty; is = refl; right = tt }, refl)
  Shows-takes answers (waits t) r e =
      (Working t, takes 0 (Some (Task t)), refl, record { mail = taken t; is = refl; right = tt }, (t, refl))
  Shows-takes answers (taken t) r e = absurd cc
  Shows-takes answers (answered t a) r e = (Idle, keeps, tt, record { mail = answered t a; is = refl; right = r }, refl)

  -- the worker may take a task that waits
  pub IsMailbox-takes : (answers : T → A → Type 0) (slots id : ℕ) (m : Hand T A) → m ≡ (Idle, [])
      → Allows (IsMailbox answers) slots id m 0 (λ n. either (nat_eq n WAITS) TAKEN n) (HasTaken m)
  IsMailbox-takes answers slots id m is =
      Allows-worker answers slots id m (Idle, []) (λ n. either (nat_eq n WAITS) TAKEN n) HasTaken is refl
      (Shows-takes answers)

  -- ---- and answers it

  -- in the one state in which the worker has this task, leaving an answer keeps the rule
  Shows-leaves : (answers : T → A → Type 0) (x : T) (a : A) → answers x a → (mail : Mail T A)
      → HasRightAnswer answers mail → worker_of mail ≡ Working x ∷ []
      → Shows answers (Working x, (0, Some (Answer a)) ∷ []) (λ _. ANSWERED) (λ m _ w. HasGivenAnswer m w)
      (state_of mail) 1
  Shows-leaves answers x a is unshared r e = absurd cc
  Shows-leaves answers x a is unopened r e = absurd cc
  Shows-leaves answers x a is empty r e = absurd cc
  Shows-leaves answers x a is (waits t) r e = absurd cc
  Shows-leaves answers x a is (taken t) r e =
      let same : x ≡ t = sym (ap (λ vs. task_or x (first_or Idle vs)) e) in
      (Idle, gives, tt, record { mail = answered t a; is = refl; right = subst (λ y. answers y a) same is }, refl)
  Shows-leaves answers x a is (answered t b) r e = absurd cc

  -- the worker may give an answer to its task
  pub IsMailbox-leaves : (answers : T → A → Type 0) (x : T) (a : A) → answers x a → (slots id : ℕ) (m : Hand T A)
      → m ≡ (Working x, (0, Some (Answer a)) ∷ [])
      → Allows (IsMailbox answers) slots id m 0 (λ _. ANSWERED) (λ _ w. HasGivenAnswer m w)
  IsMailbox-leaves answers x a right slots id m is =
      Allows-worker answers slots id m (Working x, (0, Some (Answer a)) ∷ []) (λ _. ANSWERED)
      (λ m _ w. HasGivenAnswer m w) is refl (Shows-leaves answers x a right)

  -- ---- and the caller collects the answer

  -- in each state in which a task is out, the caller collects its answer, or finds none
  Shows-collects : (answers : T → A → Type 0) (x : T) (mail : Mail T A) → HasRightAnswer answers mail
      → caller_of mail ≡ Sent x
      → Shows answers (Sent x, []) (λ n. either (nat_eq n ANSWERED) EMPTY n) (HasCollected answers) (state_of mail) 0
  Shows-collects answers x unshared r e = absurd cc
  Shows-collects answers x unopened r e = absurd cc
  Shows-collects answers x empty r e = absurd cc
  Shows-collects answers x (waits t) r e =
      (Sent t, keeps, tt, record { mail = waits t; is = refl; right = tt }, ap (λ v. (v, [])) e)
  Shows-collects answers x (taken t) r e =
      (Sent t, keeps, tt, record { mail = taken t; is = refl; right = tt }, ap (λ v. (v, [])) e)
  Shows-collects answers x (answered t a) r e = (
    Holding,
    takes 0 (Some (Answer a)),
    refl,
    record { mail = empty; is = refl; right = tt },
    (a, subst (λ v. answers (task_or x v) a) e r, refl),
  )

  -- the caller may take an answer
  pub IsMailbox-collects : (answers : T → A → Type 0) (x : T) (slots id : ℕ) (m : Hand T A) → m ≡ (Sent x, [])
      → Allows (IsMailbox answers) slots id m 0 (λ n. either (nat_eq n ANSWERED) EMPTY n) (HasCollected answers m)
  IsMailbox-collects answers x slots id m is =
      Allows-caller answers slots id m (Sent x, []) (λ n. either (nat_eq n ANSWERED) EMPTY n)
      (HasCollected answers) is refl (Shows-collects answers x)
