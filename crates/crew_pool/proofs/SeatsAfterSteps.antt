-- The hand of a seat after its steps.
use Rattle.std.proofs.Common.{◌≡◌, ℕ, [], ◌∷◌, sym, refl, ap, ◌∙◌, subst, Some}
use Rattle.atomic_table.specs.Table.{rest}
use Rattle.crew_pool.specs.declared.mail.TheConstants.{WAITS, ANSWERED}
use Rattle.crew_pool.specs.declared.mail.Letter.TheVariants.{Task, Answer}
use Rattle.crew_pool.specs.declared.mail.MailView.{MailView}
use Rattle.crew_pool.specs.declared.mail.MailView.TheVariants.{Holding, Sent, Idle, Working}
use Rattle.crew_pool.specs.Mail.{Slot, Hand, letter_of, HasUndone, HasCollected, HasTaken}

module _ {T A : Type 0} where
  -- ---- the slot

  -- a seat with the slot, after it exchanged the contents
  pub put_in : (m m' : Hand T A) (v : MailView T) (x y : Slot T A) → m ≡ (v, (0, x) ∷ [])
      → m' ≡ (m.0, (0, y) ∷ rest m.1) → m' ≡ (v, (0, y) ∷ [])
  put_in m m' v x y before after = after ∙ ap (λ (h : Hand T A). (h.0, (0, y) ∷ rest h.1)) before

  -- a seat with the slot may exchange the contents
  pub has_slot : (m : Hand T A) (v : MailView T) (x : Slot T A) → m ≡ (v, (0, x) ∷ [])
      → (y : Slot T A) × (m.1 ≡ (0, y) ∷ rest m.1)
  has_slot m v x is = (x, subst (λ (h : Hand T A). h.1 ≡ (0, x) ∷ rest h.1) (sym is) refl)

  -- ---- HasUndone, HasTaken, HasCollected

  -- if the step found the task still waiting, the caller has its letter back
  pub HasUndone-hit : (m m' : Hand T A) (n : ℕ) (x : T) → m ≡ (Sent x, []) → HasUndone m n m' → n ≡ WAITS
      → m' ≡ (Holding, (0, Some (Task x)) ∷ [])
  HasUndone-hit m m' n x is told hit =
      let here : HasUndone m WAITS m' = subst (λ k. HasUndone m k m') hit told in
      here ∙ ap (λ (h : Hand T A). (Holding, (0, letter_of h.0) ∷ h.1)) is

  -- if it found a task, the worker has it
  pub HasTaken-hit : (m m' : Hand T A) (n : ℕ) → m ≡ (Idle, []) → HasTaken m n m' → n ≡ WAITS
      → (x : T) × (m' ≡ (Working x, (0, Some (Task x)) ∷ []))
  HasTaken-hit m m' n is told hit =
      let here : HasTaken (Idle, []) WAITS m' = subst (λ h. HasTaken h WAITS m') is
      (subst (λ k. HasTaken m k m') hit told) in here

  -- if it found an answer, the caller has it, and it is one to the task
  pub HasCollected-hit : (answers : T → A → Type 0) (m m' : Hand T A) (n : ℕ) (x : T) → m ≡ (Sent x, [])
      → HasCollected answers m n m' → n ≡ ANSWERED → (a : A) × answers x a × (m' ≡ (Holding, (0, Some (Answer a)) ∷ []))
  HasCollected-hit answers m m' n x is told hit =
      let here : HasCollected answers (Sent x, []) ANSWERED m' = subst (λ h. HasCollected answers h ANSWERED m') is
      (subst (λ k. HasCollected answers m k m') hit told) in here
