-- A lower bound of the times of a station's pending messages.
use Rattle.std.proofs.Common.{◌⊎◌, ℕ, ◌≤◌, List}
use Rattle.std.proofs.Common.{inl, inr, Option, Some, sym, ◌∙◌, subst, arith}
use Rattle.sim_base.specs.declared.message.Msg.{Msg}
use Rattle.run_laws.proofs.Queue.{all_in}
use Rattle.run_laws.proofs.Parts.{all_part_of}
use Rattle.run_laws.proofs.Leasts.{least-either}
use Rattle.phys_proc.specs.Own.{StationCopy, IsLowerBound, IsLowerBoundOfAll, taken_at, takes_at}
use Rattle.phys_proc.specs.Procs.{IsTakenBy, IsLeastTime, IsWithLeast}

-- ---- IsLowerBoundOfAll

-- if no message is pending before a time, a clone takes no earlier message from the copies
IsLowerBoundOfAll-taken : (ends : ℕ → ℕ) (t : ℕ) (copies : List StationCopy) (c : ℕ) (m : Msg)
    → IsLowerBoundOfAll t copies
    → IsTakenBy ends copies c m → t ≤ m.key.time
IsLowerBoundOfAll-taken ends t copies c m late x =
    let a = all_in (IsLowerBound t) copies x.copy late x.is_copy in
    all_in (λ (m : Msg). t ≤ m.key.time) (taken_at ends c x.copy.pending) m
    (all_part_of (takes_at ends) c (λ (m : Msg). t ≤ m.key.time) x.copy.pending a) x.is_taken

-- ---- IsLeastTime

-- if the least so far is no later, it stays
pub least_stays : (ends : ℕ → ℕ) (time least : ℕ) (copies : List StationCopy) → time ≤ least
    → IsLowerBoundOfAll least copies
    → (P : Msg → Type 0) → IsLeastTime P (Some time) →
    IsLeastTime (λ m. P m ⊎ ((c : ℕ) × IsTakenBy ends copies c m)) (Some time)
least_stays ends time least copies soon late P h = ((h.0.0, inl h.0.1, h.0.2), λ m x. of m x)
  where
    of : (m : Msg) → P m ⊎ ((c : ℕ) × IsTakenBy ends copies c m) → time ≤ m.key.time
    of m (inl p) = h.1 m p
    of m (inr x) = let l = IsLowerBoundOfAll-taken ends least copies x.0 m late x.1 in omega (arith, l, soon)

-- the lesser of an earlier result and the least time of these copies
pub least_with : (ends : ℕ → ℕ) (copies : List StationCopy) (before t : Option ℕ) → IsWithLeast ends copies before t
    → (P : Msg → Type 0) → IsLeastTime P before →
    IsLeastTime (λ m. P m ⊎ ((c : ℕ) × IsTakenBy ends copies c m)) t
least_with ends copies before t (inl x) P h =
    subst (IsLeastTime (λ m. P m ⊎ ((c : ℕ) × IsTakenBy ends copies c m))) (sym (x.3 ∙ x.1))
    (least_stays ends x.0 x.0 copies (omega arith) x.2 P (subst (IsLeastTime P) x.1 h))
least_with ends copies before t (inr x) P h =
    subst (IsLeastTime (λ m. P m ⊎ ((c : ℕ) × IsTakenBy ends copies c m))) (sym x.2)
    (least-either (λ (m : Msg). m.key.time) P (λ (m : Msg). (c : ℕ) × IsTakenBy ends copies c m) before x.0 h x.1)
