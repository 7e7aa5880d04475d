-- Facts of an accepted decision: no row of the table of refusals applies to it.
use Rattle.std.proofs.Common.{◌≡◌, ℕ, ◌==◌, ◌<◌, ◌≤◌, List}
use Rattle.std.proofs.Common.{◌∷◌, refl, sym, ap, ◌∙◌, length, Option, Some, None}
use Rattle.std.proofs.Common.{is_none, option_map, nat_le}
use Rattle.std.proofs.lemmas.Bool.{leb-false}
use Rattle.sim_base.specs.Clones.{Clone, clone_at, place_of}
use Rattle.sim_base.specs.Decisions.{subject}
use Rattle.sim_base.specs.declared.decision.Decision.{Decision}
use Rattle.sim_base.specs.declared.decision.Decision.TheVariants.{Fork, Set, End}
use Rattle.sim_base.specs.declared.message.Change.{Change}
use Rattle.sim_base.specs.declared.lists.TheConstants.{MAX_DECISIONS}
use Rattle.net_model.specs.Net.{Net, station_named, site_of}
use Rattle.stations.specs.Changes.{accepts}
use Rattle.decision_book.specs.Journal.{Situation}
use Rattle.decision_book.specs.declared.call.Reply.TheVariants.{Accepted, Full, Closed, Ended}
use Rattle.decision_book.specs.declared.call.Reply.TheVariants.{UnknownStation, ListFull}
use Rattle.decision_book.specs.declared.call.TheConstants.{MAX_CALLS}
use Rattle.decision_book.specs.Replies.{row, first_row, reply, rows, clone_rows, time_rows, change_row, fault_row}
use Rattle.decision_book.proofs.Planned.{station_named-low}
use Rattle.decision_book.proofs.Rows.{first_row-Accepted, first_row-fault, first_row-times}
use Rattle.world_core.specs.Taking.{situation, IsAccepted}

-- ---- MaySet

-- a set's station exists, its time is not late, and the list of its clone is not full
pub record MaySet (net : Net) (cs : List Clone) (front c at : ℕ) (station : List ℕ) : Type 0 where
  pub number : ℕ
  pub found : station_named station net ≡ Some number
  pub low : 1 ≤ number
  pub late : front ≤ at
  pub time_max : at < net.horizon
  pub length_max : length (clone_at cs c).plans < MAX_DECISIONS

-- this holds for each set that no row refuses
pub may_set : (net : Net) (cs : List Clone) (front c at : ℕ) (who station : List ℕ) (change : Change)
    → first_row (rows (situation net cs front) c (Set who at station change)) ≡ Accepted
    → MaySet net cs front c at station
may_set net cs front c at who station change h = by (station_named station net) refl h
  where
    after : (s : ℕ) → station_named station net ≡ Some s
        → first_row (fault_row (accepts (site_of net s) change) ∷ row
        (nat_le MAX_DECISIONS (length (clone_at cs c).plans)) ListFull ∷ time_rows net front at) ≡ Accepted
        → MaySet net cs front c at station
    after s e h =
        let a = first_row-fault (accepts (site_of net s) change)
        (row (nat_le MAX_DECISIONS (length (clone_at cs c).plans)) ListFull ∷ time_rows net front at) h in
        let b = first_row-Accepted (nat_le MAX_DECISIONS (length (clone_at cs c).plans)) ListFull
        (time_rows net front at) (λ e. absurd cc) a in
        let t = first_row-times net front at b.1 in
        record {
          number = s;
          found = e;
          low = station_named-low station net s e;
          late = t.0;
          time_max = t.1;
          length_max = leb-false MAX_DECISIONS (length (clone_at cs c).plans) b.0;
        }

    by : (o : Option ℕ) → station_named station net ≡ o
        → first_row (row (is_none o) UnknownStation ∷ change_row net o change ∷ row
        (nat_le MAX_DECISIONS (length (clone_at cs c).plans)) ListFull ∷ time_rows net front at) ≡ Accepted
        → MaySet net cs front c at station
    by None e h = absurd cc
    by (Some s) e h = after s e h

-- ---- an end

-- an end is not late, and before the horizon
pub may_end : (net : Net) (cs : List Clone) (front c at : ℕ) (who : List ℕ)
    → first_row (rows (situation net cs front) c (End who at)) ≡ Accepted → (front ≤ at) × (at < net.horizon)
may_end net cs front c at who h = first_row-times net front at h

-- ---- place_of

-- the clone exists
pub no_place : (name : List ℕ) (cs : List Clone) (c : ℕ) → place_of name cs ≡ Some c → None ≡ place_of name cs → ⊥
no_place name cs c a b = let e : None ≡ Some c = b ∙ a in absurd cc

-- ---- rows

-- the rows of a decision do not depend on the number of earlier calls
rows_same : (s : Situation) (c : ℕ) (d : Decision) → rows s c d ≡ rows (situation s.net s.clones s.front) c d
rows_same s c (Fork new old) = refl
rows_same s c (Set who at station change) = refl
rows_same s c (End who at) = refl

-- nor do those of its clone
clone_rows_same : (s : Situation) (d : Decision) (place : Option ℕ)
    → clone_rows s d place ≡ clone_rows (situation s.net s.clones s.front) d place
clone_rows_same s d None = refl
clone_rows_same s d (Some c) = ap (λ r. option_map (λ at. Ended at) (clone_at s.clones c).end ∷ r) (rows_same s c d)

-- ---- a decision

-- what was accepted in a journal, with any number of calls, is accepted for a world with its clones at its front
pub accepted_at : (s : Situation) (d : Decision) → reply s d ≡ Accepted → IsAccepted s.net s.clones s.front d
accepted_at s d h =
    ap (λ r. first_row (row (s.front == s.net.horizon) Closed ∷ r))
    (sym (clone_rows_same s d (place_of (subject d) s.clones)))
    ∙ (first_row-Accepted (nat_le MAX_CALLS s.calls) Full
    (row (s.front == s.net.horizon) Closed ∷ clone_rows s d (place_of (subject d) s.clones)) (λ e. absurd cc) h).1
