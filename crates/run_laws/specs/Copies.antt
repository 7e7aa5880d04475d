-- Copies of one station: a copy represents a set of clones, and each of its pending messages is marked with clones.
--
-- A clone takes the messages whose marks have it and that come before its end. What it takes of a copy makes it a
-- station alone, one whose sends at its end or later are dropped. So it does not matter whether a message at a clone's
-- end or later is marked with the clone.
use Rattle.std.specs.Prelude.{◌≡◌, ◌⊎◌, ℕ, ◌+◌, ◌<◌, ◌≤◌, List, [], ◌∷◌, ◌++◌, if◌then◌else◌, Bool}
use Rattle.std.specs.Prelude.{true, false, ◌==◌, ◌&&◌, map, length, take, nat_lt, Option, Some, None, ⊤}
use Rattle.std.specs.List.{AllByRecursion}
use Rattle.std.specs.declared.cmp.Ordering.{Ordering}
use Rattle.sim_base.specs.Clones.{Clone, clone_at}
use Rattle.sim_base.specs.Pending.{insert_marked}
use Rattle.sim_base.specs.Marked.{SortedMarked}
use Rattle.sim_base.specs.declared.entry.Entry.{Entry}
use Rattle.run_laws.specs.Queue.{insert, In}
use Rattle.run_laws.specs.Machine.{Config, Reach, IsSettled}
use Rattle.run_laws.specs.Simulation.{Simulation, Outcome}
use Rattle.run_laws.specs.World.{to_it}
use Rattle.run_laws.specs.Window.{LocalStation, to_others, earlier_than, local_step, local_run}
use Rattle.run_laws.specs.Runs.{end_of, log_at, state_at, due_at}
use Rattle.run_laws.specs.Prefixes.{IsCount, IsGained}

module _ {M K : Type 0} (takes : M → K → ℕ → Bool) where
  -- the messages that clone c takes
  abbrev pub part : ℕ → List (M × K) → List M
  part c [] = []
  part c (x ∷ xs) = if takes x.0 x.1 c then x.0 ∷ part c xs else part c xs

module _ {M K : Type 0} (time : M → ℕ) (has : K → ℕ → Bool) (ends : ℕ → ℕ) where
  -- clone c takes a message with these marks: they have it, and it ends later
  abbrev pub takes_at : M → K → ℕ → Bool
  takes_at m k c = has k c && nat_lt (time m) (ends c)

module _ {M K : Type 0} (join : K → K → K) (cmp : M → M → Ordering) where
  -- each message is put in its place, with these marks
  abbrev pub insert_marked_all : List M → K → List (M × K) → List (M × K)
  insert_marked_all [] k q = q
  insert_marked_all (x ∷ xs) k q = insert_marked_all xs k (insert_marked join cmp x k q)

-- the marks are those of one clone
abbrev pub AreOf : {K : Type 0} → (K → ℕ → Bool) → K → ℕ → Type 0
AreOf has k c = (d : ℕ) → has k d ≡ (c == d)

-- a copy of a station: the clones that it represents, their state and log, and their pending messages
pub record Copy (S M N K : Type 0) : Type 0 where
  pub set : K
  pub state : S
  pub log : List (Entry M N)
  pub pending : List (M × K)

-- the copy b is a except for the pending messages: it represents the same clones, with the same log and state
pub record IsSameCopy {S M N K : Type 0} (a b : Copy S M N K) : Type 0 where
  pub set : b.set ≡ a.set
  pub log : b.log ≡ a.log
  pub state : b.state ≡ a.state

module _ {S M N K : Type 0} (has : K → ℕ → Bool) where
  -- the copy represents clone c
  abbrev pub Carries : Copy S M N K → ℕ → Type 0
  Carries a c = has a.set c ≡ true

  -- no clone is in two of the copies
  abbrev pub Disjoint : List (Copy S M N K) → Type 0
  Disjoint [] = ⊤
  Disjoint (a ∷ as_copies) = AllByRecursion (λ b. (c : ℕ) → Carries a c → ¬ (Carries b c)) as_copies
      × Disjoint as_copies

  -- the old copies, split: each new one has some clones of an old one. Those of one old copy have different logs, and
  -- no clone is in two
  pub record IsSplit (old new : List (Copy S M N K)) : Type 0 where
    pub inhabited : (b : Copy S M N K) → In b new → (c : ℕ) × Carries b c
    pub from : (b : Copy S M N K) → In b new →
        (a : Copy S M N K) × In a old × ((c : ℕ) → Carries b c → Carries a c)
    pub parted : (a b1 b2 : Copy S M N K) (c d : ℕ) → In a old → In b1 new → In b2 new → Carries a c → Carries a d →
        Carries b1 c → Carries b2 d → b1.log ≡ b2.log → b1 ≡ b2
    pub disjoint : Disjoint new

module _ {S M N K : Type 0} (sim : Simulation S M N) (join : K → K → K) (s : ℕ) where
  -- the copy has handled m for all its clones
  abbrev pub handled_by : Copy S M N K → M → List (M × K) → Copy S M N K
  handled_by a m q = let h = sim.handle s a.state m in record {
    set = a.set;
    state = h.state;
    log = a.log ++ record { msg = m; line = h.line } ∷ [];
    pending = insert_marked_all join sim.order (to_it sim.to s h.sends) a.set q;
  }

module _ {S M N K : Type 0} (sim : Simulation S M N) (s : ℕ) where
  -- its sends to other stations then, marked with its clones
  abbrev pub sends_aside : Copy S M N K → M → List (M × K)
  sends_aside a m = map (λ x. (x, a.set)) (to_others sim.to s (sim.handle s a.state m).sends)

module _ {S M N : Type 0} (sim : Simulation S M N) where
  -- sends at the end or later are dropped
  abbrev pub handle_until : ℕ → ℕ → S → M → Outcome S M N
  handle_until end s st m = let h = sim.handle s st m in
      record { state = h.state; sends = earlier_than sim.time end h.sends; line = h.line }

-- the clone whose past c has: `old` if c is `new`, otherwise c itself
abbrev pub origin_of : ℕ → ℕ → ℕ → ℕ
origin_of old new c = if c == new then old else c

module _ {S M N K : Type 0} (sim : Simulation S M N) (has : K → ℕ → Bool) where
  -- the copies `done` have the same sets of clones as the copies `new`; no clone is in two, and their messages are in
  -- order
  pub record HaveClones (new done : List (Copy S M N K)) : Type 0 where
    pub each : (a : Copy S M N K) → In a new → (b : Copy S M N K) × In b done × (b.set ≡ a.set)
    pub disjoint : Disjoint has done
    pub sorted : (a : Copy S M N K) → In a done → SortedMarked sim.order a.pending

-- each clone c ends at `ends c`
module _ {S M N K : Type 0} (sim : Simulation S M N) (has : K → ℕ → Bool) (ends : ℕ → ℕ) where
  -- clone c takes a message of the simulation
  abbrev pub takes : M → K → ℕ → Bool
  takes = takes_at sim.time has ends

  -- the same, if the clone `new` ends when the clone `old` does
  abbrev pub takes_as : ℕ → ℕ → M → K → ℕ → Bool
  takes_as old new = takes_at sim.time has (λ c. ends (origin_of old new c))

  -- all clones of a copy take a message
  abbrev pub AllTake : Copy S M N K → M → K → Type 0
  AllTake r m k = (c : ℕ) → Carries has r c → takes m k c ≡ true

  -- no clone of a copy takes it
  abbrev pub NoneTakes : Copy S M N K → M → K → Type 0
  NoneTakes r m k = (c : ℕ) → Carries has r c → takes m k c ≡ false

  -- the messages that clone c takes
  abbrev pub messages_taken : ℕ → List (M × K) → List M
  messages_taken c xs = part takes c xs

  -- a copy, and the messages that its station has laid aside, as clone c sees them
  abbrev pub view : ℕ → Copy S M N K → List (M × K) → Config (LocalStation S M N) M
  view c a sent = record {
    at = record { state = a.state; log = a.log; aside = messages_taken c sent };
    pending = messages_taken c a.pending;
  }

  -- some of the clones of r, and r for them
  pub record IsNarrowed (r some : Copy S M N K) : Type 0 where
    pub state : some.state ≡ r.state
    pub log : some.log ≡ r.log
    pub within : (c : ℕ) → Carries has some c → Carries has r c
    pub parts : (c : ℕ) → Carries has some c → messages_taken c some.pending ≡ messages_taken c r.pending

  module _ (s bound : ℕ) where
    -- the turns of clone c, before the bound
    abbrev pub Turns : ℕ → Config (LocalStation S M N) M → Config (LocalStation S M N) M → Type 0
    Turns c = Reach sim.order sim.time (local_step sim.to (handle_until sim (ends c)) s) bound

    -- l is a log of one of the clones of r at the bound, cut to the limit
    pub record IsCutLog (r : Copy S M N K) (sent : List (M × K)) (l : List (Entry M N)) : Type 0 where
      pub clone : ℕ
      pub is_in : Carries has r clone
      pub last : Config (LocalStation S M N) M
      pub ran : Turns clone (view clone r sent) last
      pub settled : IsSettled sim.time bound last
      pub is : l ≡ take sim.limit last.at.log

    -- p is a prefix that the logs of a copy's clones gain, each cut to the limit
    abbrev pub Gains : Copy S M N K → List (Entry M N) → Type 0
    Gains a = IsGained (IsCutLog a []) a.log

    -- p is a prefix that one of the copies gains
    abbrev pub GainedBy : List (Copy S M N K) → List (Entry M N) → Type 0
    GainedBy old p = (a : Copy S M N K) × In a old × Gains a p

    -- the copies gain n prefixes, counted for each copy separately
    abbrev pub GainTogether : List (Copy S M N K) → ℕ → Type 0
    GainTogether [] n = n ≡ 0
    GainTogether (a ∷ as_copies) n = (m : ℕ) × (k : ℕ) × IsCount (Gains a) m × GainTogether as_copies k × (n ≡ m + k)

    -- the log of clone c gets longer than the limit
    abbrev pub GoesOver : Copy S M N K → List (M × K) → ℕ → Type 0
    GoesOver r sent c = (last : Config (LocalStation S M N) M) →
        Turns c (view c r sent) last → IsSettled sim.time bound last →
        sim.limit < length last.at.log

    -- the results of r at the bound, as copies, each with the clones' turns taken. Clones whose logs get too long are
    -- over the limit. The logs, cut to the limit, gained n prefixes
    pub record ComesTo (r : Copy S M N K) (results : List (Copy S M N K)) (before after : List (M × K))
        (over over_after : K)
        (n : ℕ) : Type 0 where
      pub inhabited : (b : Copy S M N K) → In b results → (c : ℕ) × Carries has b c
      pub gained : IsCount (IsGained (IsCutLog r before) r.log) n
      pub within : (b : Copy S M N K) (c : ℕ) → In b results → Carries has b c → Carries has r c
      pub ran : (b : Copy S M N K) (c : ℕ) → In b results → Carries has b c →
          Turns c (view c r before) (view c b after) × IsSettled sim.time bound (view c b after)
      pub length_max : (b : Copy S M N K) → In b results → length b.log ≤ sim.limit
      pub some : (c : ℕ) → Carries has r c →
          ((b : Copy S M N K) × In b results × Carries has b c) ⊎ (has over_after c ≡ true)
      pub too_long : (c : ℕ) → has over_after c ≡ true → (has over c ≡ true) ⊎ (Carries has r c × GoesOver r before c)
      pub still_over : (c : ℕ) → has over c ≡ true → has over_after c ≡ true
      pub parted : (a b : Copy S M N K) (c d : ℕ) → In a results → In b results → Carries has a c → Carries has b d →
          a.log ≡ b.log → a ≡ b
      pub disjoint : Disjoint has results
      pub others : (c : ℕ) → has r.set c ≡ false → messages_taken c after ≡ messages_taken c before

    -- the window of clone c alone, from the copy a
    abbrev pub alone_from : Copy S M N K → ℕ → Config (LocalStation S M N) M
    alone_from a c = local_run sim s a.log a.state (messages_taken c a.pending) bound (ends c)

    -- the result of a step of a station's copies: for each clone the result of its window alone, before its end
    pub record IsStepped (old new : List (Copy S M N K)) (out : List (M × K)) : Type 0 where
      pub split : IsSplit has old new
      pub carried : (a : Copy S M N K) (c : ℕ) → In a old → Carries has a c →
          (b : Copy S M N K) × In b new × Carries has b c
      pub log : (a b : Copy S M N K) (c : ℕ) → In a old → In b new → Carries has a c → Carries has b c →
          b.log ≡ (alone_from a c).at.log
      pub state : (a b : Copy S M N K) (c : ℕ) → In a old → In b new → Carries has a c → Carries has b c →
          b.state ≡ (alone_from a c).at.state
      pub pending : (a b : Copy S M N K) (c : ℕ) → In a old → In b new → Carries has a c → Carries has b c →
          messages_taken c b.pending ≡ earlier_than sim.time (ends c) (alone_from a c).pending
      pub sent : (a : Copy S M N K) (c : ℕ) → In a old → Carries has a c →
          messages_taken c out ≡ earlier_than sim.time (ends c) (alone_from a c).at.aside

    -- the clones over the limit are those whose windows alone produce logs that are too long
    pub record AreOver (old : List (Copy S M N K)) (over : K) : Type 0 where
      pub from : (c : ℕ) → has over c ≡ true →
          (a : Copy S M N K) × In a old × Carries has a c × (sim.limit < length (alone_from a c).at.log)
      pub all : (a : Copy S M N K) (c : ℕ) → In a old → Carries has a c → sim.limit < length (alone_from a c).at.log →
          has over c ≡ true

    -- the copies stepped so far
    pub record SoFar (old new : List (Copy S M N K)) (out : List (M × K)) (over0 over : K) : Type 0 where
      pub split : IsSplit has old new
      pub carried : (a : Copy S M N K) (c : ℕ) → In a old → Carries has a c →
          ((b : Copy S M N K) × In b new × Carries has b c) ⊎ (has over c ≡ true)
      pub ran : (a b : Copy S M N K) (c : ℕ) → In a old → In b new → Carries has a c → Carries has b c →
          Turns c (view c a []) (view c b out) × IsSettled sim.time bound (view c b out)
      pub length_max : (b : Copy S M N K) → In b new → length b.log ≤ sim.limit
      pub too_long : (c : ℕ) → has over c ≡ true →
          (has over0 c ≡ true) ⊎ ((a : Copy S M N K) × In a old × Carries has a c × GoesOver a [] c)
      pub idle : (c : ℕ) → ((a : Copy S M N K) → In a old → Carries has a c → ⊥) → messages_taken c out ≡ []

  -- the copy b is a, with m also pending for the clones that take it
  pub record IsGiven (m : M) (k : K) (a b : Copy S M N K) : Type 0 where
    pub same : IsSameCopy a b
    pub parts : (c : ℕ) → Carries has a c →
        messages_taken c b.pending
        ≡ (if takes m k c then insert sim.order m (messages_taken c a.pending) else messages_taken c a.pending)
    pub sorted : SortedMarked sim.order b.pending

  -- the copies after the messages msgs
  pub record SoFarGiven (msgs : List (M × K)) (new done : List (Copy S M N K)) : Type 0 where
    pub from : (b : Copy S M N K) → In b done →
        (a : Copy S M N K) × In a new × IsSameCopy a b
        × ((c : ℕ) (z : M) → Carries has a c → In z (messages_taken c b.pending)
        → In z (messages_taken c a.pending) ⊎ In z (messages_taken c msgs))
        × ((c : ℕ) (z : M) → Carries has a c → In z (messages_taken c a.pending) ⊎ In z (messages_taken c msgs)
        → In z (messages_taken c b.pending))
    pub clones : HaveClones sim has new done

  -- the copy b is a with the clone `new` added to the clone `old`. For `new` it has the messages that a has for `old`,
  -- and the rest is unchanged
  pub record IsForked (old new : ℕ) (a b : Copy S M N K) : Type 0 where
    pub log : b.log ≡ a.log
    pub state : b.state ≡ a.state
    pub set : (c : ℕ) → has b.set c ≡ has a.set (origin_of old new c)
    pub parts : (c : ℕ) → part (takes_as old new) c b.pending ≡ messages_taken (origin_of old new c) a.pending
    pub sorted : SortedMarked sim.order b.pending

module _ {M K : Type 0} (only : K) where
  -- the opening message of a station, for a set of clones
  abbrev pub first_pending : Option M → List (M × K)
  first_pending None = []
  first_pending (Some m) = (m, only) ∷ []

module _ {S M N K : Type 0} (sim : Simulation S M N) (only : K) where
  -- the copy of a station before anything was handled
  abbrev pub first_copy : ℕ → Copy S M N K
  first_copy s = record {
    set = only;
    state = (sim.setup s).state;
    log = [];
    pending = first_pending only (sim.setup s).first;
  }

module _ {S M N : Type 0} (sim : Simulation S M N) where
  -- the end of the clone at a place
  abbrev pub ends_of : List Clone → ℕ → ℕ
  ends_of cs c = end_of sim (clone_at cs c)

module _ {S M N K : Type 0} (sim : Simulation S M N) (has : K → ℕ → Bool) (cs : List Clone) where
  -- the copies of station s represent the clones at a time by their logs and states. Each clone is in one copy, which
  -- has the clone's log and state; clones with equal logs are in one copy. The pending messages are in order, and
  -- otherwise arbitrary
  pub record StandsByLogs (time s : ℕ) (copies : List (Copy S M N K)) : Type 0 where
    pub inhabited : (a : Copy S M N K) → In a copies → (c : ℕ) × Carries has a c
    pub carried : (c : ℕ) → c < length cs → (a : Copy S M N K) × In a copies × Carries has a c
    pub living : (a : Copy S M N K) (c : ℕ) → In a copies → Carries has a c → c < length cs
    pub disjoint : Disjoint has copies
    pub log : (a : Copy S M N K) (c : ℕ) → In a copies → Carries has a c → a.log ≡ log_at sim (clone_at cs c) s time
    pub state : (a : Copy S M N K) (c : ℕ) → In a copies → Carries has a c →
        a.state ≡ state_at sim (clone_at cs c) s time
    pub shared : (a b : Copy S M N K) (c d : ℕ) → In a copies → In b copies → Carries has a c → Carries has b d →
        log_at sim (clone_at cs c) s time ≡ log_at sim (clone_at cs d) s time → a ≡ b
    pub sorted : (a : Copy S M N K) → In a copies → SortedMarked sim.order a.pending

  -- the copies of station s represent the clones at a front. Each clone is in one copy, which has the clone's log,
  -- state and due messages. Clones with equal logs are in one copy
  pub record Stands (front s : ℕ) (copies : List (Copy S M N K)) : Type 0 where
    pub inhabited : (a : Copy S M N K) → In a copies → (c : ℕ) × Carries has a c
    pub carried : (c : ℕ) → c < length cs → (a : Copy S M N K) × In a copies × Carries has a c
    pub living : (a : Copy S M N K) (c : ℕ) → In a copies → Carries has a c → c < length cs
    pub disjoint : Disjoint has copies
    pub log : (a : Copy S M N K) (c : ℕ) → In a copies → Carries has a c → a.log ≡ log_at sim (clone_at cs c) s front
    pub state : (a : Copy S M N K) (c : ℕ) → In a copies → Carries has a c →
        a.state ≡ state_at sim (clone_at cs c) s front
    pub due : (a : Copy S M N K) (c : ℕ) → In a copies → Carries has a c →
        messages_taken sim has (ends_of sim cs) c a.pending ≡ due_at sim (clone_at cs c) s front
    pub shared : (a b : Copy S M N K) (c d : ℕ) → In a copies → In b copies → Carries has a c → Carries has b d →
        log_at sim (clone_at cs c) s front ≡ log_at sim (clone_at cs d) s front → a ≡ b
    pub sorted : (a : Copy S M N K) → In a copies → SortedMarked sim.order a.pending

  -- the copy b is a plus the messages sent to station s: each clone its own
  pub record HasReceived (s : ℕ) (sent : ℕ → List (M × K)) (a b : Copy S M N K) : Type 0 where
    pub same : IsSameCopy a b
    pub from : (c : ℕ) (z : M) → Carries has a c → In z (messages_taken sim has (ends_of sim cs) c b.pending) →
        In z (messages_taken sim has (ends_of sim cs) c a.pending)
        ⊎ ((r : ℕ) × In z (messages_taken sim has (ends_of sim cs) c (sent r)) × (sim.to z ≡ s))
    pub still : (c : ℕ) (z : M) → Carries has a c → In z (messages_taken sim has (ends_of sim cs) c a.pending) →
        In z (messages_taken sim has (ends_of sim cs) c b.pending)
    pub got : (c r : ℕ) (z : M) → Carries has a c
        → In z (messages_taken sim has (ends_of sim cs) c (sent r)) → sim.to z ≡ s →
        In z (messages_taken sim has (ends_of sim cs) c b.pending)

  -- the messages of the stations to station s have reached its copies
  pub record IsDelivered (s : ℕ) (sent : ℕ → List (M × K)) (new done : List (Copy S M N K)) : Type 0 where
    pub from : (b : Copy S M N K) → In b done → (a : Copy S M N K) × In a new × HasReceived s sent a b
    pub one : (a b : Copy S M N K) → In a done → In b done → (c : ℕ) → Carries has a c → Carries has b c → a ≡ b
    pub clones : HaveClones sim has new done
