-- Messages that are not ordered are equal, and ordered ones are ordered by time.
use Rattle.std.proofs.Common.{◌≡◌, ℕ, zero, suc, ◌≤◌, ◌<◌, ◌⊎◌, inl, inr, refl}
use Rattle.std.proofs.Common.{sym, ap, ◌∙◌, subst, Ordering, Less, Equal, Greater, nat_cmp, arith}
use Rattle.std.specs.Ordering.{MatchOrdering, ordering_then}
use Rattle.std.specs.Cmp.{ranks, nat_cmp_is}
use Rattle.sim_base.specs.declared.message.Key.{Key}
use Rattle.sim_base.specs.declared.message.Msg.{Msg}
use Rattle.sim_base.specs.declared.message.Job.{Job as JobOf}
use Rattle.sim_base.specs.declared.message.Change.{Change}
use Rattle.sim_base.specs.declared.message.Param.{Param}
use Rattle.sim_base.specs.declared.message.Param.TheVariants.{Every, Service, Hold, Servers, Room, Weight}
use Rattle.sim_base.specs.declared.message.Payload.{Payload}
use Rattle.sim_base.specs.declared.message.Payload.TheVariants.{Tick, Job, Done, Set}
use Rattle.sim_base.specs.Order.{key_cmp, job_cmp, param_index, change_cmp, payload_cmp, msg_cmp}

-- ---- ordering_then

-- if two orders in turn tie, each does
both_equal : (o p : Ordering) → ordering_then o p ≡ Equal → (o ≡ Equal) × (p ≡ Equal)
both_equal Less p e = absurd (cc)
both_equal Equal p e = (refl, e)
both_equal Greater p e = absurd (cc)

-- if two orders in turn are Less, the first is Less or a tie
ordering_then-Less : (o p : Ordering) → ordering_then o p ≡ Less → (o ≡ Less) ⊎ (o ≡ Equal)
ordering_then-Less Less p e = inl refl
ordering_then-Less Equal p e = inr refl
ordering_then-Less Greater p e = absurd (cc)

-- less by the first of two orders means less
pub ordering_then-lt : (x y : ℕ) (s : Ordering) → x < y → ordering_then (nat_cmp x y) s ≡ Less
ordering_then-lt x y s l = ap (λ o. ordering_then o s) (sym (nat_cmp_is x y Less l))

-- and less by both means not greater by the first
pub ordering_then-le : (x y : ℕ) (s : Ordering) → ordering_then (nat_cmp x y) s ≡ Less → x ≤ y
ordering_then-le x y s e = by (nat_cmp x y) (ranks x y) e
  where
    -- by how the two numbers lie
    by : (r : Ordering) → MatchOrdering r (x < y) (x ≡ y) (y < x) → ordering_then r s ≡ Less → x ≤ y
    by Less h e = omega (arith, h)
    by Equal h e = omega (arith, h)
    by Greater h e = let n : ⊥ = cc in absurd n

-- ---- nat_cmp

-- numbers that tie are equal
nat_same : (x y : ℕ) → nat_cmp x y ≡ Equal → x ≡ y
nat_same x y e = subst (λ r. MatchOrdering r (x < y) (x ≡ y) (y < x)) e (ranks x y)

-- three numbers that tie one after another are equal
pub three_same : (a b c x y z : ℕ) → ordering_then (nat_cmp a x) (ordering_then (nat_cmp b y) (nat_cmp c z)) ≡ Equal
    → (a ≡ x) × (b ≡ y) × (c ≡ z)
three_same a b c x y z e =
    let first = both_equal (nat_cmp a x) (ordering_then (nat_cmp b y) (nat_cmp c z)) e in
    let second = both_equal (nat_cmp b y) (nat_cmp c z) first.1 in
    (nat_same a x first.0, nat_same b y second.0, nat_same c z second.1)

-- ---- key_cmp and job_cmp

-- keys that tie are equal
key_same : (a b : Key) → key_cmp a b ≡ Equal → a ≡ b
key_same a b e =
    let parts = three_same a.time a.sender a.number b.time b.sender b.number e in
    λ i. record { time = parts.0 i; sender = parts.1 i; number = parts.2 i }

-- jobs that tie are equal
job_same : (a b : JobOf) → job_cmp a b ≡ Equal → a ≡ b
job_same a b e =
    let parts = three_same a.source a.count a.born b.source b.count b.born e in
    λ i. record { source = parts.0 i; count = parts.1 i; born = parts.2 i }

-- ---- change_cmp

-- the parameter at a place among all of them
abbrev param_at : ℕ → Param
param_at zero = Every
param_at (suc zero) = Service
param_at (suc (suc zero)) = Hold
param_at (suc (suc (suc zero))) = Servers
param_at (suc (suc (suc (suc zero)))) = Room
param_at (suc (suc (suc (suc (suc n))))) = Weight

-- each parameter is at its place
param_back : (p : Param) → param_at (param_index p) ≡ p
param_back Every = refl
param_back Service = refl
param_back Hold = refl
param_back Servers = refl
param_back Room = refl
param_back Weight = refl

-- changes that tie are equal
pub change_same : (a b : Change) → change_cmp a b ≡ Equal → a ≡ b
change_same a b e =
    let parts = three_same (param_index a.param) a.a a.b (param_index b.param) b.a b.b e in
    let param : a.param ≡ b.param = sym (param_back a.param) ∙ (ap param_at parts.0 ∙ param_back b.param) in
    λ i. record { param = param i; a = parts.1 i; b = parts.2 i }

-- ---- payload_cmp

-- payloads that tie are equal
payload_same : (p q : Payload) → payload_cmp p q ≡ Equal → p ≡ q
payload_same Tick Tick e = refl
payload_same (Job a) (Job b) e = ap Job (job_same a b e)
payload_same (Done a) (Done b) e = ap Done (job_same a b e)
payload_same (Set a) (Set b) e = ap Set (change_same a b e)
payload_same Tick (Job b) e = absurd (cc)
payload_same Tick (Done b) e = absurd (cc)
payload_same Tick (Set b) e = absurd (cc)
payload_same (Job a) Tick e = absurd (cc)
payload_same (Job a) (Done b) e = absurd (cc)
payload_same (Job a) (Set b) e = absurd (cc)
payload_same (Done a) Tick e = absurd (cc)
payload_same (Done a) (Job b) e = absurd (cc)
payload_same (Done a) (Set b) e = absurd (cc)
payload_same (Set a) Tick e = absurd (cc)
payload_same (Set a) (Job b) e = absurd (cc)
payload_same (Set a) (Done b) e = absurd (cc)

-- ---- msg_cmp

-- messages that are not ordered are one message
pub msg_same : (a b : Msg) → msg_cmp a b ≡ Equal → a ≡ b
msg_same a b e =
    let first = both_equal (key_cmp a.key b.key) (ordering_then (nat_cmp a.to b.to) (payload_cmp a.payload b.payload))
    e in
    let second = both_equal (nat_cmp a.to b.to) (payload_cmp a.payload b.payload) first.1 in
    let key = key_same a.key b.key first.0 in
    let to = nat_same a.to b.to second.0 in
    let payload = payload_same a.payload b.payload second.1 in
    λ i. record { key = key i; to = to i; payload = payload i }

-- a message that comes before another has a lesser key or the same one
pub msg-keyed : (a b : Msg) → msg_cmp a b ≡ Less → (key_cmp a.key b.key ≡ Less) ⊎ (key_cmp a.key b.key ≡ Equal)
msg-keyed a b e = ordering_then-Less (key_cmp a.key b.key)
    (ordering_then (nat_cmp a.to b.to) (payload_cmp a.payload b.payload)) e

-- and no later time
pub msg-timed : (a b : Msg) → msg_cmp a b ≡ Less → a.key.time ≤ b.key.time
msg-timed a b e = elim (msg-keyed a b e) [
  | inl less ↦ ordering_then-le a.key.time b.key.time
      (ordering_then (nat_cmp a.key.sender b.key.sender) (nat_cmp a.key.number b.key.number)) less
  | inr equal ↦ (let h = ap (λ (k : Key). k.time) (key_same a.key b.key equal) in omega arith)
]
