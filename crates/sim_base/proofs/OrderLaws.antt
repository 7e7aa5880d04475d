-- The order of messages is total, and so is the order of entries.
use Rattle.std.proofs.Common.{◌≡◌, ℕ, ◌<◌, refl, sym, Ordering, Less, nat_cmp}
use Rattle.std.specs.Ordering.{ordering_then}
use Rattle.std.specs.Cmp.{IsTotalOrder, nat_cmp_total, nat_cmp_is}
use Rattle.std.proofs.lemmas.Cmp.{on_total, then_total}
use Rattle.sim_base.specs.declared.message.Key.{Key}
use Rattle.sim_base.specs.declared.message.Msg.{Msg}
use Rattle.sim_base.specs.declared.message.Payload.{Payload}
use Rattle.sim_base.specs.declared.message.Payload.TheVariants.{Tick, Job, Done, Set}
use Rattle.sim_base.specs.declared.entry.Entry.{Entry}
use Rattle.sim_base.specs.Order.{key_order, payload_cmp, payload_index, param_index, msg_cmp}
use Rattle.sim_base.specs.Entries.{entry_order}

-- ---- nat_cmp

-- a lower number comes before
pub nat_cmp-lt : (m n : ℕ) → m < n → nat_cmp m n ≡ Less
nat_cmp-lt m n l = sym (nat_cmp_is m n Less l)

-- ---- key_order and entry_order

module _ {M : Type 0} (time sender number : M → ℕ) where
  -- the order of keys is total
  pub key_total : IsTotalOrder (key_order time sender number)
  key_total = then_total (on_total time nat_cmp_total)
      (then_total (on_total sender nat_cmp_total) (on_total number nat_cmp_total))

  -- and so is the order of entries by key
  pub entry_total : (N : Type 0) → IsTotalOrder (entry_order {M = M} {N = N} time sender number)
  entry_total N = on_total (λ (e : Entry M N). e.msg) key_total

-- ---- payload_cmp

-- the first number that orders payloads of one kind
abbrev first_of : Payload → ℕ
first_of Tick = 0
first_of (Job j) = j.source
first_of (Done j) = j.source
first_of (Set c) = param_index c.param

-- the second
abbrev second_of : Payload → ℕ
second_of Tick = 0
second_of (Job j) = j.count
second_of (Done j) = j.count
second_of (Set c) = c.a

-- and the third
abbrev third_of : Payload → ℕ
third_of Tick = 0
third_of (Job j) = j.born
third_of (Done j) = j.born
third_of (Set c) = c.b

-- payloads by kind, and then by these three numbers
abbrev by_numbers : Payload → Payload → Ordering
by_numbers p q =
    ordering_then (nat_cmp (payload_index p) (payload_index q))
    (ordering_then (nat_cmp (first_of p) (first_of q))
    (ordering_then (nat_cmp (second_of p) (second_of q)) (nat_cmp (third_of p) (third_of q))))

-- this order is total
by_numbers_total : IsTotalOrder by_numbers
by_numbers_total =
    then_total (on_total payload_index nat_cmp_total)
    (then_total (on_total first_of nat_cmp_total)
    (then_total (on_total second_of nat_cmp_total) (on_total third_of nat_cmp_total)))

-- and it is the order of payloads
same_order : (p q : Payload) → by_numbers p q ≡ payload_cmp p q
same_order Tick Tick = refl
same_order Tick (Job b) = refl
same_order Tick (Done b) = refl
same_order Tick (Set b) = refl
same_order (Job a) Tick = refl
same_order (Job a) (Job b) = refl
same_order (Job a) (Done b) = refl
same_order (Job a) (Set b) = refl
same_order (Done a) Tick = refl
same_order (Done a) (Job b) = refl
same_order (Done a) (Done b) = refl
same_order (Done a) (Set b) = refl
same_order (Set a) Tick = refl
same_order (Set a) (Job b) = refl
same_order (Set a) (Done b) = refl
same_order (Set a) (Set b) = refl

-- so the order of payloads is total
payload_total : IsTotalOrder payload_cmp
payload_total = record {
  antisymm = λ p q. rw (← same_order p q, ← same_order q p) (by_numbers_total.antisymm p q);
  trans = λ p q r. rw (← same_order p q, ← same_order q r, ← same_order p r) (by_numbers_total.trans p q r);
  congr = λ p q r. rw (← same_order p q, ← same_order p r, ← same_order q r) (by_numbers_total.congr p q r);
}

-- ---- msg_cmp

-- the order of messages is total
pub msg_total : IsTotalOrder msg_cmp
msg_total = then_total (on_total (λ (m : Msg). m.key) (key_total (λ (k : Key). k.time) (λ k. k.sender) (λ k. k.number)))
    (then_total (on_total (λ (m : Msg). m.to) nat_cmp_total) (on_total (λ (m : Msg). m.payload) payload_total))
