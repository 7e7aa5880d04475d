use Rattle.std.proofs.Common.{ℕ, ◌≡◌, ◌+◌, ◌-◌, ◌*◌, ◌/◌, ◌%◌, ◌^◌, arith}
use Rattle.std.proofs.lemmas.Nat.{shr_split}
use Rattle.sim_base.specs.KeyWords.{key_word}
use Rattle.msg_heap.specs.Packing.{key_at, receiver_at}
use Rattle.msg_heap.proofs.Packing.{word_at}
use Rattle.log_chain.proofs.packed.PackedEntry.word_with.Goals as goal

-- the place is in the last six bits, and the rest is the word's own
with_place : (place high : ℕ) → high / 64 * 64 + place ≡ key_word place (key_at high)
with_place place high =
    let own : key_word (receiver_at high - 1) (key_at high) ≡ high = word_at high in
    let split : high / 2 ^ 6 * 2 ^ 6 + high % 2 ^ 6 ≡ high = shr_split high 6 in
    let last : receiver_at high - 1 ≡ high % 2 ^ 6 = omega arith in
    omega (arith, own, split, last)

pub returns : goal.returns
returns c = record { value = with_place c.args.place c.args.self.now.high }
