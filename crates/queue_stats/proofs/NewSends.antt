-- New sends among pending messages: no send is pending already, so each of them counts.
use Rattle.std.proofs.Common.{◌≡◌, ℕ, suc, ◌+◌, ◌<◌, inl, inr, List, [], ◌∷◌, Bool, length, refl, ap, arith}
use Rattle.std.specs.List.{filter}
use Rattle.std.specs.declared.cmp.Ordering.{Ordering}
use Rattle.std.specs.declared.cmp.Ordering.TheVariants.{Less, Equal, Greater}
use Rattle.sim_base.specs.Order.{msg_cmp}
use Rattle.sim_base.specs.declared.message.Msg.{Msg}
use Rattle.run_laws.specs.Queue.{insert_by, insert, insert_all, In}
use Rattle.run_laws.specs.Handlers.{IsOrder}
use Rattle.run_laws.proofs.Queue.{in_insert}
use Rattle.net_model.specs.Net.{Net}
use Rattle.stations.specs.Sends.{AreSends}
use Rattle.queue_stats.specs.Figures.{one_if}
use Rattle.queue_stats.proofs.Lists.{filter-cons}

module _ {X : Type 0} {cmp : X → X → Ordering} (o : IsOrder cmp) (t : X → Bool) where
  -- an element counts once it is inserted, by its order with the first
  insert_by-counts : (r : Ordering) (x y : X) (ys rest : List X) → cmp x y ≡ r → (x ≡ y → ⊥)
      → length (filter t rest) ≡ one_if (t x) + length (filter t ys)
      → length (filter t (insert_by r x y ys rest)) ≡ one_if (t x) + length (filter t (y ∷ ys))
  insert_by-counts Less x y ys rest is apart more = filter-cons t x (y ∷ ys)
  insert_by-counts Equal x y ys rest is apart more = absurd (apart (o.same x y is))
  insert_by-counts Greater x y ys rest is apart more =
      let a = filter-cons t y rest in
      let b = filter-cons t y ys in
      omega (arith, a, b, more)

  -- an element that is not in the list counts once it is inserted
  insert-counts : (x : X) (q : List X) → (In x q → ⊥)
      → length (filter t (insert cmp x q)) ≡ one_if (t x) + length (filter t q)
  insert-counts x [] apart = filter-cons t x []
  insert-counts x (y ∷ ys) apart = insert_by-counts (cmp x y) x y ys (insert cmp x ys) refl (λ e. apart (inl e))
      (insert-counts x ys (λ i. apart (inr i)))

module _ (o : IsOrder msg_cmp) (t : Msg → Bool) (net : Net) (now s : ℕ) where
  -- the sends of a station all count once they are inserted, if their numbers are above those of its pending messages
  pub insert_all-counts : (k : ℕ) (xs q : List Msg) → AreSends net now s k xs
      → ((z : Msg) → In z q → z.key.sender ≡ s → z.key.number < k)
      → length (filter t (insert_all msg_cmp xs q)) ≡ length (filter t xs) + length (filter t q)
  insert_all-counts k [] q are used = omega arith
  insert_all-counts k (x ∷ xs) q are used =
      let sender = are.0.sender in
      let number = are.0.number in
      let one = insert-counts o t x q (λ i. let l = used x i sender in omega (arith, l, number)) in
      let rest = insert_all-counts (suc k) xs (insert msg_cmp x q) are.1
      (λ z i e. elim (in_insert o x q z i) [
        | inl same ↦ let n = ap (λ (m : Msg). m.key.number) same in omega (arith, n, number)
        | inr there ↦ let l = used z there e in omega (arith, l)
      ]) in
      let cons = filter-cons t x xs in
      omega (arith, one, rest, cons)
