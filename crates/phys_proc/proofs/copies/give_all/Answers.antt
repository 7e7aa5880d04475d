use Rattle.std.proofs.Common.{◌≡◌, ◌≢◌, ◌==◌, ◌⊎◌, inl, inr, true, false, ap, sym, subst, ◌∙◌, min, eqb-true}
use Rattle.std.specs.Prelude.{if◌then◌else◌}
use Rattle.std.specs.Int.Bits.{and_self}
use Rattle.std.proofs.lemmas.Bool.{cases_Bool}
use Rattle.sim_base.specs.Order.{msg_cmp}
use Rattle.sim_base.specs.Pending.{insert_marked}
use Rattle.sim_base.specs.declared.message.Msg.{Msg}
use Rattle.clone_sets.specs.Sets.{union, meet, empty}
use Rattle.clone_sets.specs.declared.set.CloneSet.{CloneSet}
use Rattle.copy_pending.specs.Merged.{messages_of}
use Rattle.phys_proc.specs.Own.{StationCopy, MarkedMessages, IsLowerBound, with_message}
use Rattle.phys_proc.proofs.CopyBounds.{bound_inserted}
use Rattle.phys_proc.proofs.copies.give_all.Goals as goal

-- the clones of a set that are in it are its own
meet-itself : (k : CloneSet) → meet k k ≡ k
unfolding meet
meet-itself k = and_self k

-- a set with clones is not the empty one
not_empty : (k : CloneSet) → k ≢ empty → (k == empty) ≡ false
not_empty k some = by (cases_Bool (k == empty))
  where
    by : ((k == empty) ≡ true) ⊎ ((k == empty) ≡ false) → (k == empty) ≡ false
    by (inl t) = absurd (some (eqb-true k empty t))
    by (inr f) = f

-- a message for all clones of a copy that has some
with_all : (m : Msg) (a : StationCopy) → a.set ≢ empty
    → with_message m a.set a ≡ record a { pending = insert_marked union msg_cmp m a.set a.pending }
with_all m a some =
    ap (λ k. record a { pending = if k == empty then a.pending else insert_marked union msg_cmp m k a.pending })
    (meet-itself a.set)
    ∙ ap (λ b. record a { pending = if b then a.pending else insert_marked union msg_cmp m a.set a.pending })
    (not_empty a.set some)

pub returns-clause-given : goal.returns-clause-given
returns-clause-given c =
    let i = c.copy.inside in
    let a : StationCopy = record {
      set = i.pending.set;
      state = i.state;
      log = i.log;
      pending = messages_of i.pending;
    } in
    let new = messages_of c.insert_packed.new.self in
    let some : a.set ≢ empty = subst (λ (u : StationCopy). u.set ≢ empty) (sym c.copy.view_is) c.requires.nonempty in
    ap (λ (k : CloneSet). record a { set = k; pending = new }) c.in_ok-insert_packed.ensures.same
    ∙ ap (λ (q : MarkedMessages). record a { pending = q }) c.in_ok-insert_packed.ensures.ok
    ∙ sym (with_all c.args.msg a some) ∙ ap (λ (u : StationCopy). with_message c.args.msg u.set u) c.copy.view_is

pub returns-clause-lower : goal.returns-clause-lower
returns-clause-lower c = bound_inserted c.args.lower_bound.now c.min.result c.args.msg c.copy.inside.pending.set
    (messages_of c.copy.inside.pending) (messages_of c.insert_packed.new.self)
    (c.min.ensures ∙ ap (λ t. min c.args.lower_bound.now t) c.time.ensures.value) c.in_ok-insert_packed.ensures.ok
    (subst (IsLowerBound c.args.lower_bound.now) (sym c.copy.view_is) c.requires.lower)
