-- Equal messages as one, with the marks of all.
use Rattle.std.specs.Prelude.{◌≡◌, ℕ, ◌&&◌, Bool, List, [], ◌∷◌}
use Rattle.std.specs.List.{list_any}
use Rattle.std.specs.List.Sorted.{IsStrictlySortedBy}
use Rattle.std.specs.Map.{keys_of}
use Rattle.std.specs.Ordering.{is_eq}
use Rattle.sim_base.specs.Pending.{insert_marked}
use Rattle.sim_base.specs.Order.{msg_cmp}
use Rattle.sim_base.specs.declared.message.Msg.{Msg}
use Rattle.clone_sets.specs.Sets.{has, union}
use Rattle.clone_sets.specs.declared.set.CloneSet.{CloneSet}

-- each message in turn is put in its place, or joined to its equal
abbrev pub group_onto : List (Msg × CloneSet) → List (Msg × CloneSet) → List (Msg × CloneSet)
group_onto [] grouped = grouped
group_onto (x ∷ xs) grouped = group_onto xs (insert_marked union msg_cmp x.0 x.1 grouped)

-- all of them, starting with none
abbrev pub group_of : List (Msg × CloneSet) → List (Msg × CloneSet)
group_of sent = group_onto sent []

-- whether the message is among these for this clone
abbrev pub is_for : Msg → ℕ → List (Msg × CloneSet) → Bool
is_for m c sent = list_any (λ x. is_eq (msg_cmp m x.0) && has x.1 c) sent

-- the same messages for the same clones, in the order of messages, each message once
pub record IsGrouped (sent grouped : List (Msg × CloneSet)) : Type 0 where
  pub same : (m : Msg) (c : ℕ) → is_for m c grouped ≡ is_for m c sent
  pub ordered : IsStrictlySortedBy msg_cmp (keys_of grouped)
