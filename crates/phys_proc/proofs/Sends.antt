-- What a station sends, message by message.
use Rattle.std.proofs.Common.{◌≡◌, ℕ, true, List, [], ◌∷◌, inl, inr, sym, ◌∙◌}
use Rattle.std.specs.List.{AllByRecursion}
use Rattle.std.specs.declared.cmp.Ordering.{Ordering}
use Rattle.std.specs.declared.cmp.Ordering.TheVariants.{Less, Equal, Greater}
use Rattle.std.proofs.lemmas.Bool.{or_left, or_cases}
use Rattle.sim_base.specs.Order.{msg_cmp}
use Rattle.sim_base.specs.Pending.{place_marked, insert_marked}
use Rattle.sim_base.specs.declared.message.Msg.{Msg}
use Rattle.clone_sets.specs.Sets.{has, union}
use Rattle.clone_sets.proofs.SetLaws.{has-union}
use Rattle.clone_sets.specs.declared.set.CloneSet.{CloneSet}
use Rattle.run_laws.specs.Copies.{insert_marked_all}
use Rattle.phys_proc.specs.Own.{MarkedMessages, AreMarks}
use Rattle.phys_proc.proofs.Counting.{not_empty, empty_within}

-- ---- insert_marked, of messages

module _ (P : Msg → Type 0) (set : CloneSet) where
  -- a property of a message and of the present ones holds of all, wherever it is put
  all_placed : (r : Ordering) (m : Msg) (y : Msg × CloneSet) (ys rest : MarkedMessages) → P m
      → AllByRecursion (λ x. P x.0) (y ∷ ys) → AllByRecursion (λ x. P x.0) rest
      → AllByRecursion (λ x. P x.0) (place_marked union r m set y ys rest)
  all_placed Less m y ys rest p f g = (p, f)
  all_placed Equal m y ys rest p f g = f
  all_placed Greater m y ys rest p f g = (f.0, g)

  -- a property of the present messages and of a new one holds of all, once it is put in its place
  pub all_inserted : (m : Msg) (q : MarkedMessages) → P m → AllByRecursion (λ x. P x.0) q
      → AllByRecursion (λ x. P x.0) (insert_marked union msg_cmp m set q)
  all_inserted m [] p f = (p, tt)
  all_inserted m (y ∷ ys) p f = all_placed (msg_cmp m y.0) m y ys (insert_marked union msg_cmp m set ys) p f
      (all_inserted m ys p f.1)

  -- a property of the present messages and of the new ones
  pub all_inserted_all : (ms : List Msg) (q : MarkedMessages) → AllByRecursion P ms → AllByRecursion (λ x. P x.0) q
      → AllByRecursion (λ x. P x.0) (insert_marked_all union msg_cmp ms set q)
  all_inserted_all [] q p f = f
  all_inserted_all (m ∷ ms) q p f = all_inserted_all ms (insert_marked union msg_cmp m set q) p.1
      (all_inserted m q p.0 f)

-- ---- insert_marked, of marks

-- a property of the present marks and of the new ones, and of marks that are joined
module _ (P : CloneSet → Type 0) (joined : (a b : CloneSet) → P a → P b → P (union a b)) (set : CloneSet)
    (new : P set) where
  -- it holds of all marks, wherever the new ones are put
  marks_placed : (r : Ordering) (m : Msg) (y : Msg × CloneSet) (ys rest : MarkedMessages)
      → AllByRecursion (λ x. P x.1) (y ∷ ys) → AllByRecursion (λ x. P x.1) rest
      → AllByRecursion (λ x. P x.1) (place_marked union r m set y ys rest)
  marks_placed Less m y ys rest f g = (new, f)
  marks_placed Equal m y ys rest f g = (joined y.1 set f.0 new, f.1)
  marks_placed Greater m y ys rest f g = (f.0, g)

  -- it holds of all marks once a message with the new marks is put in its place
  pub marks_inserted : (m : Msg) (q : MarkedMessages) → AllByRecursion (λ x. P x.1) q
      → AllByRecursion (λ x. P x.1) (insert_marked union msg_cmp m set q)
  marks_inserted m [] f = (new, tt)
  marks_inserted m (y ∷ ys) f = marks_placed (msg_cmp m y.0) m y ys (insert_marked union msg_cmp m set ys) f
      (marks_inserted m ys f.1)

  -- and once several are
  pub marks_inserted_all : (ms : List Msg) (q : MarkedMessages) → AllByRecursion (λ x. P x.1) q
      → AllByRecursion (λ x. P x.1) (insert_marked_all union msg_cmp ms set q)
  marks_inserted_all [] q f = f
  marks_inserted_all (m ∷ ms) q f = marks_inserted_all ms (insert_marked union msg_cmp m set q) (marks_inserted m q f)

-- ---- AreMarks

-- marks of a copy that are joined are marks of it
pub marks_join : (set a b : CloneSet) → AreMarks set a → AreMarks set b → AreMarks set (union a b)
marks_join set a b f g = record {
  nonempty = λ e. f.nonempty (empty_within a (union a b)
      (λ c y. has-union a b c ∙ or_left (has a c) (has b c) y) e);
  within = λ c i. elim (or_cases (has a c) (has b c) (sym (has-union a b c) ∙ i)) [
    | inl y ↦ f.within c y
    | inr y ↦ g.within c y
  ];
}

-- all of its clones, if there are some
pub whole_marks : (set : CloneSet) (c : ℕ) → has set c ≡ true → AreMarks set set
whole_marks set c i = record {
  nonempty = not_empty set c i;
  within = λ d j. j;
}
